-- `group::find_extremes` meets its contract. The loop's invariant: the ends so far, with the values to come, have the smallest and the largest of all.
use Prim.Native.Nat.{ℕ, ◌+◌}
use native.Mathlib.Omega.{arith}
use mathlib.Core.Path.{◌∙◌, ap}
use mathlib.Core.List.{◌∷◌}
use lib.ListN.{drop}
use Rattle.group.specs.Repeatability.{smallest, largest}
use Rattle.exact.proofs.Gathering.{next, finished}
use Rattle.group.proofs.Gathering.{smallest_gathered, largest_gathered}
use Rattle.group.proofs.find_extremes.Goals as goal

pub loop-x-preserved : goal.loop-x-preserved
loop-x-preserved c = let l = c.loop-x in
    let xs = c.in_ok-first.rest.now in (
      ap (λ (n : ℕ). smallest (n ∷ drop (l.x-index + 1) xs)) c.min.ensures ∙ next smallest_gathered xs l.x-index c.loop-x-test.true l.invariant.0,
      ap (λ (n : ℕ). largest (n ∷ drop (l.x-index + 1) xs)) c.max.ensures ∙ next largest_gathered xs l.x-index c.loop-x-test.true l.invariant.1,
    )

pub returns : goal.returns
returns c = let l = c.loop-x in
    let xs = c.in_ok-first.rest.now in
    (omega (arith, c.in_ok-first.ensures.cases.1), finished smallest_gathered xs l.x-index c.loop-x-test.false l.invariant.0, finished largest_gathered xs l.x-index c.loop-x-test.false l.invariant.1)
