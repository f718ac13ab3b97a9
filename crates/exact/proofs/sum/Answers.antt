-- `exact::sum` meets its contract. The loop's invariant: the sum so far, with the values to come, is the sum of all; its upper word has
-- carried at most once a value.
use Prim.Native.Nat.{ℕ, ◌+◌}
use mathlib.Core.Path.{◌∙◌, ap}
use mathlib.Core.List.{◌∷◌}
use native.Mathlib.Omega.{arith}
use lib.ListN.{drop}
use Rattle.exact.specs.Words.{value_of, wide_of, sum_of}
use Rattle.exact.proofs.Words.{words_of}
use Rattle.exact.proofs.Gathering.{sum_gathered, next, finished}
use Rattle.exact.proofs.sum.Goals as goal

pub loop-x-init : goal.loop-x-init
unfolding value_of sum_of
loop-x-init c = omega arith

pub loop-x-preserved : goal.loop-x-preserved
loop-x-preserved c = let l = c.loop-x in
    let xs = c.args.values.now in
    (ap (λ (n : ℕ). sum_of (n ∷ drop (l.x-index + 1) xs)) c.add-sum.ensures.0 ∙ next sum_gathered xs l.x-index c.loop-x-test.true l.invariant.0, omega arith, omega arith)

pub returns : goal.returns
returns c = let l = c.loop-x in
    words_of l.sum (omega arith) ∙ ap wide_of (finished sum_gathered c.args.values.now l.x-index c.loop-x-test.false l.invariant.0)
