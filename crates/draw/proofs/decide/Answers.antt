-- `draw::decide` meets its contract: the group found is the first, and lies within the volumes.
use Rattle.std.specs.Prelude.{Some, None}
use mathlib.Core.Path.{◌≡◌, sym, ap, ◌∙◌}
use mathlib.Core.List.{List}
use Prim.Native.Nat.{ℕ, ◌+◌, ◌≤◌}
use native.Mathlib.Omega.{arith}
use lib.ListN.{length}
use Rattle.refusals.specs.Told.{done}
use Rattle.refusals.specs.declared.Refusal.TheVariants.{NoGroup}
use Rattle.group.specs.Repeatability.{first_group}
use Rattle.group.proofs.Groups.{first_found, part_is_group}
use Rattle.draw.specs.Base.{base_from, base_of}
use Rattle.draw.proofs.Judged.{refusal_back}
use Rattle.draw.proofs.decide.Goals.{In_ok-at}
use Rattle.draw.proofs.decide.Goals as goal

place : (c : In_ok-at) → first_group 2 3 c.args.volumes.now ≡ Some c.in_ok-at.at
place c = let some : c.first_group.result ≡ Some c.in_ok-at.at = grind arith in sym c.first_group.ensures ∙ some

inside : (c : In_ok-at) → (c.in_ok-at.at + 3 ≤ length c.args.volumes.now) × (length c.args.volumes.now ≤ 20)
inside c = ((first_found 2 3 c.args.volumes.now (place c)).within, c.requires)

pub returns-in_err-at : goal.returns-in_err-at
unfolding base_of
returns-in_err-at c = let none : c.first_group.result ≡ None = grind arith in
    let nine : c.in_err-at.field-0.0 ≡ NoGroup = grind arith in
    rw (← c.first_group.ensures, none) (refusal_back _ _ c.from_residual.ensures.1 (rw nine))

pub overflow_add-three : goal.overflow_add-three
overflow_add-three c = omega (arith, inside (goal.at.overflow_add-three c).In_ok-at)

pub offset_bounds-volumes-at : goal.offset_bounds-volumes-at
offset_bounds-volumes-at c = omega (arith, inside (goal.at.offset_bounds-volumes-at c).In_ok-at)

pub slice_bounds-three-end : goal.slice_bounds-three-end
slice_bounds-three-end c = omega (arith, inside (goal.at.slice_bounds-three-end c).In_ok-at)

pub returns : goal.returns
unfolding base_of
returns c = let at = c.in_ok-at.at in
    rw (place (goal.at.returns c).In_ok-at) (ap done (c.base_from.ensures ∙ ap (λ (xs : List ℕ). base_from c.args.profile xs at) (part_is_group 3 c.args.volumes.now at)))
