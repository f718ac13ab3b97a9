-- `lookup::count_up` meets its contract: what the machine's sum and cast give is the count.
use mathlib.Core.Path.{◌≡◌, sym, ap, ◌∙◌}
use Prim.Native.Nat.{◌≤◌}
use native.Mathlib.Omega.{arith}
use lib.IntN.{nat_abs}
use mir.Syntax.{w16}
use mir.Val.{to_z, of_z}
use mir.ValLaws.{to_z-of_z}
use Rattle.ranges.proofs.Counted.{Warm, warm, sum_fits, cast_is, cast_fits}
use Rattle.lookup.proofs.count_up.Goals.{Start}
use Rattle.lookup.proofs.count_up.Goals as goal

back : (c : Start) → to_z w16 (of_z w16 c.args.temperature) ≡ c.args.temperature
back c = to_z-of_z w16 c.args.temperature c.ranges.temperature

warmth : (c : Start) → Warm c.args.temperature
warmth c = warm c.args.temperature c.requires

high : (c : Start) → (warmth c).above ≤ 32767
high c = omega (arith, (warmth c).high)

pub overflow_add-result : goal.overflow_add-result
overflow_add-result c = sum_fits 1000 (back (goal.at.overflow_add-result c).Start) (warmth (goal.at.overflow_add-result c).Start).is (high (goal.at.overflow_add-result c).Start)

pub overflow_cast-result : goal.overflow_cast-result
overflow_cast-result c = cast_fits 1000 (back (goal.at.overflow_cast-result c).Start) (warmth (goal.at.overflow_cast-result c).Start).is (high (goal.at.overflow_cast-result c).Start)

pub returns : goal.returns
returns c = let w = warmth (goal.at.returns c).Start in
    let is = ap nat_abs (cast_is 1000 (back (goal.at.returns c).Start) w.is (high (goal.at.returns c).Start)) in
    (is ∙ sym (ap nat_abs w.is), omega (arith, is, w.high))
