-- `draw::fills::adjust` meets its contract: counted from -100.00 cubic inches the scale reading is a natural number.
use mathlib.Core.Path.{◌≡◌, ap}
use mathlib.Core.Bool.{true}
use Prim.Native.Nat.{◌<◌}
use native.Mathlib.Omega.{arith}
use lib.IntN.{pos, nat_abs, ◌+ℤ◌}
use lib.Signed.{mag}
use mir.Syntax.{w16}
use mir.Val.{to_z, of_z}
use Rattle.ranges.proofs.Counted.{passed_on, sum_fits, cast_is, cast_fits}
use Rattle.draw.specs.Fill.{fill_ok}
use Rattle.draw.specs.Drawn.{adjusted}
use Rattle.draw.specs.declared.FillRecord.{FillRecord}
use Rattle.draw.proofs.Fields.{fields}
use Rattle.draw.proofs.fills.adjust.Goals as goal

above-is : (fill : FillRecord) (ok : fill_ok fill ≡ true) → mag fill.scale < 32768 → nat_abs (to_z w16 (of_z w16 (to_z w16 (of_z w16 fill.scale) +ℤ pos 10000))) ≡ (fields fill ok).scale.above
above-is fill ok fits = let scale = (fields fill ok).scale in ap nat_abs (cast_is 10000 (passed_on fill.scale fits) scale.is (omega (arith, scale.high)))

pub overflow_add-above : goal.overflow_add-above
overflow_add-above c = let scale = (fields c.args.fill c.requires).scale in
    sum_fits 10000 (passed_on c.args.fill.scale (omega arith)) scale.is (omega (arith, scale.high))

pub overflow_cast-above : goal.overflow_cast-above
overflow_cast-above c = let scale = (fields c.args.fill c.requires).scale in
    cast_fits 10000 (passed_on c.args.fill.scale (omega arith)) scale.is (omega (arith, scale.high))

pub overflow_sub-result : goal.overflow_sub-result
overflow_sub-result c = omega (arith, above-is c.args.fill c.requires (omega arith), fields c.args.fill c.requires)

pub returns : goal.returns
unfolding adjusted
returns c = omega (arith, above-is c.args.fill c.requires (omega arith), (fields c.args.fill c.requires).scale.sum)
