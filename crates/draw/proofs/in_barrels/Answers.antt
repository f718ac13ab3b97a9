-- `draw::in_barrels` meets its contract: no volume has fewer cubic inches than barrels.
use mathlib.Core.Path.{◌∙◌}
use Prim.Native.Nat.{◌*◌}
use native.Mathlib.Omega.{arith}
use Rattle.exact.specs.Rounding.{rounded}
use Rattle.exact.proofs.Answers.{value_below}
use Rattle.draw.specs.Base.{barrels_of}
use Rattle.draw.proofs.in_barrels.Goals as goal

pub returns : goal.returns
unfolding barrels_of rounded
returns c = c.round_or_zero.ensures ∙ value_below (c.args.base * 10000) (omega arith) c.args.base (omega arith) c.ranges.base.fits
