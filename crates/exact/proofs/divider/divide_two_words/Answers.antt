-- `exact::divider::divide_two_words` meets its contract: dividend and divisor are scaled alike, and two digits are taken.
use mathlib.Core.Path.{◌∙◌}
use Prim.Native.Nat.{◌+◌, ◌*◌, ◌/◌, ◌%◌, ◌^◌, ◌<◌}
use native.Mathlib.Omega.{arith}
use Rattle.exact.proofs.Digits.{two_digits}
use Rattle.exact.proofs.Scaling.{scale_some, scaled, scaled_below, scaled_back, rest_back}
use Rattle.exact.proofs.divider.divide_two_words.Goals.{After-product-low, After-scale_of-scale}
use Rattle.exact.proofs.divider.divide_two_words.Goals as goal

some : (c : After-scale_of-scale) → 0 < c.scale_of-scale.result
some c = scale_some c.args.d c.scale_of-scale.result c.scale_of-scale.ensures.0

below : (c : After-product-low) → c.args.n.hi * c.scale_of-scale.result + c.product-low.result.hi < c.args.d * c.scale_of-scale.result
below c = scaled_below c.args.n.hi c.args.n.lo c.scale_of-scale.result c.product-low.ensures (scale_some c.args.d c.scale_of-scale.result c.scale_of-scale.ensures.0) c.requires (omega arith)

pub overflow_add-n : goal.overflow_add-n
overflow_add-n c = omega (arith, below (goal.at.overflow_add-n c).After-product-low)

pub take_digit-first-requires : goal.take_digit-first-requires
take_digit-first-requires c = (c.scale_of-scale.ensures.0, below (goal.at.take_digit-first-requires c).After-product-low, omega arith)

pub returns : goal.returns
returns c = let a = c.args in
    let p = c.scale_of-scale.result in
    let low = c.product-low.result in
    let one = c.take_digit-first in
    let two = c.take_digit-second in
    let q = one.result.quotient * 4294967296 + two.result.quotient in
    let n = a.n.hi * 2 ^ 64 + a.n.lo in (
      scaled_back n a.d q two.result.rest (some (goal.at.returns c).After-scale_of-scale)
          (two_digits 4294967296 (a.d * p) (a.n.hi * p + low.hi) (low.lo / 4294967296) (low.lo % 4294967296) one.result.quotient one.result.rest two.result.quotient two.result.rest one.ensures.0 two.ensures.0
          ∙ scaled a.n.hi a.n.lo p c.product-low.ensures),
      rest_back n a.d q two.result.rest (some (goal.at.returns c).After-scale_of-scale) two.ensures.1,
    )
