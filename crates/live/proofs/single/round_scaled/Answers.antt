-- `live::single::round_scaled` meets its contract: under field 110 what is left is o; from there on the code goes by parts.
use mathlib.Core.Path.{sym, subst⁻¹}
use Prim.Native.Nat.{ℕ, ◌+◌, ◌-◌, ◌*◌, ◌%◌, ◌^◌, ◌≤◌, ◌<◌}
use native.Mathlib.Omega.{arith}
use lib.Pow.{pow_pos, pow_mono}
use Rattle.live.proofs.Laws.{whole_near, whole_by_parts, product_small}
use Rattle.live.proofs.single.round_scaled.Goals.{After-raise_two-bottom}
use Rattle.live.proofs.single.round_scaled.Goals as goal

-- the bottom is 2^1 to 2^40
bottom-small : (f : ℕ) → 110 ≤ f → 2 ^ (150 - f) ≤ 1099511627776
bottom-small f h = pow_mono {i = 150 - f} {j = 40} (omega arith)

bottom-at-most : (c : After-raise_two-bottom) → c.raise_two-bottom.result ≤ 1099511627776
bottom-at-most c = subst⁻¹ (λ (n : ℕ). n ≤ 1099511627776) c.raise_two-bottom.ensures (bottom-small _ c.if-field-lt110.false)

offset-product : (c : After-raise_two-bottom) → c.args.offset * c.raise_two-bottom.result < 2 ^ 63
offset-product c = product_small c.ranges.offset.fits (bottom-at-most c)

digits_product : (c : After-raise_two-bottom) → c.args.times * (8388608 + c.args.bits % 8388608) < 2 ^ 63
digits_product c = product_small c.ranges.times.fits (omega arith)

pub returns-then-field-lt110 : goal.returns-then-field-lt110
returns-then-field-lt110 c = let v = c.args in
    sym (whole_near v.offset v.times v.bits c.ranges.times.fits c.if-field-lt110.true)

pub overflow_mul-offset : goal.overflow_mul-offset
overflow_mul-offset c = omega (arith, offset-product (goal.at.overflow_mul-offset c).After-raise_two-bottom)

pub sum-sum-requires : goal.sum-sum-requires
sum-sum-requires c = (offset-product (goal.at.sum-sum-requires c).After-raise_two-bottom, digits_product (goal.at.sum-sum-requires c).After-raise_two-bottom)

pub round_half_up-size-requires : goal.round_half_up-size-requires
round_half_up-size-requires c = (subst⁻¹ (λ (n : ℕ). 0 < n) c.raise_two-bottom.ensures (pow_pos _), bottom-at-most (goal.at.round_half_up-size-requires c).After-raise_two-bottom)

pub returns : goal.returns
returns c = let v = c.args in
    let sum = c.sum-sum in
    whole_by_parts v.offset v.times v.bits sum.result.below sum.result.size
    c.if-field-lt110.false
    c.requires
    c.raise_two-bottom.ensures
    sum.ensures
    c.round_half_up-size.ensures
