-- `exact::divider::scale_of` meets its contract: above its uppermost bit, bit k, the divisor has 63 - k zeros.
use mathlib.Core.Path.{◌≡◌, sym, ◌∙◌, subst}
use Prim.Native.Nat.{ℕ, suc, ◌+◌, ◌*◌, ◌%◌, ◌^◌, ◌≤◌, ◌<◌}
use native.Mathlib.Nat.{mul-le-mul_right, one-mul}
use native.Mathlib.Omega.{arith}
use lib.Pow.{pow-add, shl_lt, shl_exact}
use lib.Count.{count_leading_zeros, leading_top}
use Rattle.exact.proofs.divider.scale_of.Goals as goal

module _ (d : ℕ) (some : 0 < d) (fits : d < 2 ^ 64) where
  zeros-below : count_leading_zeros 64 d < 64
  zeros-below = omega (arith, (leading_top 64 d some fits).1)

  shifted : 1 * 2 ^ count_leading_zeros 64 d % 2 ^ 64 ≡ 2 ^ count_leading_zeros 64 d
  shifted = shl_exact {a = 1} 1 (count_leading_zeros 64 d) 64 (omega arith) (omega (arith, zeros-below)) ∙ one-mul (2 ^ count_leading_zeros 64 d)

  least : 2 ^ 63 ≤ d * 2 ^ count_leading_zeros 64 d
  least =
      let top = leading_top 64 d some fits in
      let bits : 63 ≡ top.0 + count_leading_zeros 64 d = omega (arith, top.1) in
      subst (λ (n : ℕ). 2 ^ n ≤ d * 2 ^ count_leading_zeros 64 d) (sym bits) (rw (pow-add) (mul-le-mul_right (2 ^ count_leading_zeros 64 d) top.2))

  most : d * 2 ^ count_leading_zeros 64 d < 2 ^ 64
  most =
      let top = leading_top 64 d some fits in
      let bits : suc top.0 + count_leading_zeros 64 d ≡ 64 = omega (arith, top.1) in
      subst (λ (n : ℕ). d * 2 ^ count_leading_zeros 64 d < 2 ^ n) bits (shl_lt {a = d} (suc top.0) (count_leading_zeros 64 d) top.3)

pub returns : goal.returns
returns c = let d = c.args.d in
    subst (λ (p : ℕ). (2 ^ 63 ≤ d * p) × (d * p < 2 ^ 64)) (sym (shifted d c.requires c.ranges.d.fits)) (least d c.requires c.ranges.d.fits, most d c.requires c.ranges.d.fits)
