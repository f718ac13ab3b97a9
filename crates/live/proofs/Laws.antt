-- What each field of a single's bits makes of o + k·x: what the code's branches cite.
use mathlib.Core.Path.{◌≡◌, refl, sym, ap, ◌∙◌, subst⁻¹}
use mathlib.Core.Bool.{Bool, true, false, not, true≢false}
use Prim.Native.Nat.{ℕ, zero, suc, ◌+◌, ◌-◌, ◌*◌, ◌^◌, ◌≤◌, ◌<◌}
use native.Mathlib.Nat.{mul-le-mul, mul_assoc, one-mul}
use native.Mathlib.Omega.{arith}
use lib.Dec.{T, lit<}
use lib.IntN.{ℤ, pos, nat_abs, ◌+ℤ◌}
use lib.Ieee.{Float, nan, inf, fin, binary32, is_nan, of_bits}
use lib.Ieee.Scale.{finite}
use lib.Pow.{pow_pos, pow_mono, pow-add}
use Rattle.exact.specs.Rounding.{rounded_div}
use Rattle.live.specs.Exact.{sided}
use Rattle.live.specs.Rounding.{away_from_zero}
use Rattle.live.specs.Live.{whole_of}
use Rattle.live.proofs.Sides.{add_passing, size_sided}
use Rattle.live.proofs.Rounding.{away_sided}
use Rattle.live.proofs.Value.{summed, summed_scale, summed_near, summed_whole, whole_of_value}
use Rattle.live.proofs.Fields.{field_of, digits_of, below_of, led, doubled, value_of_bits}

at_most : (k : ℕ) → k < 65536 → k ≤ 65535
at_most k h = omega arith

-- k·a is under a half of 2^41 p, k of 16 bits and a of 24 more than p
under_half : (k a p : ℕ) → k < 65536 → a ≤ 16777215 * p → 0 < p → 2 * (k * a) < 2199023255552 * p
under_half k a p hk ha hp = omega (arith, mul-le-mul {n₂ = 65535} {m₂ = 16777215 * p} (at_most k hk) ha)

led_small : (f t : ℕ) → t < 8388608 → led f t ≤ 16777215
led_small zero t h = omega arith
led_small (suc f) t h = omega arith

led_by_one : (f t : ℕ) → 0 < f → led f t ≡ 8388608 + t
led_by_one zero t h = absurd (omega arith)
led_by_one (suc f) t h = refl

doubled_once_fewer : (f : ℕ) → 0 < f → f ≡ suc (doubled f)
doubled_once_fewer zero h = absurd (omega arith)
doubled_once_fewer (suc f) h = refl

module _ (o k b : ℕ) where
  -- below field 110 k·x is under a half
  pub whole_near : k < 65536 → field_of b < 110 → whole_of o k (of_bits binary32 b) ≡ pos o
  whole_near hk h =
      whole_of_value o k (of_bits binary32 b) (below_of b) (led (field_of b) (digits_of b) * 2 ^ doubled (field_of b)) (pow_pos 149) (value_of_bits b (omega arith))
      ∙ summed_near o (below_of b) _ (under_half k _ (2 ^ 108) hk (mul-le-mul {n₂ = 16777215} {m₂ = 2 ^ 108} (led_small (field_of b) (digits_of b) (omega arith)) (pow_mono {i = doubled (field_of b)} {j = 108} (few (field_of b) h))) (pow_pos 108))
    where
      few : (f : ℕ) → f < 110 → doubled f ≤ 108
      few zero h = omega arith
      few (suc f) h = omega arith

  -- at the fraction cut down by c
  whole_cut : (a d : ℕ) {c : ℕ} → field_of b < 255 → 0 < d → 0 < c → led (field_of b) (digits_of b) * 2 ^ doubled (field_of b) ≡ a * c → 2 ^ 149 ≡ d * c
      → whole_of o k (of_bits binary32 b) ≡ summed (o * d) (below_of b) (k * a) d
  whole_cut a d {c} l hd hc top bottom =
      whole_of_value o k (of_bits binary32 b) (below_of b) (led (field_of b) (digits_of b) * 2 ^ doubled (field_of b)) (pow_pos 149) (value_of_bits b l)
      ∙ (λ i. summed ((ap (λ (n : ℕ). o * n) bottom ∙ sym (mul_assoc o d c)) i) (below_of b) ((ap (λ (n : ℕ). k * n) top ∙ sym (mul_assoc k a c)) i) (bottom i))
      ∙ summed_scale (o * d) (below_of b) (k * a) hd hc

  -- from field 110 to 149 it is a fraction over 2^(150 - field): the bottom, the sum by its side and size, and its size rounded
  pub whole_by_parts : (below : Bool) (size : ℕ) {bottom rounded : ℕ} → 110 ≤ field_of b → field_of b < 150 → bottom ≡ 2 ^ (150 - field_of b)
      → sided below size ≡ pos (o * bottom) +ℤ sided (below_of b) (k * (8388608 + digits_of b)) → rounded ≡ rounded_div size bottom
      → sided below rounded ≡ whole_of o k (of_bits binary32 b)
  unfolding summed
  whole_by_parts below size {bottom} {rounded} l h is_bottom is_sum is_rounded =
      ap (sided below) is_rounded
      ∙ sym (away_sided below size (subst⁻¹ (λ (n : ℕ). 0 < n) is_bottom (pow_pos (150 - field_of b))))
      ∙ ap (λ (z : ℤ). away_from_zero z bottom) is_sum
      ∙ ap (λ (n : ℕ). summed (o * n) (below_of b) (k * (8388608 + digits_of b)) n) is_bottom
      ∙ sym
      (whole_cut (8388608 + digits_of b) (2 ^ (150 - field_of b)) (omega arith) (pow_pos (150 - field_of b)) (pow_pos (doubled (field_of b)))
      (ap (λ (n : ℕ). n * 2 ^ doubled (field_of b)) (led_by_one (field_of b) (digits_of b) (omega arith)))
      (ap (λ (n : ℕ). 2 ^ n) (parts (field_of b) (doubled_once_fewer (field_of b) (omega arith)) h) ∙ pow-add 2 (150 - field_of b) (doubled (field_of b))))
    where
      parts : (f : ℕ) {e : ℕ} → f ≡ suc e → f < 150 → 149 ≡ 150 - f + e
      parts f is h = omega arith

-- its products are small
pub product_small : {a b : ℕ} → a < 65536 → b ≤ 1099511627776 → a * b < 2 ^ 63
product_small {a} {b} ha hb = omega (arith, mul-le-mul {n₂ = 65535} {m₂ = 1099511627776} (at_most a ha) hb)

-- from field 150 on k·x has a size of 2^23 or more, of which o takes little
far : (o b : ℕ) (s : Bool) → o < 65536 → 8388608 ≤ b → 32768 ≤ nat_abs (summed (o * 1) s b 1)
far o b false ho l = rw (summed_whole (o * 1) false b) (omega arith)
far o b true ho l = rw (summed_whole (o * 1) true b, add_passing (o * 1) b (omega arith), size_sided true (b - o * 1)) (omega arith)

pub whole_far : (o k b : ℕ) → o < 65536 → 0 < k → 150 ≤ field_of b → field_of b < 255 → 32768 ≤ nat_abs (whole_of o k (of_bits binary32 b))
whole_far o k b ho hk l h =
    subst⁻¹ (λ (z : ℤ). 32768 ≤ nat_abs z)
    (whole_cut o k b ((8388608 + digits_of b) * 2 ^ (field_of b - 150)) 1 h (lit< tt) (pow_pos 149)
    ((λ i. led_by_one (field_of b) (digits_of b) (omega arith) i * (ap (λ (n : ℕ). 2 ^ n) (parts (field_of b) (doubled_once_fewer (field_of b) (omega arith)) l) ∙ pow-add 2 (field_of b - 150) 149) i)
    ∙ sym (mul_assoc (8388608 + digits_of b) (2 ^ (field_of b - 150)) (2 ^ 149)))
    (sym (one-mul (2 ^ 149))))
    (far o (k * ((8388608 + digits_of b) * 2 ^ (field_of b - 150))) (below_of b) ho (mul-le-mul {n₁ = 1} {m₁ = 8388608} hk (mul-le-mul {n₁ = 8388608} {m₁ = 1} (omega arith) (pow_pos (field_of b - 150)))))
  where
    parts : (f : ℕ) {e : ℕ} → f ≡ suc e → 150 ≤ f → e ≡ f - 150 + 149
    parts f is l = omega arith

-- a NaN is no number
pub nan_not_finite : (x : Float) → is_nan x ≡ true → finite x ≡ false
unfolding is_nan
nan_not_finite nan h = refl
nan_not_finite (inf s) h = absurd (true≢false (sym h))
nan_not_finite (fin s m e) h = absurd (true≢false (sym h))

pub finite_no_nan : (x : Float) → finite x ≡ true → T (not (is_nan x))
unfolding is_nan
finite_no_nan nan h = absurd (true≢false (sym h))
finite_no_nan (inf s) h = tt
finite_no_nan (fin s m e) h = tt
