-- The distance between 10x and n depends on the number alone, not on the fraction that x is written as.
use mathlib.Core.Path.{◌≡◌, refl, sym, ap, ◌∙◌}
use mathlib.Core.Bool.{Bool, true, false, beq}
use Prim.Native.Nat.{ℕ, ◌+◌, ◌-◌, ◌*◌}
use native.Mathlib.Nat.{mul_assoc, mul_right_comm, add-mul}
use lib.IntN.{ℤ, pos, negsuc, neg_ℤ, nat_abs, ◌+ℤ◌, ◌-ℤ◌, ◌*ℤ◌, neg_ℤ-neg_ℤ, neg_ℤ-+ℤ}
use lib.Ieee.{Float, nan, inf, fin, up, down}
use lib.Ieee.Exact.{HasValue}
use Rattle.live.specs.Exact.{sided, numerator, denominator}
use Rattle.live.specs.Panel.{distance}
use Rattle.live.proofs.Sides.{size_opposite, times_sided, gap, apart}
use Rattle.live.proofs.Value.{sub-mul}

-- a whole number's side of zero
abbrev pub below : ℤ → Bool
below (pos n) = false
below (negsuc n) = true

-- how far two sizes are apart, on the same side of zero or on both
abbrev pub apart_on : Bool → ℕ → ℕ → ℕ
apart_on true a b = gap a b
apart_on false a b = a + b

apart_sided : (t s : Bool) (a b : ℕ) → nat_abs (sided t a -ℤ sided s b) ≡ apart_on (beq t s) a b
apart_sided false false a b = apart a b
apart_sided false true a b = ap (λ (z : ℤ). nat_abs (pos a +ℤ z)) (neg_ℤ-neg_ℤ (pos b))
apart_sided true false a b = ap nat_abs (sym (neg_ℤ-+ℤ (pos a) (pos b))) ∙ size_opposite (pos (a + b))
apart_sided true true a b = ap nat_abs (sym (neg_ℤ-+ℤ (pos a) (neg_ℤ (pos b)))) ∙ size_opposite (pos a -ℤ pos b) ∙ apart a b

pub apart_scale : (same : Bool) (a b c : ℕ) → apart_on same (a * c) (b * c) ≡ apart_on same a b * c
apart_scale true a b c = sym (add-mul (a - b) (b - a) c ∙ (λ i. sub-mul a b c i + sub-mul b a c i))
apart_scale false a b c = sym (add-mul a b c)

pub times_size : (z : ℤ) (d : ℕ) → z *ℤ pos d ≡ sided (below z) (nat_abs z * d)
times_size (pos n) d = refl
times_size (negsuc n) d = refl

-- the distance at any fraction that is x
pub distance_of_value : (z : ℤ) (x : Float) (t : Bool) (a c : ℕ) → HasValue x t a c
    → distance z x * c ≡ apart_on (beq t (below z)) (10 * a) (nat_abs z * c) * denominator x
unfolding numerator denominator
distance_of_value z nan t a c v = absurd v
distance_of_value z (inf s) t a c v = absurd v
distance_of_value z (fin s m e) t a c v =
    ap (λ (y : ℕ). y * c)
    ((λ i. nat_abs (times_sided 10 s (m * up e) i -ℤ times_size z (down e) i)) ∙ apart_sided s (below z) (10 * (m * up e)) (nat_abs z * down e))
    ∙ sym (apart_scale (beq s (below z)) (10 * (m * up e)) (nat_abs z * down e) c)
    ∙ (λ i. apart_on (beq (v.0 i) (below z)) (crossed i) (mul_right_comm (nat_abs z) (down e) c i))
    ∙ apart_scale (beq t (below z)) (10 * a) (nat_abs z * c) (down e)
  where
    crossed : 10 * (m * up e) * c ≡ 10 * a * down e
    crossed = mul_assoc 10 (m * up e) c ∙ ap (λ (n : ℕ). 10 * n) v.1 ∙ sym (mul_assoc 10 a (down e))
