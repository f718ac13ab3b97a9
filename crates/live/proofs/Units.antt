-- A single as a whole number of 2^-149, the smallest above zero: what it is over that common denominator.
use mathlib.Core.Path.{◌≡◌, refl, sym, ap, ◌∙◌}
use mathlib.Core.Bool.{Bool, true, false, ◌&&◌, ◌||◌, beq, true≢false}
use mathlib.Core.Logic.{◌⊎◌, by_cases, inl, inr}
use Prim.Native.Nat.{ℕ, zero, suc, ◌+◌, ◌-◌, ◌*◌, ◌%◌, ◌^◌, ◌≤◌, ◌<◌}
use native.Mathlib.Nat.{lt_of_not-le, mul-one, mul_assoc, mul_right_comm, zero-mul, eq_of_mul-eq-mul_right}
use native.Mathlib.Decide.{dec_le}
use native.Mathlib.Omega.{arith}
use lib.Dec.{T, eqb, leb, ltb, ltb→lt, leb→le, lit<}
use lib.IntN.{ℤ, pos, negsuc}
use lib.Pow.{pow-add, pow-lt}
use lib.Ieee.{Float, nan, inf, fin, binary32, up, down, fits, eq}
use lib.Ieee.Bits.{is_true}
use lib.Ieee.Exact.{HasValue}
use lib.Ieee.Fits.{and_l, and_r, eq→eqb}
use lib.Ieee.Scale.{finite}

-- at most 24 binary digits, and zeros behind them
pub record InUnits (y : Float) : Type 0 where
  pub side : Bool
  pub digits : ℕ
  pub places : ℕ
  pub few : digits < 2 ^ 24
  pub value : HasValue y side (digits * 2 ^ places) (2 ^ 149)

no_lower : (j : ℕ) → 2 ^ suc j ≤ 2 ^ 149 → suc j ≤ 149
no_lower j h = by_cases (dec_le (suc j) 149) (λ l. l) (λ r. absurd (over (2 ^ 149) h (pow-lt (lt_of_not-le r))))
  where
    over : (p : ℕ) → 2 ^ suc j ≤ p → p < 2 ^ suc j → ⊥
    over p a b = omega arith

placed : (s : Bool) (m : ℕ) (e : ℤ) → m < 2 ^ 24 → down e ≤ 2 ^ 149 → InUnits (fin s m e)
placed s m (pos k) few h =
    record {
      side = s;
      digits = m;
      places = k + 149;
      few = few;
      value = (refl, mul_assoc m (2 ^ k) (2 ^ 149) ∙ ap (λ (n : ℕ). m * n) (sym (pow-add 2 k 149)) ∙ sym (mul-one (m * 2 ^ (k + 149))));
    }
placed s m (negsuc j) few h =
    record {
      side = s;
      digits = m;
      places = 149 - suc j;
      few = few;
      value = (refl, ap (λ (n : ℕ). n * 2 ^ 149) (mul-one m) ∙ ap (λ (n : ℕ). m * 2 ^ n) (back (no_lower j h)) ∙ ap (λ (n : ℕ). m * n) (pow-add 2 (149 - suc j) (suc j)) ∙ sym (mul_assoc m (2 ^ (149 - suc j)) (2 ^ suc j)));
    }
  where
    back : suc j ≤ 149 → 149 ≡ 149 - suc j + suc j
    back l = omega arith

pub in-units : (y : Float) → T (fits binary32 y) → finite y ≡ true → InUnits y
unfolding fits
in-units nan held is = absurd (true≢false (sym is))
in-units (inf s) held is = absurd (true≢false (sym is))
in-units (fin s zero e) held is = record { side = s; digits = 0; places = 0; few = lit< tt; value = (refl, ap (λ (n : ℕ). n * 2 ^ 149) (zero-mul (up e)) ∙ sym (zero-mul (down e))) }
in-units (fin s (suc m) e) held is =
    let odd = eqb (suc m % 2) 1 in
    let few = ltb (suc m) (2 ^ 24) in
    let low = leb (down e) (2 ^ 149) in
    let rest = and_l (odd && few && low) (ltb (suc m * up e) (2 ^ 128 * down e)) held in
    placed s (suc m) e (ltb→lt (suc m) (2 ^ 24) (and_r odd few (and_l (odd && few) low rest))) (leb→le (down e) (2 ^ 149) (and_r (odd && few) low rest))

-- singles of the same size, on the same side of zero or both zero, are equal as singles are
both : (p q r : Bool) → p ≡ true → (q ≡ true) ⊎ (r ≡ true) → (p && (q || r)) ≡ true
both p q r e (inl f) = rw (e, f)
both p true r e (inr f) = rw e
both p false r e (inr f) = rw (e, f)

pub equal_singles : (y x : Float) (t s : Bool) (a c : ℕ) → 0 < c → HasValue y t a c → HasValue x s a c → (beq t s ≡ true) ⊎ (a ≡ 0) → eq y x ≡ true
unfolding eq
equal_singles nan x t s a c h v w sides = absurd v
equal_singles (inf u) x t s a c h v w sides = absurd v
equal_singles (fin u m e) nan t s a c h v w sides = absurd w
equal_singles (fin u m e) (inf r) t s a c h v w sides = absurd w
equal_singles (fin u m e) (fin r n d) t s a c h v w sides =
    both (eqb (m * up e * down d) (n * up d * down e)) (beq u r) (eqb (m * up e * down d) 0)
    (is_true _ (eq→eqb (eq_of_mul-eq-mul_right c h (m * up e * down d) (n * up d * down e) (one ∙ sym two))))
    (elim sides [ inl f ↦ inl ((λ i. beq (v.0 i) (w.0 i)) ∙ f) | inr f ↦ inr (is_true _ (eq→eqb (none f))) ])
  where
    one : m * up e * down d * c ≡ a * down e * down d
    one = mul_right_comm (m * up e) (down d) c ∙ ap (λ (k : ℕ). k * down d) v.1

    two : n * up d * down e * c ≡ a * down e * down d
    two = mul_right_comm (n * up d) (down e) c ∙ ap (λ (k : ℕ). k * down e) w.1 ∙ mul_right_comm a (down d) (down e)

    none : a ≡ 0 → m * up e * down d ≡ 0
    none f = eq_of_mul-eq-mul_right c h (m * up e * down d) 0 (one ∙ ap (λ (k : ℕ). k * down e * down d) f ∙ ap (λ (k : ℕ). k * down d) (zero-mul (down e)) ∙ zero-mul (down d) ∙ sym (zero-mul c))
