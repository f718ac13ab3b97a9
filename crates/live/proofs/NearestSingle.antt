-- Of all singles the one that the panel shows of n tenths is nearest to n / 10, and no other is as near.
use mathlib.Core.Path.{◌≡◌, refl, sym, ap, ◌∙◌, subst}
use mathlib.Core.Bool.{Bool, true, false, beq}
use mathlib.Core.Logic.{◌⊎◌, by_cases, inl, inr}
use Prim.Native.Nat.{ℕ, suc, ◌+◌, ◌-◌, ◌*◌, ◌/◌, ◌^◌, ◌≤◌, ◌<◌}
use native.Mathlib.Nat.{le_trans, le_of_eq, le_antisymm, eq-or-lt_of_le, mul_comm, pow-suc, lt_of_lt_of_le, lt_of_not-le, mul_assoc, mul_left_comm, suc-mul, mul-le-mul_right, le_of_mul-le-mul_right, le-div_iff_mul-le, eq_of_mul-eq-mul_right}
use native.Mathlib.Decide.{dec_le}
use native.Mathlib.Omega.{arith}
use lib.Dec.{T, lit<}
use lib.IntN.{ℤ, nat_abs}
use lib.Pow.{pow-add, pow_pos, pow_mono, shl_lt}
use lib.Ieee.{Float, binary32, fits, eq}
use lib.Ieee.Digits.{size_reaches}
use lib.Ieee.Exact.{HasValue}
use lib.Ieee.Order.{transfer}
use lib.Ieee.Scale.{finite}
use Rattle.live.specs.Exact.{denominator}
use Rattle.live.specs.Panel.{tenth, distance}
use Rattle.live.proofs.Sides.{gap}
use Rattle.live.proofs.Value.{denominator_pos}
use Rattle.live.proofs.Distance.{below, apart_on, apart_scale, distance_of_value}
use Rattle.live.proofs.Tenths.{dropped, count, shown, few_dropped, near, shown_value, shown_distance}
use Rattle.live.proofs.Units.{InUnits, in-units, equal_singles}

-- x is nearer to n than y is, or is y
abbrev Nearer : ℕ → ℕ → ℕ → Type 0
Nearer x y n = (gap x n ≤ gap y n) × (gap y n ≤ gap x n → y ≡ x)

-- of the multiples of u one less than half of u away is nearer than any other
nearer_multiple : (p q u n : ℕ) → 2 * gap (q * u) n < u → Nearer (q * u) (p * u) n
nearer_multiple p q u n h =
    by_cases (dec_le p q)
    (λ l. by_cases (dec_le q p) (λ g. same (le_antisymm l g)) (λ g. lower (mul-le-mul_right u (lt_of_not-le g)) (suc-mul p u)))
    (λ g. higher (mul-le-mul_right u (lt_of_not-le g)) (suc-mul q u))
  where
    same : p ≡ q → Nearer (q * u) (p * u) n
    same e = (le_of_eq (ap (λ (m : ℕ). gap (m * u) n) (sym e)), λ l. ap (λ (m : ℕ). m * u) e)

    lower : suc p * u ≤ q * u → suc p * u ≡ p * u + u → Nearer (q * u) (p * u) n
    lower l e = (omega (arith, h), λ g. absurd (omega (arith, h)))

    higher : suc q * u ≤ p * u → suc q * u ≡ q * u + u → Nearer (q * u) (p * u) n
    higher l e = (omega (arith, h), λ g. absurd (omega (arith, h)))

-- and than what is further off than a multiple
nearer_beyond : (x y b n : ℕ) → gap x n ≤ gap b n → y < b → b ≤ n → Nearer x y n
nearer_beyond x y b n l g h = (omega arith, λ m. absurd (omega arith))

module _ (a : ℕ) (h : a ≤ 2000) where
  -- a / 10 is never halfway between two singles: in units of 2 ^ dropped both sides of the gap are even, and half of the spacing is 5
  no_half : 2 * gap (count a * (10 * 2 ^ dropped a)) (a * 2 ^ 149) ≡ 10 * 2 ^ dropped a → ⊥
  no_half e =
      let k = dropped a in
      let all : a * 2 ^ 149 ≡ a * 2 ^ (148 - k) * 2 * 2 ^ k =
      ap (λ (n : ℕ). a * 2 ^ n) (parts (few_dropped a h)) ∙ ap (λ (n : ℕ). a * n) (pow-add 2 (suc (148 - k)) k ∙ ap (λ (n : ℕ). n * 2 ^ k) (pow-suc 2 (148 - k)))
      ∙ sym (mul_assoc a (2 ^ (148 - k) * 2) (2 ^ k)) ∙ ap (λ (n : ℕ). n * 2 ^ k) (sym (mul_assoc a (2 ^ (148 - k)) 2)) in
      odd (count a) (a * 2 ^ (148 - k))
      (eq_of_mul-eq-mul_right (2 ^ k) (pow_pos k) _ 10
      (mul_assoc 2 (gap (count a * 10) (a * 2 ^ (148 - k) * 2)) (2 ^ k)
      ∙ ap (λ (g : ℕ). 2 * g) (sym (apart_scale true (count a * 10) (a * 2 ^ (148 - k) * 2) (2 ^ k)) ∙ (λ i. gap (mul_assoc (count a) 10 (2 ^ k) i) (sym all i)))
      ∙ e))
    where
      parts : {k : ℕ} → k ≤ 133 → 149 ≡ suc (148 - k) + k
      parts l = omega arith

      odd : (q m : ℕ) → 2 * gap (q * 10) (m * 2) ≡ 10 → ⊥
      odd q m e =
          by_cases (dec_le (q * 5) (m + 2))
          (λ l. by_cases (dec_le m (q * 5 + 2)) (λ g. omega (arith, e, l, g)) (λ g. omega (arith, e, l, lt_of_not-le g)))
          (λ l. by_cases (dec_le m (q * 5 + 2)) (λ g. omega (arith, e, lt_of_not-le l, g)) (λ g. omega (arith, e, lt_of_not-le l, lt_of_not-le g)))

  less_than_half : 2 * gap (count a * (10 * 2 ^ dropped a)) (a * 2 ^ 149) < 10 * 2 ^ dropped a
  less_than_half = elim (eq-or-lt_of_le (near a h)) [ inl e ↦ absurd (no_half e) | inr l ↦ l ]

  -- where digits are dropped, all 24 are kept
  all_kept : 0 < dropped a → 2 ^ 23 * (10 * 2 ^ dropped a) ≤ a * 2 ^ 149
  all_kept some =
      le_trans (le_of_eq (mul_left_comm (2 ^ 23) 10 (2 ^ dropped a) ∙ ap (λ (n : ℕ). 10 * n) (sym (pow-add 2 23 (dropped a))) ∙ mul_comm 10 (2 ^ (23 + dropped a))))
      ((le-div_iff_mul-le (lit< tt)).0 (size_reaches (a * 2 ^ 149 / 10) (23 + dropped a) (reached some)))
    where
      reached : {z : ℕ} → 0 < z - 24 → 23 + (z - 24) < z
      reached l = omega arith

  nearer_single : (m i : ℕ) → m < 2 ^ 24 → Nearer (10 * shown a) (10 * (m * 2 ^ i)) (a * 2 ^ 149)
  nearer_single m i few =
      let k = dropped a in
      subst (λ (x : ℕ). Nearer x (10 * (m * 2 ^ i)) (a * 2 ^ 149)) (mul_left_comm (count a) 10 (2 ^ k))
      (by_cases (dec_le k i)
      (λ l.
      subst (λ (y : ℕ). Nearer (count a * (10 * 2 ^ k)) y (a * 2 ^ 149))
      (mul_left_comm (m * 2 ^ (i - k)) 10 (2 ^ k) ∙ ap (λ (n : ℕ). 10 * n) (mul_assoc m (2 ^ (i - k)) (2 ^ k) ∙ ap (λ (n : ℕ). m * n) (sym (pow-add 2 (i - k) k) ∙ ap (λ (n : ℕ). 2 ^ n) (back k l))))
      (nearer_multiple (m * 2 ^ (i - k)) (count a) (10 * 2 ^ k) (a * 2 ^ 149) less_than_half))
      (λ g.
      let finer = lt_of_not-le g in
      nearer_beyond _ _ (2 ^ 23 * (10 * 2 ^ k)) _ (nearer_multiple (2 ^ 23) (count a) (10 * 2 ^ k) (a * 2 ^ 149) less_than_half).0
      (under (m * 2 ^ i) (2 ^ (23 + k)) (2 ^ k) (lt_of_lt_of_le (shl_lt 24 i few) (pow_mono (shorter finer))) (pow-add 2 23 k)) (all_kept (some finer))))
    where
      back : (k : ℕ) → k ≤ i → i - k + k ≡ i
      back k l = omega arith

      some : {k : ℕ} → i < k → 0 < k
      some l = omega arith

      shorter : {k : ℕ} → i < k → 24 + i ≤ 23 + k
      shorter l = omega arith

      under : (y w v : ℕ) → y < w → w ≡ 8388608 * v → 10 * y < 8388608 * (10 * v)
      under y w v l e = omega arith

-- on the same side of zero as n, or beyond it
either_side : (same : Bool) (x y n : ℕ) → Nearer x y n → Nearer x 0 n
    → (gap x n ≤ apart_on same y n) × (apart_on same y n ≤ gap x n → (y ≡ x) × ((same ≡ true) ⊎ (y ≡ 0)))
either_side true x y n f g = (f.0, λ l. (f.1 l, inl refl))
either_side false x y n f g = (omega (arith, g.0), λ l. let none : y ≡ 0 = omega (arith, g.0) in (none ∙ g.1 (omega arith), inr none))

module _ (z : ℤ) (h : nat_abs z ≤ 2000) (y : Float) (held : T (fits binary32 y)) (is : finite y ≡ true) where
  other : InUnits y
  other = in-units y held is

  -- ten times the other single's size, in units of 2^-149
  tenfold : ℕ
  tenfold = 10 * (other.digits * 2 ^ other.places)

  same : Bool
  same = beq other.side (below z)

  other_distance : distance z y * 2 ^ 149 ≡ apart_on same tenfold (nat_abs z * 2 ^ 149) * denominator y
  unfolding tenfold same
  other_distance = distance_of_value z y other.side (other.digits * 2 ^ other.places) (2 ^ 149) other.value

  compared : (gap (10 * shown (nat_abs z)) (nat_abs z * 2 ^ 149) ≤ apart_on same tenfold (nat_abs z * 2 ^ 149))
      × (apart_on same tenfold (nat_abs z * 2 ^ 149) ≤ gap (10 * shown (nat_abs z)) (nat_abs z * 2 ^ 149) → (tenfold ≡ 10 * shown (nat_abs z)) × ((same ≡ true) ⊎ (tenfold ≡ 0)))
  unfolding tenfold
  compared =
      either_side same (10 * shown (nat_abs z)) tenfold (nat_abs z * 2 ^ 149) (nearer_single (nat_abs z) h other.digits other.places other.few)
      (nearer_single (nat_abs z) h 0 0 (lit< tt))

  -- no single is nearer
  pub shown_nearest : distance z (tenth z) * denominator y ≤ distance z y * denominator (tenth z)
  shown_nearest =
      transfer (distance z (tenth z)) (distance z y) (denominator (tenth z)) (denominator y) _ _ (2 ^ 149) (2 ^ 149) (pow_pos 149) (pow_pos 149)
      (shown_distance z h) other_distance (mul-le-mul_right (2 ^ 149) compared.0)

  -- and one that is as near is the one shown
  pub shown_only : distance z y * denominator (tenth z) ≤ distance z (tenth z) * denominator y → eq y (tenth z) ≡ true
  unfolding tenfold same
  shown_only l =
      let near : apart_on same tenfold (nat_abs z * 2 ^ 149) ≤ gap (10 * shown (nat_abs z)) (nat_abs z * 2 ^ 149) =
      le_of_mul-le-mul_right
      (transfer _ _ (2 ^ 149) (2 ^ 149) (distance z y) (distance z (tenth z)) (denominator y) (denominator (tenth z)) (denominator_pos y) (denominator_pos (tenth z)) (sym other_distance)
      (sym (shown_distance z h)) l) (pow_pos 149) in
      let found = compared.1 near in
      let size : other.digits * 2 ^ other.places ≡ shown (nat_abs z) = omega (arith, found.0) in
      equal_singles y (tenth z) other.side (below z) (other.digits * 2 ^ other.places) (2 ^ 149) (pow_pos 149) other.value
      (subst (λ (a : ℕ). HasValue (tenth z) (below z) a (2 ^ 149)) (sym size) (shown_value z h))
      (elim found.1 [ inl e ↦ inl e | inr e ↦ inr (omega (arith, e)) ])
