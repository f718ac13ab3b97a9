-- What the panel shows of n tenths: a division rounded once, at most half of the spacing of singles below 256 away.
use mathlib.Core.Path.{◌≡◌, refl, sym, ap, ◌∙◌, subst}
use mathlib.Core.Bool.{Bool, true, false, beq}
use Prim.Native.Nat.{ℕ, suc, ◌-◌, ◌*◌, ◌/◌, ◌^◌, ◌≤◌, ◌<◌}
use native.Mathlib.Nat.{le_trans, lt_of_le_of_lt, mul-le-mul, mul_left_comm, mul-le-mul_right, le_of_mul-le-mul_right, mul-pos, div-lt_iff_lt-mul}
use native.Mathlib.Omega.{arith}
use lib.Dec.{lit<, lit≤}
use lib.IntN.{ℤ, pos, negsuc, nat_abs}
use lib.Pow.{pow_pos, pow_mono}
use lib.Ieee.{Float, nan, inf, fin, binary32, up, down, unlike, of_int, div, round}
use lib.Ieee.Back.{round_whole}
use lib.Ieee.Digits.{size-le}
use lib.Ieee.Exact.{HasValue, units_val}
use lib.Ieee.Fits.{down_pos, round_is}
use lib.Ieee.Order.{drop, kept}
use lib.Ieee.Scale.{round_same}
use Rattle.live.specs.Exact.{denominator}
use Rattle.live.specs.Panel.{cast, tenth, distance}
use Rattle.live.proofs.Sides.{gap}
use Rattle.live.proofs.Spacing.{closest_near, kept_most}
use Rattle.live.proofs.Distance.{below, apart_on, distance_of_value}

-- the cast is exact
pub cast_value : (z : ℤ) → nat_abs z ≤ 2 ^ 24 → HasValue (cast z) (below z) (nat_abs z) 1
unfolding cast of_int
cast_value (pos n) h = round_whole binary32 false n h
cast_value (negsuc n) h = round_whole binary32 true (suc n) h

ten : cast (pos 10) ≡ fin false 5 (pos 1)
unfolding cast of_int
ten = refl

not_unlike : (s : Bool) → unlike s false ≡ s
not_unlike true = refl
not_unlike false = refl

over_ten : (x : Float) (s : Bool) (a : ℕ) → HasValue x s a 1 → div binary32 x (fin false 5 (pos 1)) ≡ round binary32 s a 10
unfolding div
over_ten nan s a v = absurd v
over_ten (inf t) s a v = absurd v
over_ten (fin t m e) s a v =
    (λ i. round binary32 ((not_unlike t ∙ v.0) i) (m * up e * 1) (5 * 2 * down e))
    ∙ round_same binary32 s (m * up e * 1) (5 * 2 * down e) a 10 (omega (arith, down_pos e)) (lit< tt) (omega (arith, v.1))

-- so the division is the one rounding, of n / 10
pub tenth_is : (z : ℤ) → nat_abs z ≤ 2 ^ 24 → tenth z ≡ round binary32 (below z) (nat_abs z) 10
unfolding tenth
tenth_is z h = ap (div binary32 (cast z)) ten ∙ over_ten (cast z) (below z) (nat_abs z) (cast_value z h)

-- what is kept of a / 10 in units of 2^-149, and how many binary digits of it are dropped
abbrev pub dropped : ℕ → ℕ
dropped a = drop 24 (a * 2 ^ 149) 10

abbrev pub count : ℕ → ℕ
count a = kept 24 (a * 2 ^ 149) 10

-- the size of what is shown, in those units
abbrev pub shown : ℕ → ℕ
shown a = count a * 2 ^ dropped a

module _ (a : ℕ) (h : a ≤ 2000) where
  -- a / 10 is below 256 = 2^8, and 8 + 149 - 24 are dropped at most: the spacing is 2^-16
  pub few_dropped : dropped a ≤ 133
  few_dropped = fewer (size-le (a * 2 ^ 149 / 10) 157 ((div-lt_iff_lt-mul (lit< tt)).1 (under (2 ^ 149) (pow_pos 149))))
    where
      fewer : {z : ℕ} → z ≤ 157 → z - 24 ≤ 133
      fewer l = omega arith

      under : (p : ℕ) → 0 < p → a * p < 256 * p * 10
      under p hp = omega (arith, mul-le-mul_right p h)

  pub value : (s : Bool) → HasValue (round binary32 s a 10) s (shown a) (2 ^ 149)
  value s =
      subst (λ (x : Float). HasValue x s (shown a) (2 ^ 149)) (sym (round_is binary32 s a 10))
      (units_val binary32 s (count a) (dropped a)
      (lt_of_le_of_lt (mul-le-mul {n₂ = 2 ^ 24} {m₂ = 2 ^ 133} (kept_most 24 (a * 2 ^ 149) 10) (pow_mono few_dropped)) (lit< tt)))

  -- ten times what is shown, and a, in those units
  pub near : 2 * gap (count a * (10 * 2 ^ dropped a)) (a * 2 ^ 149) ≤ 10 * 2 ^ dropped a
  near = closest_near (a * 2 ^ 149) (10 * 2 ^ dropped a) (mul-pos (lit< tt) (pow_pos (dropped a)))

  half_spacing : gap (10 * shown a) (a * 2 ^ 149) * 131072 ≤ 10 * 2 ^ 149
  half_spacing =
      subst (λ (n : ℕ). gap n (a * 2 ^ 149) * 131072 ≤ 10 * 2 ^ 149) (mul_left_comm (count a) 10 (2 ^ dropped a))
      (widened _ (2 ^ dropped a) (2 ^ 133) (2 ^ 149) refl (pow_mono few_dropped) near)
    where
      widened : (g w v p : ℕ) → v * 65536 ≡ p → w ≤ v → 2 * g ≤ 10 * w → g * 131072 ≤ 10 * p
      widened g w v p e l n = omega arith

cancelled : (d g bottom p : ℕ) → 0 < p → d * p ≡ g * bottom → g * 131072 ≤ 10 * p → d * 131072 ≤ 10 * bottom
cancelled d g bottom p h e l = le_of_mul-le-mul_right (omega (arith, e, mul-le-mul_right bottom l)) h

same_side : (s : Bool) → beq s s ≡ true
same_side true = refl
same_side false = refl

module _ (z : ℤ) (h : nat_abs z ≤ 2000) where
  pub shown_value : HasValue (tenth z) (below z) (shown (nat_abs z)) (2 ^ 149)
  shown_value =
      subst (λ (x : Float). HasValue x (below z) (shown (nat_abs z)) (2 ^ 149)) (sym (tenth_is z (le_trans h (lit≤ tt))))
      (value (nat_abs z) h (below z))

  pub shown_distance : distance z (tenth z) * 2 ^ 149 ≡ gap (10 * shown (nat_abs z)) (nat_abs z * 2 ^ 149) * denominator (tenth z)
  shown_distance =
      distance_of_value z (tenth z) (below z) (shown (nat_abs z)) (2 ^ 149) shown_value
      ∙ ap (λ (same : Bool). apart_on same (10 * shown (nat_abs z)) (nat_abs z * 2 ^ 149) * denominator (tenth z)) (same_side (below z))

  -- 'the distance between 10x and n, times 131072, is at most 10'
  pub distance_bound : distance z (tenth z) * 131072 ≤ 10 * denominator (tenth z)
  distance_bound = cancelled _ _ _ (2 ^ 149) (pow_pos 149) shown_distance (half_spacing (nat_abs z) h)
