-- o + k·x depends on the number alone, not on the fraction that it is written as; and its two ends:
-- a number so near to zero that o is left, and whole numbers, which need no rounding.
use mathlib.Core.Path.{◌≡◌, sym, ap, ◌∙◌}
use mathlib.Core.Bool.{Bool, true, false, true≢false}
use mathlib.Core.Logic.{by_cases}
use Prim.Native.Nat.{ℕ, suc, ◌+◌, ◌-◌, ◌*◌, ◌<◌}
use native.Mathlib.Nat.{mul_comm, mul_assoc, mul_right_comm, add-mul, mul-sub, mul-pos, mul-le-mul_right, mul-lt-mul_of_pos_right, lt_of_not-le}
use native.Mathlib.Decide.{dec_le}
use native.Mathlib.Omega.{arith}
use lib.Dec.{lit<}
use lib.IntN.{ℤ, pos, negsuc, nat_abs, ◌+ℤ◌, ◌-ℤ◌, ◌*ℤ◌, +ℤ_comm, +ℤ-neg_ℤ_cancel}
use lib.Ieee.{Float, nan, inf, fin, up, down}
use lib.Ieee.Exact.{HasValue}
use lib.Ieee.Scale.{finite}
use lib.Ieee.Fits.{down_pos}
use Rattle.exact.proofs.Rounding.{cancelled}
use Rattle.live.specs.Exact.{sided, numerator, denominator}
use Rattle.live.specs.Rounding.{away_from_zero}
use Rattle.live.specs.Live.{whole_of}
use Rattle.live.proofs.Sides.{size_sided, times_sided, times_opposite, add_reaching, add_passing}
use Rattle.live.proofs.Rounding.{Nearest, away_sided, away_whole, away_nearest, away_only}

pub sub-mul : (a b c : ℕ) → (a - b) * c ≡ a * c - b * c
sub-mul a b c = mul_comm (a - b) c ∙ mul-sub c a b ∙ (λ i. mul_comm c a i - mul_comm c b i)

-- (a ± b) / d, rounded
unfoldable pub summed : ℕ → Bool → ℕ → ℕ → ℤ
summed a s b d = away_from_zero (pos a +ℤ sided s b) d

-- c times the sum, over c times the bottom, is the same fraction
sum_times : (a : ℕ) (s : Bool) (b c : ℕ) → 0 < c → (pos a +ℤ sided s b) *ℤ pos c ≡ pos (a * c) +ℤ sided s (b * c)
sum_times a false b c h = ap pos (add-mul a b c)
sum_times a true b c h =
    by_cases (dec_le b a)
    (λ r. ap (λ (z : ℤ). z *ℤ pos c) (add_reaching a b r) ∙ ap pos (sub-mul a b c) ∙ sym (add_reaching (a * c) (b * c) (mul-le-mul_right c r)))
    (λ r. ap (λ (z : ℤ). z *ℤ pos c) (add_passing a b (lt_of_not-le r)) ∙ times_opposite (pos (b - a)) c ∙ ap (sided true) (sub-mul b a c)
    ∙ sym (add_passing (a * c) (b * c) (mul-lt-mul_of_pos_right (lt_of_not-le r) h)))

away_scale : (z : ℤ) {d c : ℕ} → 0 < d → 0 < c → away_from_zero (z *ℤ pos c) (d * c) ≡ away_from_zero z d
unfolding away_from_zero
away_scale (pos n) {d} hd hc = ap pos (cancelled n d hc)
away_scale (negsuc n) {d} {c} hd hc = away_sided true (suc n * c) (mul-pos hd hc) ∙ ap (sided true) (cancelled (suc n) d hc)

pub summed_scale : (a : ℕ) (s : Bool) (b : ℕ) {d c : ℕ} → 0 < d → 0 < c → summed (a * c) s (b * c) (d * c) ≡ summed a s b d
unfolding summed
summed_scale a s b {d} {c} hd hc = ap (λ (z : ℤ). away_from_zero z (d * c)) (sym (sum_times a s b c hc)) ∙ away_scale (pos a +ℤ sided s b) hd hc

-- o + k·x at any fraction that is x
pub whole_of_value : (o k : ℕ) (x : Float) (s : Bool) (a : ℕ) {c : ℕ} → 0 < c → HasValue x s a c → whole_of o k x ≡ summed (o * c) s (k * a) c
unfolding whole_of numerator denominator summed
whole_of_value o k nan s a h v = absurd v
whole_of_value o k (inf t) s a h v = absurd v
whole_of_value o k (fin t m e) s a {c} h v =
    (λ i. away_from_zero (pos (o * down e) +ℤ times i) (down e))
    ∙ sym (summed_scale (o * down e) s (k * (m * up e)) (down_pos e) h)
    ∙ (λ i. summed (mul_right_comm o (down e) c i) s (crossed i) (mul_comm (down e) c i))
    ∙ summed_scale (o * c) s (k * a) h (down_pos e)
  where
    times : pos k *ℤ sided t (m * up e) ≡ sided s (k * (m * up e))
    times = times_sided k t (m * up e) ∙ ap (λ (b : Bool). sided b (k * (m * up e))) v.0

    crossed : k * (m * up e) * c ≡ k * a * down e
    crossed = mul_assoc k (m * up e) c ∙ ap (λ (n : ℕ). k * n) v.1 ∙ sym (mul_assoc k a (down e))

pub denominator_pos : (x : Float) → 0 < denominator x
unfolding denominator
denominator_pos nan = lit< tt
denominator_pos (inf s) = lit< tt
denominator_pos (fin s m e) = down_pos e

-- the rounding law, of o + k·x: the whole number is the one nearest to it, and no other is
module _ (o k : ℕ) (x : Float) where
  pub whole_nearest : Nearest (pos (o * denominator x) +ℤ pos k *ℤ numerator x) (denominator x) (whole_of o k x)
  unfolding whole_of
  whole_nearest = away_nearest _ (denominator x) (denominator_pos x)

  pub whole_only : (z : ℤ) → Nearest (pos (o * denominator x) +ℤ pos k *ℤ numerator x) (denominator x) z → z ≡ whole_of o k x
  unfolding whole_of
  whole_only z r = away_only _ (denominator x) z (denominator_pos x) r

-- of what is not finite o is left
pub whole_of_none : (o k : ℕ) (x : Float) → finite x ≡ false → whole_of o k x ≡ pos o
unfolding whole_of numerator denominator
whole_of_none o k nan h = away_whole (pos (o * 1 + k * 0)) ∙ ap pos (omega arith)
whole_of_none o k (inf s) h = away_whole (pos (o * 1 + k * 0)) ∙ ap pos (omega arith)
whole_of_none o k (fin s m e) h = absurd (true≢false h)

-- b / d is under a half: what is left is o
pub summed_near : (o : ℕ) (s : Bool) (b : ℕ) {d : ℕ} → 2 * b < d → summed (o * d) s b d ≡ pos o
unfolding summed
summed_near o s b {d} h =
    let apart : nat_abs (pos (o * d) +ℤ sided s b -ℤ pos (o * d)) ≡ b = ap nat_abs (ap (λ (z : ℤ). z -ℤ pos (o * d)) (+ℤ_comm (pos (o * d)) (sided s b)) ∙ +ℤ-neg_ℤ_cancel (sided s b) (pos (o * d))) ∙ size_sided s b in
    sym (away_only (pos (o * d) +ℤ sided s b) d (pos o) (omega arith) (record { near = omega (arith, apart); half = λ e. absurd (omega (arith, apart, e)) }))

-- a whole number needs no rounding
pub summed_whole : (a : ℕ) (s : Bool) (b : ℕ) → summed a s b 1 ≡ pos a +ℤ sided s b
unfolding summed
summed_whole a s b = away_whole (pos a +ℤ sided s b)
