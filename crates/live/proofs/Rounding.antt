-- The rounding law: what `away_from_zero` gives is nearest, on a half the one away from zero, and no other whole number is.
use mathlib.Core.Path.{◌≡◌, refl, sym, ap, ◌∙◌}
use mathlib.Core.Bool.{Bool, true, false}
use mathlib.Core.Logic.{inl, inr}
use Prim.Native.Nat.{ℕ, zero, suc, ◌+◌, ◌*◌, ◌≤◌, ◌<◌}
use native.Mathlib.Nat.{suc-mul, eq-or-lt_of_le}
use native.Mathlib.Omega.{arith}
use lib.IntN.{ℤ, pos, negsuc, neg_ℤ, nat_abs, ◌+ℤ◌, ◌-ℤ◌, ◌*ℤ◌, neg_ℤ-neg_ℤ}
use Rattle.exact.specs.Rounding.{rounded_div}
use Rattle.exact.proofs.Rounding.{nearest, nearest_only}
use Rattle.live.specs.Exact.{sided}
use Rattle.live.specs.Rounding.{away_from_zero}
use Rattle.live.proofs.Sides.{size_opposite, apart_opposite, apart}

-- a number that is whole stays as it is
over-one : (n : ℕ) → rounded_div n 1 ≡ n
over-one n = nearest_only (record { low = omega arith; high = omega arith })

pub away_whole : (z : ℤ) → away_from_zero z 1 ≡ z
unfolding away_from_zero
away_whole (pos n) = ap pos (over-one n)
away_whole (negsuc n) = ap (sided true) (over-one (suc n))

nothing : {d : ℕ} → 0 < d → rounded_div 0 d ≡ 0
nothing {d} h = nearest_only (record { low = omega arith; high = omega arith })

-- rounding keeps the side of zero
pub away_sided : (s : Bool) (n : ℕ) {d : ℕ} → 0 < d → away_from_zero (sided s n) d ≡ sided s (rounded_div n d)
unfolding away_from_zero
away_sided false n h = refl
away_sided true zero h = rw (nothing h)
away_sided true (suc n) h = refl

-- z is nearest to num / den: at most half a unit away, and exactly half only where z is the one further from zero
pub record Nearest (num : ℤ) (den : ℕ) (z : ℤ) : Type 0 where
  pub near : 2 * nat_abs (num -ℤ z *ℤ pos den) ≤ den
  pub half : 2 * nat_abs (num -ℤ z *ℤ pos den) ≡ den → nat_abs num < nat_abs z * den

-- what is nearest on one side of zero is so on the other
opposite : (n z : ℤ) (d : ℕ) → Nearest n d z → Nearest (neg_ℤ n) d (neg_ℤ z)
opposite n z d r =
    record {
      near = rw (apart_opposite n z d) r.near;
      half = λ e. rw (size_opposite n, size_opposite z) (r.half (sym (ap (λ (y : ℕ). 2 * y) (apart_opposite n z d)) ∙ e));
    }

-- above zero
module _ (n d : ℕ) (h : 0 < d) where
  above_nearest : Nearest (pos n) d (pos (rounded_div n d))
  above_nearest =
      let e = apart n (rounded_div n d * d) in
      record { near = omega (arith, e, (nearest n h).low, (nearest n h).high); half = λ f. omega (arith, e, f, (nearest n h).high) }

  above_only : (z : ℤ) → Nearest (pos n) d z → z ≡ pos (rounded_div n d)
  above_only (pos q) r =
      let e = apart n (q * d) in
      let high : 2 * n < 2 * (q * d) + d = elim (eq-or-lt_of_le r.near) [ inl f ↦ omega (arith, r.half f) | inr f ↦ omega (arith, e, f) ] in
      ap pos (sym (nearest_only (record { low = omega (arith, e, r.near); high = high })))
  above_only (negsuc q) r =
      let e = ap (λ (y : ℤ). nat_abs (pos n +ℤ y)) (neg_ℤ-neg_ℤ (pos (suc q * d))) in
      absurd (omega (arith, e, r.near, suc-mul q d))

-- the rounding law: the whole number given is nearest, on a half the one away from zero ..
pub away_nearest : (n : ℤ) (d : ℕ) → 0 < d → Nearest n d (away_from_zero n d)
unfolding away_from_zero
away_nearest (pos n) d h = above_nearest n d h
away_nearest (negsuc n) d h = opposite (pos (suc n)) (pos (rounded_div (suc n) d)) d (above_nearest (suc n) d h)

-- .. and no other is
pub away_only : (n : ℤ) (d : ℕ) (z : ℤ) → 0 < d → Nearest n d z → z ≡ away_from_zero n d
unfolding away_from_zero
away_only (pos n) d z h r = above_only n d h z r
away_only (negsuc n) d z h r =
    sym (neg_ℤ-neg_ℤ z) ∙ ap neg_ℤ (above_only (suc n) d h (neg_ℤ z) (opposite (negsuc n) z d r))
