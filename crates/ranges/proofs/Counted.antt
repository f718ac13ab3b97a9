-- A signed number that is counted from below zero on, so that no step is below zero: what the machine's sum and cast give.
use mathlib.Core.Path.{◌≡◌, refl, sym, ap, ◌∙◌, subst}
use mathlib.Core.Bool.{true, and-true}
use Prim.Native.Nat.{ℕ, suc, ◌+◌, ◌-◌, ◌<◌, ◌≤◌}
use native.Mathlib.Omega.{arith}
use borrow.Author.Tests.{leb-true, le-ltb}
use lib.Dec.{T, leb}
use lib.IntN.{ℤ, pos, negsuc, nat_abs, sub_ℕ, ◌+ℤ◌}
use lib.Signed.{non_neg, mag}
use mir.Syntax.{w16, w64}
use mir.Val.{SFits, Fits, to_z, of_z}
use mir.ValLaws.{to_z-of_z}
use Rattle.ranges.specs.Table.{temperature_ok}

-- a difference that stays above zero
pub below : (n m : ℕ) → m ≤ n → sub_ℕ n m ≡ pos (n - m)
below n m h = rw (le-ltb n m h)

-- a temperature in range, in 0.1 °F above -100.0 °F
pub record Warm (t : ℤ) : Type 0 where
  pub above : ℕ
  pub is : t +ℤ pos 1000 ≡ pos above
  pub low : 800 ≤ above
  pub high : above ≤ 3000

pub warm : (t : ℤ) → temperature_ok t ≡ true → Warm t
unfolding temperature_ok
warm (pos n) ok = let h : n ≤ 2000 = leb-true n 2000 ok in record { above = n + 1000; is = refl; low = omega arith; high = omega arith }
warm (negsuc k) ok = let h : k ≤ 199 = leb-true k 199 (sym (and-true (leb k 199)) ∙ ok) in record { above = 1000 - suc k; is = below 1000 (suc k) (omega arith); low = omega arith; high = omega arith }

-- a signed number that has 16 bits is passed on by the machine as it is
pub passed_on : (z : ℤ) → mag z < 32768 → to_z w16 (of_z w16 z) ≡ z
passed_on z h = to_z-of_z w16 z (record { sfits = h })

-- the machine's sum and cast give a count from -k on
module _ (k : ℕ) {z : ℤ} {above : ℕ} (back : to_z w16 (of_z w16 z) ≡ z) (is : z +ℤ pos k ≡ pos above) (high : above ≤ 32767) where
  sum_is : to_z w16 (of_z w16 z) +ℤ pos k ≡ pos above
  sum_is = ap (λ (x : ℤ). x +ℤ pos k) back ∙ is

  pub sum_fits : SFits w16 (to_z w16 (of_z w16 z) +ℤ pos k)
  sum_fits = subst (λ (x : ℤ). SFits w16 x) (sym sum_is) (record { sfits = omega arith })

  pub cast_is : to_z w16 (of_z w16 (to_z w16 (of_z w16 z) +ℤ pos k)) ≡ pos above
  cast_is = to_z-of_z w16 (to_z w16 (of_z w16 z) +ℤ pos k) sum_fits ∙ sum_is

  pub cast_fits : T (non_neg (to_z w16 (of_z w16 (to_z w16 (of_z w16 z) +ℤ pos k)))) × Fits w64 (nat_abs (to_z w16 (of_z w16 (to_z w16 (of_z w16 z) +ℤ pos k))))
  cast_fits = subst (λ (x : ℤ). T (non_neg x) × Fits w64 (nat_abs x)) (sym cast_is) (tt, record { fits = omega arith })
