-- A signed number of 16 bits on the machine: its size, by the side of zero that it is on.
use Rattle.std.specs.Prelude.{Some}
use mathlib.Core.Path.{◌≡◌, refl, sym, subst, subst⁻¹, ap, ◌∙◌}
use mathlib.Core.Bool.{Bool, true, false, true≢false}
use Prim.Native.Nat.{ℕ, zero, suc, ◌+◌, ◌-◌, ◌≤◌, ◌<◌}
use native.Mathlib.Omega.{arith}
use borrow.Author.Tests.{lt-ltb, le-ltb, le-leb}
use lib.Dec.{T}
use lib.IntN.{ℤ, pos, negsuc, nat_abs}
use lib.Signed.{le_z, non_neg}
use mir.Syntax.{w16, w64}
use mir.Val.{Fits, SFits, to_z, of_z}
use mir.ValLaws.{to_z-of_z}
use mathlib.Core.List.{List, [], ◌∷◌}
use Rattle.octets.specs.Octets.{written_at}
use Rattle.numerals.specs.Numbers.{negated, printed}
use Rattle.words.specs.Written.{place_after}
use Rattle.numerals.specs.Printed.{place_after_signed, written_signed}

abbrev Whole : ℤ → Type 0
Whole z = T (non_neg z) × Fits w64 (nat_abs z)

not_both : {b : Bool} → b ≡ true → b ≡ false → ⊥
not_both p q = true≢false (sym p ∙ q)

above_zero : (z : ℤ) → SFits w16 z → le_z (pos 0) z ≡ true → Whole z
above_zero (pos n) f h = (tt, record { fits = omega (arith, f.sfits) })
above_zero (negsuc n) f h = absurd (not_both h refl)

pub above : {z : ℤ} → SFits w16 z → le_z (pos 0) (to_z w16 (of_z w16 z)) ≡ true → Whole (to_z w16 (of_z w16 z))
above {z} f h = subst⁻¹ Whole (to_z-of_z w16 z f) (above_zero z f (subst (λ (y : ℤ). le_z (pos 0) y ≡ true) (to_z-of_z w16 z f) h))

pub record Below (z : ℤ) : Type 0 where
  pub size : ℕ
  pub is : to_z w16 (65535 - of_z w16 z) ≡ pos size
  pub abs : nat_abs z ≡ size + 1
  pub small : size < 32768

turned : (n : ℕ) → n < 32768 → to_z w16 (65535 - (65536 - suc n)) ≡ pos n
turned n h =
    let back : 65535 - (65536 - suc n) ≡ n = omega arith in
    rw (back, lt-ltb n 32768 h)

below-zero : (z : ℤ) → SFits w16 z → le_z (pos 0) z ≡ false → Below z
below-zero (pos n) f h = absurd (not_both (le-leb 0 n (omega arith)) h)
below-zero (negsuc n) f h = record { size = n; is = turned n (omega (arith, f.sfits)); abs = omega arith; small = omega (arith, f.sfits) }

pub below : {z : ℤ} → SFits w16 z → le_z (pos 0) (to_z w16 (of_z w16 z)) ≡ false → Below z
below {z} f h = below-zero z f (subst (λ (y : ℤ). le_z (pos 0) y ≡ false) (to_z-of_z w16 z f) h)

pub turned_fits : {z : ℤ} → Below z → Whole (to_z w16 (65535 - of_z w16 z))
turned_fits b = subst⁻¹ Whole b.is (tt, record { fits = omega (arith, b.small) })

pub turned_below : (n : ℕ) → (n ≡ 0 → ⊥) → n ≤ 32768 → Some (to_z w16 (65535 - (n - 1))) ≡ negated (Some n)
unfolding negated
turned_below zero h l = absurd (h refl)
turned_below (suc k) h l =
    let e : suc k - 1 ≡ k = omega arith in
    let less : 65536 - suc (65535 - k) ≡ k = omega arith in
    rw (e, le-ltb (65535 - k) 32768 (omega arith), less)

-- a number's size is printed as it is, and behind a `-` below zero
pub record Shown (to : List ℕ) (at : ℕ) (place : ℕ) (left : List ℕ) (z : ℤ) : Type 0 where
  pub place_is : place ≡ place_after_signed to at z
  pub left_is : left ≡ written_signed to at z

abbrev pub dash : List ℕ
dash = 45 ∷ []

shown_above : (to : List ℕ) (at m : ℕ) (z : ℤ) → le_z (pos 0) z ≡ true → m ≡ nat_abs z → Shown to at (place_after to at (printed m)) (written_at to at (printed m)) z
unfolding place_after_signed written_signed
shown_above to at m (pos n) h e = record { place_is = ap (λ (k : ℕ). place_after to at (printed k)) e; left_is = ap (λ (k : ℕ). written_at to at (printed k)) e }
shown_above to at m (negsuc n) h e = absurd (not_both h refl)

shown_below : (to : List ℕ) (at m : ℕ) (z : ℤ) → le_z (pos 0) z ≡ false → m ≡ nat_abs z → Shown to at (place_after (written_at to at dash) (place_after to at dash) (printed m)) (written_at (written_at to at dash) (place_after to at dash) (printed m)) z
unfolding place_after_signed written_signed
shown_below to at m (pos n) h e = absurd (not_both (le-leb 0 n (omega arith)) h)
shown_below to at m (negsuc n) h e = record { place_is = ap (λ (k : ℕ). place_after (written_at to at dash) (place_after to at dash) (printed k)) e; left_is = ap (λ (k : ℕ). written_at (written_at to at dash) (place_after to at dash) (printed k)) e }

-- the same of the machine's number
pub machine_above : (to : List ℕ) (at m : ℕ) {z : ℤ} → SFits w16 z → le_z (pos 0) (to_z w16 (of_z w16 z)) ≡ true → m ≡ nat_abs (to_z w16 (of_z w16 z)) → Shown to at (place_after to at (printed m)) (written_at to at (printed m)) z
machine_above to at m {z} f h e =
    shown_above to at m z (subst (λ (y : ℤ). le_z (pos 0) y ≡ true) (to_z-of_z w16 z f) h) (e ∙ ap nat_abs (to_z-of_z w16 z f))

pub machine_below : (to : List ℕ) (at m : ℕ) {z : ℤ} → SFits w16 z → le_z (pos 0) (to_z w16 (of_z w16 z)) ≡ false → m ≡ nat_abs (to_z w16 (of_z w16 z))
    → Shown to at (place_after (written_at to at dash) (place_after to at dash) (printed m)) (written_at (written_at to at dash) (place_after to at dash) (printed m)) z
machine_below to at m {z} f h e =
    shown_below to at m z (subst (λ (y : ℤ). le_z (pos 0) y ≡ false) (to_z-of_z w16 z f) h) (e ∙ ap nat_abs (to_z-of_z w16 z f))
