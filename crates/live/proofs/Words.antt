-- Words of 16 bits: what they hold of a whole number is judged by its size, no range of a reading reaches further, and a size of 15 bits is the
-- machine's signed number on either side of zero.
use mathlib.Core.Path.{◌≡◌, refl, sym, ap, ◌∙◌}
use mathlib.Core.Bool.{Bool, true, false, ◌&&◌, and-false, true≢false}
use Prim.Native.Nat.{ℕ, zero, suc, ◌≤◌, ◌<◌}
use native.Mathlib.Omega.{arith}
use borrow.Author.Tests.{lt-ltb, le-ltb, lt-leb, ltb-false}
use lib.IntN.{ℤ, pos, negsuc, neg_ℤ, nat_abs, ◌-ℤ◌, +ℤ_idl}
use lib.Dec.{T, leb}
use lib.Signed.{non_neg}
use mir.Syntax.{w16}
use mir.Val.{SFits, to_z}
use mir.ValLaws.{to_z_pos}
use Rattle.ranges.specs.Table.{temperature_ok, pressure_ok}
use Rattle.ranges.proofs.Laws.{within_high}
use Rattle.live.specs.Exact.{sided}
use Rattle.live.specs.Live.{psi_ok}
use Rattle.live.specs.Word.{held}
use Rattle.live.proofs.Sides.{size_sided}

-- what 16 bits hold, by its size
pub held_near : (s : Bool) (n : ℕ) → n < 32768 → held (sided s n) ≡ true
unfolding held
held_near s n h = rw (size_sided s n) (lt-ltb n 32768 h)

pub held_far : (z : ℤ) → 32768 ≤ nat_abs z → held z ≡ false
unfolding held
held_far z h = le-ltb (nat_abs z) 32768 h

not_held : (z : ℤ) → held z ≡ false → 32768 ≤ nat_abs z
unfolding held
not_held z far = ltb-false (nat_abs z) 32768 far

-- no range of a reading reaches 32767
pub temperature_reach : (z : ℤ) → 32767 ≤ nat_abs z → temperature_ok z ≡ false
unfolding temperature_ok
temperature_reach (pos n) h = lt-leb n 2000 (omega arith)
temperature_reach (negsuc n) h = rw (lt-leb n 199 (omega arith))

pub psi_reach : (z : ℤ) → 32767 ≤ nat_abs z → psi_ok z ≡ false
unfolding psi_ok pressure_ok
psi_reach (pos n) h = ap (λ (b : Bool). leb 0 n && b) (lt-leb n 1500 (omega arith)) ∙ and-false (leb 0 n)
psi_reach (negsuc n) h = refl

-- so none has what 16 bits do not hold
pub temperature_held : (z : ℤ) → held z ≡ false → temperature_ok z ≡ false
temperature_held z far = temperature_reach z (omega (arith, not_held z far))

pub psi_held : (z : ℤ) → held z ≡ false → psi_ok z ≡ false
psi_held z far = psi_reach z (omega (arith, not_held z far))

-- a pressure in range is not below zero
pub psi_unsigned : (z : ℤ) → psi_ok z ≡ true → T (non_neg z) × (nat_abs z ≤ 1500)
unfolding psi_ok pressure_ok
psi_unsigned (pos n) h = (tt, within_high 0 1500 n h)
psi_unsigned (negsuc n) h = absurd (true≢false (sym h))

-- a size of 15 bits as the machine's signed number, on either side of zero
pub machine_above : (n : ℕ) → n ≤ 32767 → to_z w16 n ≡ sided false n
machine_above n h = to_z_pos w16 n (omega arith)

pub machine_below : (n : ℕ) → n ≤ 32767 → pos 0 -ℤ to_z w16 n ≡ sided true n
machine_below n h = ap (λ (z : ℤ). pos 0 -ℤ z) (machine_above n h) ∙ +ℤ_idl (neg_ℤ (pos n))

pub sided_fits : (s : Bool) (n : ℕ) → n < 32768 → SFits w16 (sided s n)
sided_fits false n h = record { sfits = omega arith }
sided_fits true zero h = record { sfits = omega arith }
sided_fits true (suc n) h = record { sfits = omega arith }
