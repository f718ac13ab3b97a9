-- A number that is small beside the one it is added to, or not more than the one it is taken from, leaves it above zero.
use mathlib.Core.Path.{◌≡◌, refl, sym, ap, ◌∙◌, subst}
use mathlib.Core.Bool.{true, and-true}
use mathlib.Core.List.{List}
use mathlib.Core.Logic.{by_cases}
use Prim.Native.Nat.{ℕ, zero, suc, ◌*◌, ◌-◌, ◌<◌, ◌≤◌}
use native.Mathlib.Nat.{mul-le-mul}
use native.Mathlib.Decide.{dec_lt}
use native.Mathlib.Omega.{arith}
use borrow.Author.Tests.{leb-true, lt-ltb, le-ltb}
use lib.Dec.{leb}
use lib.IntN.{ℤ, pos, negsuc, neg_ℤ, nat_abs, sub_ℕ, ◌+ℤ◌, ◌-ℤ◌, ◌*ℤ◌}
use Rattle.ranges.specs.Table.{temperature_ok, pressure_ok, coefficient_ok, certified_ok, scale_ok}
use Rattle.ranges.proofs.Laws.{both_first, both_second, within_high, within_true}
use Rattle.ranges.proofs.Counted.{below}
use Rattle.factors.specs.Fractions.{cts, cpl}
use Rattle.factors.specs.Liquid.{cpl_from}
use Rattle.factors.proofs.Squeezed.{pressure_fits, not-below, squeezed_little, all_fit}
use Rattle.group.proofs.Bounds.{smallest_at_most_largest}
use Rattle.draw.specs.Drawn.{adjusted}
use Rattle.draw.specs.Fill.{fill_at, fill_ok}
use Rattle.draw.proofs.Fields.{fields}
use Rattle.ticket.specs.Formulas.{indicated}
use Rattle.ticket.proofs.Magnitudes.{in-range}
use Rattle.live.specs.Live.{psi_ok}
use Rattle.promises.specs.Signed.{AboveZero, Signed}
use Rattle.promises.proofs.Groups.{apart}

-- a difference that does not stop at zero
less : (n m : ℕ) → m ≤ n → pos n -ℤ pos m ≡ pos (n - m)
less n zero h = ap pos (omega arith)
less n (suc m) h = below n (suc m) h

less_above : (n m : ℕ) → m < n → AboveZero (pos n -ℤ pos m) (n - m)
less_above n m h = record { is = less n m (omega arith); above = omega arith }

-- one that goes below zero is no number from 0 on
short : (n m k : ℕ) → n < m → pos n -ℤ pos m ≡ pos k → ⊥
short n zero k h is = omega arith
short n (suc m) k h is = let apart : negsuc (suc m - suc n) ≡ pos k = sym (negative n (suc m) h) ∙ is in let z : ◌≡◌ {A = ℕ} 0 1 = cc in omega arith
  where
    negative : (n m : ℕ) → n < m → sub_ℕ n m ≡ negsuc (m - suc n)
    negative n m h = rw (lt-ltb n m h)

-- a sum with a signed number that is smaller
added : (n : ℕ) (z : ℤ) → nat_abs z < n → AboveZero (pos n +ℤ z) (nat_abs (pos n +ℤ z))
added n (pos m) h = record { is = refl; above = omega arith }
added n (negsuc m) h = let is = below n (suc m) (omega arith) in record { is = is ∙ ap (λ (z : ℤ). pos (nat_abs z)) (sym is); above = omega (arith, ap nat_abs is) }

-- its magnitude, times a number
times : (z : ℤ) (n : ℕ) → nat_abs (z *ℤ pos n) ≡ nat_abs z * n
times (pos m) n = refl
times (negsuc m) n = back (suc m * n)
  where
    back : (k : ℕ) → nat_abs (neg_ℤ (pos k)) ≡ k
    back zero = refl
    back (suc k) = refl

-- a temperature in range is at most 140 °F from 60 °F
from_sixty : (t : ℤ) → temperature_ok t ≡ true → nat_abs (t -ℤ pos 600) ≤ 1400
unfolding temperature_ok
from_sixty (pos n) ok =
    let h : n ≤ 2000 = leb-true n 2000 ok in
    by_cases (dec_lt n 600) (λ cold. rw (lt-ltb n 600 cold) (omega arith)) (λ warm. rw (le-ltb n 600 (omega arith)) (omega arith))
from_sixty (negsuc k) ok = let h : k ≤ 199 = leb-true k 199 (sym (and-true (leb k 199)) ∙ ok) in omega arith

-- a scale reading in range is at most 100.00 cubic inches, and any certified volume is more
scale_small : (z : ℤ) → scale_ok z ≡ true → nat_abs z ≤ 10000
unfolding scale_ok
scale_small (pos n) ok = leb-true n 10000 ok
scale_small (negsuc k) ok = let h : k ≤ 9999 = leb-true k 9999 (sym (and-true (leb k 9999)) ∙ ok) in omega arith

pub adjusted_above : (s : List ℕ) (i : ℕ) → fill_ok (fill_at s i) ≡ true → AboveZero (pos (fill_at s i).certified +ℤ (fill_at s i).scale) (adjusted (fill_at s i))
unfolding adjusted fill_ok
adjusted_above s i ok =
    let scale = both_first (scale_ok (fill_at s i).scale) _ (both_second (certified_ok (fill_at s i).certified) _ ok) in
    added (fill_at s i).certified (fill_at s i).scale (omega (arith, (fields (fill_at s i) ok).certified_least, scale_small (fill_at s i).scale scale))

pub signed : Signed
unfolding cts cpl_from cpl pressure_ok coefficient_ok indicated psi_ok
signed =
    record {
      steel = λ t gc warm coefficient.
          let most : nat_abs (t -ℤ pos 600) * gc ≤ 560000 = mul-le-mul {n₂ = 1400} {m₂ = 400} (from_sixty t warm) (within_high 100 400 gc coefficient) in
          record {
            top = nat_abs (pos 100000000 +ℤ (t -ℤ pos 600) *ℤ pos gc);
            bottom = 100000000;
            is = refl;
            dividend_above = added 100000000 ((t -ℤ pos 600) *ℤ pos gc) (omega (arith, times (t -ℤ pos 600) gc));
            divisor_above = record { is = refl; above = omega arith };
          };
      liquid = λ liquid ok.
          let squeezed = liquid.compressibility * (liquid.pressure - liquid.equilibrium) in
          record {
            top = 100000000;
            bottom = 100000000 - squeezed;
            is = refl;
            dividend_above = record { is = refl; above = omega arith };
            divisor_above = subst (λ (above : ℤ). AboveZero (pos 100000000 -ℤ pos liquid.compressibility *ℤ above) (100000000 - squeezed)) (sym (less liquid.pressure liquid.equilibrium (not-below liquid ok)))
                (less_above 100000000 squeezed (omega (arith, squeezed_little liquid ok)));
          };
      not-below = λ liquid pressure compressibility. (not-below liquid, λ above. all_fit liquid pressure above compressibility);
      counted = λ p pe. (λ number. by_cases (dec_lt p pe) (λ below. absurd (short p pe number.0 below number.1)) (λ above. omega arith), λ above. (p - pe, less p pe above));
      divisor = λ liquid ok. omega (arith, squeezed_little liquid ok);
      equilibrium = λ liquid ok. within_true 0 1500 liquid.equilibrium (omega arith) (omega (arith, not-below liquid ok, within_high 0 1500 liquid.pressure (pressure_fits liquid ok)));
      measure = adjusted_above;
      spread = λ values. less _ _ (smallest_at_most_largest values);
      measured = λ t order. less t.closing t.opening (leb-true t.opening t.closing order);
      dry = λ t ok. less 100000 t.sediment (in-range t ok).sediment;
      psi = from_zero;
    }
  where
    from_zero : (z : ℤ) → psi_ok z ≡ true → z ≡ pos (nat_abs z)
    from_zero (pos n) ok = refl
    from_zero (negsuc n) ok = absurd (apart (sym ok))
