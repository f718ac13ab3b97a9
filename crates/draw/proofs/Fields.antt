-- What a record whose fields are in range holds, as facts that arithmetic can use; and the scale reading without a number below zero.
use mathlib.Core.Path.{◌≡◌, refl, sym, ap, ◌∙◌}
use mathlib.Core.Bool.{true, and-true}
use mathlib.Core.List.{List}
use Prim.Native.Nat.{ℕ, zero, suc, ◌+◌, ◌-◌, ◌≤◌}
use native.Mathlib.Omega.{arith}
use borrow.Author.Tests.{leb-true, le-leb}
use lib.Dec.{leb, eqb}
use lib.IntN.{ℤ, pos, negsuc, nat_abs, ◌+ℤ◌}
use Rattle.ranges.specs.Within.{within_signed}
use Rattle.ranges.specs.Table.{temperature_ok, draw_prover_ok, draw_measure_ok, coefficient_ok, ctdw_ok, pressure_ok, certified_ok, scale_ok}
use Rattle.ranges.proofs.Laws.{both_first, both_second, within_low, within_high}
use Rattle.ranges.proofs.Counted.{below}
use Rattle.draw.specs.Fill.{fill_at, fill_ok, follows, rule_ok}
use Rattle.draw.specs.declared.FillRecord.{FillRecord}

-- a draw's temperature is a prover's
draw_temperature : (lo : ℕ) (z : ℤ) → within_signed (pos lo) (pos 1050) z ≡ true → temperature_ok z ≡ true
unfolding temperature_ok
draw_temperature lo (pos n) ok = let h : n ≤ 1050 = leb-true n 1050 (both_second (leb lo n) _ ok) in le-leb n 2000 (omega arith)
draw_temperature lo (negsuc k) ok = cc

-- a scale reading in range, in 0.01 cubic inch above -100.00, and a certified volume with it
pub record Scale (certified : ℕ) (z : ℤ) : Type 0 where
  pub above : ℕ
  pub is : z +ℤ pos 10000 ≡ pos above
  pub high : above ≤ 20000
  pub sum : nat_abs (pos certified +ℤ z) ≡ certified + above - 10000

scaled : (certified : ℕ) (z : ℤ) → 20000 ≤ certified → scale_ok z ≡ true → Scale certified z
unfolding scale_ok
scaled certified (pos n) low ok = let h : n ≤ 10000 = leb-true n 10000 ok in record { above = n + 10000; is = refl; high = omega arith; sum = omega arith }
scaled certified (negsuc k) low ok =
    let h : k ≤ 9999 = leb-true k 9999 (sym (and-true (leb k 9999)) ∙ ok) in
    record { above = 10000 - suc k; is = below 10000 (suc k) (omega arith); high = omega arith; sum = ap nat_abs (below certified (suc k) (omega arith)) ∙ omega arith }

pub record Fields (fill : FillRecord) : Type 0 where
  pub certified_least : 20000 ≤ fill.certified
  pub certified_most : fill.certified ≤ 100000000
  pub scale : Scale fill.certified fill.scale
  pub prover : temperature_ok fill.prover ≡ true
  pub measure : temperature_ok fill.measure ≡ true
  pub coefficient : coefficient_ok fill.coefficient ≡ true
  pub ctdw : fill.ctdw ≤ 1020000
  pub pressure : pressure_ok fill.pressure ≡ true

pub fields : (fill : FillRecord) → fill_ok fill ≡ true → Fields fill
unfolding fill_ok certified_ok draw_prover_ok draw_measure_ok ctdw_ok
fields fill ok =
    let from2 = both_second (certified_ok fill.certified) _ ok in
    let from3 = both_second (scale_ok fill.scale) _ from2 in
    let from4 = both_second (draw_prover_ok fill.prover) _ from3 in
    let from5 = both_second (draw_measure_ok fill.measure) _ from4 in
    let from6 = both_second (coefficient_ok fill.coefficient) _ from5 in
    let certified = both_first (certified_ok fill.certified) _ ok in
    record {
      certified_least = within_low 20000 100000000 fill.certified certified;
      certified_most = within_high 20000 100000000 fill.certified certified;
      scale = scaled fill.certified fill.scale (within_low 20000 100000000 fill.certified certified) (both_first (scale_ok fill.scale) _ from2);
      prover = draw_temperature 350 fill.prover (both_first (draw_prover_ok fill.prover) _ from3);
      measure = draw_temperature 321 fill.measure (both_first (draw_measure_ok fill.measure) _ from4);
      coefficient = both_first (coefficient_ok fill.coefficient) _ from5;
      ctdw = within_high 980000 1020000 fill.ctdw (both_first (ctdw_ok fill.ctdw) _ from6);
      pressure = both_second (ctdw_ok fill.ctdw) _ from6;
    }

-- the pass rule, by the record before
pub rule_first : (s : List ℕ) {i : ℕ} {fill : FillRecord} → i ≡ 0 → fill ≡ fill_at s i → eqb fill.pass 1 ≡ rule_ok s i
unfolding rule_ok
rule_first s {i} {fill} first is = rw first (cc)

pub rule_later : (s : List ℕ) (i : ℕ) {before fill : FillRecord} → (i ≡ 0 → ⊥) → before ≡ fill_at s (i - 1) → fill ≡ fill_at s i → follows before fill ≡ rule_ok s i
unfolding rule_ok
rule_later s zero later is-before is = absurd (later refl)
rule_later s (suc i) later is-before is =
    let less : suc i - 1 ≡ i = omega arith in
    cc
