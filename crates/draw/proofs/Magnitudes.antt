-- The magnitudes of a fill's figures and of a pass's factors within the paper's ranges, and that the code's quotients are the paper's:
-- drawn's product and the corrected volume's dividend pass 64 bits.
use Rattle.std.specs.Prelude.{Result}
use mathlib.Core.Path.{◌≡◌, refl, ap, ◌∙◌}
use mathlib.Core.Bool.{true}
use Prim.Native.Nat.{ℕ, ◌+◌, ◌*◌, ◌≤◌, ◌<◌}
use native.Mathlib.Nat.{mul-le-mul, mul-le-mul_left}
use native.Mathlib.Omega.{arith}
use lib.IntN.{ℤ}
use lib.Signed.{mag}
use mir.Syntax.{w16}
use mir.Val.{to_z, of_z}
use Rattle.ranges.specs.Table.{temperature_ok, coefficient_ok, pressure_ok, compressibility_ok}
use Rattle.ranges.proofs.Laws.{within_high}
use Rattle.ranges.proofs.Counted.{warm, passed_on}
use Rattle.exact.specs.Rounding.{rounded}
use Rattle.exact.specs.Quotient.{quotient_of, value_or_zero}
use Rattle.exact.proofs.Rounding.{at_most, at_least}
use Rattle.exact.proofs.Answers.{value_below}
use Rattle.factors.specs.Metal.{coefficient_of, metal_ok}
use Rattle.factors.specs.Prover.{pipe_ok}
use Rattle.factors.specs.Liquid.{liquid_ok, cpl_from}
use Rattle.factors.specs.Fractions.{cts, cps, cpl}
use Rattle.factors.specs.Rounded.{cts_at, cps_at, cpl_at}
use Rattle.factors.specs.Answers.{cts_of}
use Rattle.factors.specs.declared.Metal.{Metal}
use Rattle.factors.specs.declared.Metal.TheVariants.{Certified}
use Rattle.factors.specs.declared.Pipe.{Pipe}
use Rattle.factors.specs.declared.Places.TheVariants.{Six}
use Rattle.factors.proofs.Steel.{parts, Loads, loads}
use Rattle.factors.proofs.Squeezed.{all_fit}
use Rattle.factors.proofs.Values.{cts_small, cts_value, cps_small, cpl_small}
use Rattle.draw.specs.Fill.{fill_ok}
use Rattle.draw.specs.Drawn.{adjusted, measure_cts, prover_cts, ccts, drawn}
use Rattle.draw.specs.Passes.{water_at, corrected_volume}
use Rattle.draw.specs.declared.FillRecord.{FillRecord}
use Rattle.draw.proofs.Fields.{Fields, fields}
use Rattle.refusals.specs.declared.Refusal.{Refusal}
use Rattle.refusals.specs.Answered.{told}

-- CTS is nowhere near zero
cts_least : (metal : Metal) (t : ℤ) → metal_ok metal ≡ true → temperature_ok t ≡ true → 500000 ≤ cts_at 6 metal t
unfolding cts_at cts metal_ok coefficient_ok rounded
cts_least metal t m ok =
    let gc : coefficient_of metal ≤ 400 = within_high 100 400 _ m in
    at_least _ 500000 (omega arith) (omega (arith, parts _ gc (warm t ok)))

-- CTS as the code has it: the temperature passed on as a machine's signed number
pub cts-at : (f : Result ℕ Refusal) (metal : Metal) (t : ℤ) {x : ℕ} → mag t < 32768 → x ≡ value_or_zero f → told f ≡ cts_of 6 metal (to_z w16 (of_z w16 t)) → metal_ok metal ≡ true → temperature_ok t ≡ true → x ≡ cts_at 6 metal t
cts-at f metal t fits is answer m ok = is ∙ cts_value f Six metal t (answer ∙ ap (cts_of 6 metal) (passed_on t fits)) m ok

module _ (metal : Metal) (fill : FillRecord) (m : metal_ok metal ≡ true) (ok : fill_ok fill ≡ true) where
  adjusted_most : adjusted fill ≤ 100010000
  unfolding adjusted
  adjusted_most = let f : Fields fill = fields fill ok in omega (arith, f.scale)

  pub expanded_most : adjusted fill * fill.ctdw ≤ 102010200000000
  expanded_most = mul-le-mul {n₂ = 100010000} {m₂ = 1020000} adjusted_most (fields fill ok).ctdw

  prover_least : 500000 ≤ prover_cts metal fill
  unfolding prover_cts
  prover_least = cts_least metal fill.prover m (fields fill ok).prover

  ratio_most : measure_cts fill * 1000000 ≤ 4000000 * prover_cts metal fill
  unfolding measure_cts metal_ok
  ratio_most = omega (arith, prover_least, cts_small Six (Certified fill.coefficient) fill.measure (fields fill ok).coefficient (fields fill ok).measure)

  prover_some : 0 < prover_cts metal fill
  prover_some = omega (arith, prover_least)

  ccts_most : ccts metal fill ≤ 4000000
  unfolding ccts rounded
  ccts_most = at_most (measure_cts fill * 1000000) 4000000 prover_some ratio_most

  product_most : adjusted fill * fill.ctdw * ccts metal fill ≤ 500000000 * 1000000000000
  product_most = let h : adjusted fill * fill.ctdw * ccts metal fill ≤ 102010200000000 * 4000000 = mul-le-mul expanded_most ccts_most in omega arith

  pub drawn_most : drawn metal fill ≤ 500000000
  unfolding drawn
  drawn_most = at_most (adjusted fill * fill.ctdw * ccts metal fill) 500000000 (omega arith) product_most

  pub ccts_value : {measure prover : ℕ} → measure ≡ measure_cts fill → prover ≡ prover_cts metal fill → value_or_zero (quotient_of (measure * 1000000) prover) ≡ ccts metal fill
  unfolding ccts rounded
  ccts_value is-measure is-prover = rw (is-measure, is-prover) (value_below (measure_cts fill * 1000000) prover_some 4000000 ratio_most (omega arith))

  pub drawn_value : {volume factor : ℕ} → volume ≡ adjusted fill → factor ≡ ccts metal fill → value_or_zero (quotient_of (volume * fill.ctdw * factor) 1000000000000) ≡ drawn metal fill
  unfolding drawn
  drawn_value is-volume is-factor = rw (is-volume, is-factor) (value_below (adjusted fill * fill.ctdw * ccts metal fill) (omega arith) 500000000 product_most (omega arith))

-- ---- the corrected volume

pub water_ok : (pressure : ℕ) → pressure_ok pressure ≡ true → liquid_ok (water_at pressure) ≡ true
unfolding water_at compressibility_ok
water_ok pressure ok = all_fit (water_at pressure) ok (omega arith) refl

module _ (pipe : Pipe) (pressure : ℕ) (pipe-ok : pipe_ok pipe ≡ true) (ok : pressure_ok pressure ≡ true) where
  product_least : 1000000000000 ≤ cps_at 6 pipe pressure * cpl_at 6 (water_at pressure)
  unfolding cps_at cpl_at cpl_from cps cpl water_at rounded pressure_ok
  product_least =
      let l : Loads pipe pressure = loads pipe-ok ok in
      let p : pressure ≤ 1500 = within_high 0 1500 pressure ok in
      mul-le-mul {n₁ = 1000000} {m₁ = 1000000}
      (at_least ((pipe.modulus * pipe.wall + pressure * pipe.diameter) * 1000000) 1000000 (omega arith) (omega arith))
      (at_least (100000000 * 1000000) 1000000 (omega arith) (omega arith))

  pub product_fits : {a b : ℕ} → a ≡ cps_at 6 pipe pressure → b ≡ cpl_at 6 (water_at pressure) → a * b ≤ 4000000000000
  product_fits is-a is_b = rw (is-a, is_b) (mul-le-mul {n₂ = 2000000} {m₂ = 2000000} (cps_small Six pipe pressure pipe-ok ok) (cpl_small Six (water_at pressure) (water_ok pressure ok)))

  pub corrected_most : (sum : ℕ) → corrected_volume pipe pressure sum ≤ sum
  unfolding corrected_volume
  corrected_most sum = at_most (sum * 1000000000000) sum (omega (arith, product_least)) (mul-le-mul_left sum product_least)

  pub corrected_value : {a b : ℕ} (sum : ℕ) → sum ≤ 30000000000 → a ≡ cps_at 6 pipe pressure → b ≡ cpl_at 6 (water_at pressure) → value_or_zero (quotient_of (sum * 1000000000000) (a * b)) ≡ corrected_volume pipe pressure sum
  unfolding corrected_volume
  corrected_value sum few is-a is_b =
      rw (is-a, is_b) (value_below (sum * 1000000000000) (omega (arith, product_least)) sum (mul-le-mul_left sum product_least) (omega arith))
