-- What callers that have judged the ranges need: each factor is its formula's value, and it is small.
use Rattle.std.specs.Prelude.{Result, Ok, Err}
use mathlib.Core.Path.{◌≡◌, ◌∙◌}
use mathlib.Core.Bool.{true}
use mathlib.Core.List.{List}
use Prim.Native.Nat.{ℕ, ◌*◌, ◌^◌, ◌<◌, ◌≤◌}
use native.Mathlib.Nat.{mul-le-mul, mul_right_comm, mul-le-mul_right, le_trans, le_of_eq}
use native.Mathlib.Omega.{arith}
use borrow.Author.Tests.{le-leb, lt-ltb}
use lib.IntN.{ℤ}
use lib.ListN.{length}
use Rattle.refusals.specs.Told.{done}
use Rattle.refusals.proofs.Laws.{judged_fine, demand_holds, or_else_next, done_one}
use Rattle.ranges.specs.Table.{temperature_ok, coefficient_ok, pressure_ok}
use Rattle.ranges.proofs.Laws.{within_high}
use Rattle.ranges.proofs.Counted.{warm}
use Rattle.exact.specs.Rounding.{rounded}
use Rattle.exact.proofs.Rounding.{at_most}
use Rattle.factors.specs.Metal.{coefficient_of, metal_ok}
use Rattle.factors.specs.Places.{digits}
use Rattle.factors.specs.Fractions.{product_of, cts, cps, cpl, combined}
use Rattle.factors.specs.Prover.{pipe_ok}
use Rattle.factors.specs.Liquid.{liquid_ok, cpl_from}
use Rattle.factors.specs.Rounded.{cts_at, cps_at, cpl_at, combined_at}
use Rattle.factors.specs.Answers.{cts_of, cps_of, cpl_of, combined_of, held}
use Rattle.factors.specs.declared.Liquid.{Liquid}
use Rattle.factors.specs.declared.Metal.{Metal}
use Rattle.factors.specs.declared.Pipe.{Pipe}
use Rattle.factors.specs.declared.Places.{Places}
use Rattle.factors.proofs.Laws.{rounded_at_most_two}
use Rattle.factors.proofs.Squeezed.{squeezed_little}
use Rattle.factors.proofs.Steel.{parts, Loads, loads}
use Rattle.refusals.specs.declared.Refusal.{Refusal}
use Rattle.refusals.specs.Answered.{told}
use Rattle.exact.specs.Quotient.{value_or_zero}

pub told_value : (f : Result ℕ Refusal) {v : ℕ} → told f ≡ done v → value_or_zero f ≡ v
told_value (Ok x) is = done_one is
told_value (Err why) is = let z : ◌≡◌ {A = ℕ} 0 1 = cc in absurd (omega arith)

module _ (f : Result ℕ Refusal) (places : Places) where
  pub cts_value : (metal : Metal) (t : ℤ) → told f ≡ cts_of (digits places) metal t → metal_ok metal ≡ true → temperature_ok t ≡ true → value_or_zero f ≡ cts_at (digits places) metal t
  unfolding cts_of
  cts_value metal t is m ok = told_value f (is ∙ judged_fine _ (or_else_next _ (demand_holds 3 m) ∙ demand_holds 5 ok))

  pub cps_value : (pipe : Pipe) (p : ℕ) → told f ≡ cps_of (digits places) pipe p → pipe_ok pipe ≡ true → pressure_ok p ≡ true → value_or_zero f ≡ cps_at (digits places) pipe p
  unfolding cps_of
  cps_value pipe p is m ok = told_value f (is ∙ judged_fine _ (or_else_next _ (demand_holds 3 m) ∙ demand_holds 5 ok))

  pub cpl_value : (liquid : Liquid) → told f ≡ cpl_of (digits places) liquid → liquid_ok liquid ≡ true → value_or_zero f ≡ cpl_at (digits places) liquid
  unfolding cpl_of
  cpl_value liquid is ok = told_value f (is ∙ judged_fine _ (demand_holds 5 ok))

module _ (places : Places) where
  pub cts_small : (metal : Metal) (t : ℤ) → metal_ok metal ≡ true → temperature_ok t ≡ true → cts_at (digits places) metal t ≤ 2 * 10 ^ digits places
  unfolding cts_at cts metal_ok coefficient_ok
  cts_small metal t m ok =
      let w = warm t ok in
      let gc : coefficient_of metal ≤ 400 = within_high 100 400 _ m in
      let most : w.above * coefficient_of metal ≤ 1200000 = mul-le-mul {n₂ = 3000} {m₂ = 400} w.high gc in
      rounded_at_most_two places (omega arith) (omega (arith, parts _ gc w))

  pub cps_small : (pipe : Pipe) (p : ℕ) → pipe_ok pipe ≡ true → pressure_ok p ≡ true → cps_at (digits places) pipe p ≤ 2 * 10 ^ digits places
  unfolding cps_at cps
  cps_small pipe p m ok = let l : Loads pipe p = loads m ok in rounded_at_most_two places (omega arith) (omega arith)

  pub cpl_small : (liquid : Liquid) → liquid_ok liquid ≡ true → cpl_at (digits places) liquid ≤ 2 * 10 ^ digits places
  unfolding cpl_at cpl_from cpl
  cpl_small liquid ok = let little = squeezed_little liquid ok in rounded_at_most_two places (omega arith) (omega arith)

-- a combined factor of up to four, by a bound on the product of their values
pub combined_small : (d : ℕ) (fs : List ℕ) (k : ℕ) → 0 < (10 ^ d) ^ length fs → product_of fs ≤ k * (10 ^ d) ^ length fs → combined_at d fs ≤ k * 10 ^ d
unfolding combined_at combined rounded
combined_small d fs k some le =
    at_most (product_of fs * 10 ^ d) (k * 10 ^ d) some (le_trans (mul-le-mul_right (10 ^ d) le) (le_of_eq (mul_right_comm k ((10 ^ d) ^ length fs) (10 ^ d))))

pub combined_value : (d : ℕ) (fs : List ℕ) → length fs ≤ 4 → combined_at d fs < 2 ^ 64 → value_or_zero (combined_of d fs) ≡ combined_at d fs
unfolding combined_of held
combined_value d fs few small = rw (le-leb (length fs) 4 few, lt-ltb (combined_at d fs) (2 ^ 64) small)
