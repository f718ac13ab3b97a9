-- The factors' magnitudes, and what each answer is once the ranges are known.
use mathlib.Core.Path.{◌≡◌, sym, ap, ◌∙◌}
use Prim.Native.Nat.{ℕ, ◌*◌, ◌^◌, ◌<◌, ◌≤◌}
use native.Mathlib.Nat.{mul_assoc, mul_comm, mul-le-mul_right, le_trans, le_of_eq}
use native.Mathlib.Omega.{arith}
use borrow.Author.Tests.{le-ltb, eq-eqb}
use Rattle.exact.specs.Rounding.{rounded, ◌over◌}
use Rattle.exact.specs.Quotient.{quotient_of, value_or_zero}
use Rattle.exact.proofs.Rounding.{at_most}
use Rattle.exact.proofs.Answers.{value_below}
use Rattle.factors.specs.Metal.{named, metal_by}
use Rattle.factors.specs.Places.{digits}
use Rattle.factors.specs.declared.Places.{Places}
use Rattle.factors.specs.declared.Places.TheVariants.{Four, Six}

-- one, at 4 or 6 places
pub unit_large : (places : Places) → 10 ^ digits places ≤ 1000000
unit_large Four = omega arith
unit_large Six = omega arith

pub unit_above_zero : (places : Places) → 0 < 10 ^ digits places
unit_above_zero Four = omega arith
unit_above_zero Six = omega arith

module _ (places : Places) {num den : ℕ} (h : 0 < den) (small : num ≤ 2 * den) where
  scaled : num * 10 ^ digits places ≤ 2 * 10 ^ digits places * den
  scaled = le_trans (mul-le-mul_right (10 ^ digits places) small) (le_of_eq (mul_assoc 2 den (10 ^ digits places) ∙ ap (λ (m : ℕ). 2 * m) (mul_comm den (10 ^ digits places)) ∙ sym (mul_assoc 2 (10 ^ digits places) den)))

  -- a fraction of at most 2 is rounded to at most 2
  pub rounded_at_most_two : rounded (digits places) (num over den) ≤ 2 * 10 ^ digits places
  unfolding rounded
  rounded_at_most_two = at_most (num * 10 ^ digits places) (2 * 10 ^ digits places) h scaled

  pub rounded_small : rounded (digits places) (num over den) ≤ 2000000
  rounded_small = omega (arith, rounded_at_most_two, unit_large places)

  pub rounded_by_words : value_or_zero (quotient_of (num * 10 ^ digits places) den) ≡ rounded (digits places) (num over den)
  unfolding rounded
  rounded_by_words = value_below (num * 10 ^ digits places) h (2 * 10 ^ digits places) scaled (omega (arith, unit_large places))

-- without a certificate the metal's name counts
pub by_name : (code certified : ℕ) → code ≤ 4 → certified ≡ 0 → metal_by code certified ≡ named code
unfolding metal_by
by_name code certified known none = simp (le-ltb _ _ known, eq-eqb _ _ none)
