-- What a rounded quotient answers: when it is a value, and which.
use Rattle.std.specs.Prelude.{Result, Ok, Err}
use Rattle.std.specs.Result.{MatchResult, IsErrAnd}
use Rattle.std.proofs.lemmas.Result.{err_from_is_err_and}
use mathlib.Core.Path.{◌≡◌, sym, ap, ◌∙◌}
use Prim.Native.Nat.{ℕ, zero, suc, ◌+◌, ◌*◌, ◌-◌, ◌^◌, ◌<◌, ◌≤◌}
use native.Mathlib.Nat.{div-zero, le-mul_of_pos_right}
use native.Mathlib.Omega.{arith}
use borrow.Author.Tests.{lt-ltb, le-ltb, ne_eqb}
use Rattle.exact.specs.Rounding.{rounded_div}
use Rattle.exact.specs.Quotient.{quotient_of, value_or_zero}
use Rattle.exact.proofs.Rounding.{at_most, at_least, keeps, goes_up}
use Rattle.exact.specs.declared.QuotientError.{QuotientError}
use Rattle.exact.specs.declared.QuotientError.TheVariants.{ZeroDivisor, TooLarge}

module _ (n : ℕ) {d : ℕ} (h : 0 < d) where
  pub is_value : rounded_div n d < 2 ^ 64 → quotient_of n d ≡ Ok (rounded_div n d)
  unfolding quotient_of
  is_value fits = rw (ne_eqb d 0 (λ z. omega arith), lt-ltb (rounded_div n d) (2 ^ 64) fits)

  pub is_too_large : 2 ^ 64 ≤ rounded_div n d → quotient_of n d ≡ (Err TooLarge)
  unfolding quotient_of
  is_too_large over = rw (ne_eqb d 0 (λ z. omega arith), le-ltb (rounded_div n d) (2 ^ 64) over)

  -- all that a caller who knows its magnitudes needs
  pub value_below : (k : ℕ) → n ≤ k * d → k < 2 ^ 64 → value_or_zero (quotient_of n d) ≡ rounded_div n d
  value_below k le fits = ap value_or_zero (is_value (omega (arith, at_most n k h le)))

-- of one word, whatever the divisor: a quotient by zero counts as 0 on both sides
pub value_of_word : (n d : ℕ) → n < 2 ^ 64 → value_or_zero (quotient_of n d) ≡ rounded_div n d
unfolding quotient_of rounded_div
value_of_word n zero fits = sym (div-zero (2 * n + 0))
value_of_word n (suc d) fits = value_below n {d = suc d} (omega arith) n (le-mul_of_pos_right n (omega arith)) fits

-- the answers, from the whole quotient q and the rest r of a division
module _ {n d r : ℕ} (q : ℕ) (whole : q * d + r ≡ n) (small : r < d) where
  pub kept : r < d - r → q < 2 ^ 64 → Ok q ≡ quotient_of n d
  kept half fits =
      let e : rounded_div n d ≡ q = ap (λ (m : ℕ). rounded_div m d) (sym whole) ∙ keeps q small (omega arith) in
      sym (is_value n (omega arith) (omega arith) ∙ ap Ok e)

  up : d - r ≤ r → rounded_div n d ≡ q + 1
  up half = ap (λ (m : ℕ). rounded_div m d) (sym whole) ∙ goes_up q small (omega arith)

  pub raised : d - r ≤ r → q + 1 < 2 ^ 64 → Ok (q + 1) ≡ quotient_of n d
  raised half fits = let e : rounded_div n d ≡ q + 1 = up half in sym (is_value n (omega arith) (omega arith) ∙ ap Ok e)

  pub passed : d - r ≤ r → 2 ^ 64 ≤ q + 1 → (Err TooLarge) ≡ quotient_of n d
  passed half full = let e : rounded_div n d ≡ q + 1 = up half in sym (is_too_large n (omega arith) (omega arith))

pub no_divisor : (n : ℕ) {d : ℕ} → d ≡ 0 → (Err ZeroDivisor) ≡ quotient_of n d
unfolding quotient_of
no_divisor n is = rw is

-- a divisor no larger than the upper word leaves a quotient of more than 64 bits
pub upper_too_large : (hi lo : ℕ) {d : ℕ} → 0 < d → d ≤ hi → (Err TooLarge) ≡ quotient_of (hi * 2 ^ 64 + lo) d
upper_too_large hi lo {d} h le = sym (is_too_large (hi * 2 ^ 64 + lo) h (at_least (hi * 2 ^ 64 + lo) (2 ^ 64) h (omega arith)))

-- a quotient that a caller tells with one error of its own
abbrev pub with_error : {E : Type 0} → E → Result ℕ QuotientError → Result ℕ E
with_error error (Ok q) = Ok q
with_error error (Err why) = Err error

-- so does `map_err`, by a closure that gives that error
pub mapped : {E : Type 0} (error : E) {Gives : QuotientError → E → Type 0} (quotient : Result ℕ QuotientError) (told : Result ℕ E)
    → MatchResult quotient (λ q. told ≡ Ok q) (λ why. IsErrAnd told (Gives why)) → ((why : QuotientError) (given : E) → Gives why given → given ≡ error) → told ≡ with_error error quotient
mapped error (Ok q) told is gives = is
mapped error (Err why) told is gives = let p = err_from_is_err_and told is in p.1 ∙ ap Err (gives why p.0 p.2)
