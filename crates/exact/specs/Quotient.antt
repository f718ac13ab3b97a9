-- The rounded quotient as an answer: a zero divisor and a quotient of more than 64 bits are answers too.
use Rattle.std.specs.Prelude.{cond, ℕ, ◌^◌, eqb, ltb, Result, Ok, Err}
use Rattle.exact.specs.Rounding.{rounded_div}
use Rattle.exact.specs.declared.QuotientError.TheVariants.{ZeroDivisor, TooLarge}
use Rattle.exact.specs.declared.QuotientError.{QuotientError}

unfoldable pub quotient_of : ℕ → ℕ → Result ℕ QuotientError
quotient_of n d = cond (eqb d 0) (Err ZeroDivisor) (cond (ltb (rounded_div n d) (2 ^ 64)) (Ok (rounded_div n d)) (Err TooLarge))

-- the value, and 0 where there is none
abbrev pub value_or_zero : {E : Type 0} → Result ℕ E → ℕ
value_or_zero (Ok q) = q
value_or_zero (Err why) = 0
