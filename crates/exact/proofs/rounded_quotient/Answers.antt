-- `exact::rounded_quotient` meets its contract: each return is an answer of the whole quotient and its rest.
use Rattle.std.specs.Prelude.{Result, Ok, Option, Some, None}
use Rattle.std.specs.Option.{SomeIff, ok_or}
use mathlib.Core.Path.{◌≡◌, ap, ◌∙◌}
use Prim.Native.Nat.{ℕ, ◌+◌, ◌*◌, ◌-◌, ◌^◌, ◌<◌, ◌≤◌}
use native.Mathlib.Omega.{arith}
use Rattle.exact.specs.Words.{value_of}
use Rattle.exact.specs.Quotient.{quotient_of}
use Rattle.exact.specs.declared.QuotientError.{QuotientError}
use Rattle.exact.specs.declared.QuotientError.TheVariants.{TooLarge}
use Rattle.exact.proofs.Answers.{no_divisor, upper_too_large, kept, raised, passed}
use Rattle.exact.proofs.rounded_quotient.Goals as goal

pub returns-then-d-eq0 : goal.returns-then-d-eq0
returns-then-d-eq0 c = no_divisor _ c.if-d-eq0.true

pub returns-then-d-n : goal.returns-then-d-n
unfolding value_of
returns-then-d-n c = upper_too_large _ _ (omega arith) c.if-d-n.true

pub returns-then-whole-d : goal.returns-then-whole-d
unfolding value_of
returns-then-whole-d c = let d = c.divide-whole in
    kept d.result.quotient d.ensures.0 d.ensures.1 c.if-whole-d.true (omega arith)

-- one more, where there is one
next : {n d r : ℕ} (q : ℕ) (more : Option ℕ) (answer : Result ℕ QuotientError) → SomeIff more (q + 1 < 2 ^ 64) (q + 1) → answer ≡ ok_or more TooLarge → q * d + r ≡ n → r < d → d - r ≤ r → answer ≡ quotient_of n d
next q None answer full is whole small half = is ∙ passed q whole small half (omega arith)
next q (Some m) answer fits is whole small half = is ∙ ap Ok fits.1 ∙ raised q whole small half fits.0

pub returns : goal.returns
unfolding value_of
returns c = let d = c.divide-whole in
    next d.result.quotient c.checked_add.result c.ok_or.result c.checked_add.ensures c.ok_or.ensures.value d.ensures.0 d.ensures.1 c.if-whole-d.false
