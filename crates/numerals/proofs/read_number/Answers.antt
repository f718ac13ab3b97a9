-- `numerals::read_number` meets its contract. The loop's invariant: the digits left go on from the value so far to the whole number.
use Rattle.std.proofs.Common.{arith, ◌≡◌, ◌<◌, ◌+◌, ◌*◌, sym, ap, ◌∙◌, None, drop, ℕ}
use Rattle.numerals.specs.Numbers.{go_on, up_to, number_of}
use Rattle.numerals.proofs.Numbers.{digit_read, too_large}
use Rattle.numerals.proofs.read_number.Goals.{In_ok-digit}
use Rattle.numerals.proofs.read_number.Goals as goal

-- a digit goes on from the value so far
stepped : (c : In_ok-digit) → number_of c.args.most c.args.word.now ≡ up_to c.args.most (go_on (10 * c.loop-byte.value + c.in_ok-digit.digit) (drop (c.loop-byte.byte-index + 1) c.args.word.now))
stepped c = let l = c.loop-byte in
    l.invariant ∙ ap (up_to c.args.most) (digit_read l.value c.in_ok-digit.digit c.args.word.now l.byte-index (omega arith) (sym c.value_digit.ensures ∙ c.in_ok-digit.was))

-- and passes the most that the operand holds
passed : (c : In_ok-digit) → c.args.most < 10 * c.loop-byte.value + c.in_ok-digit.digit → None ≡ number_of c.args.most c.args.word.now
passed c h = sym (stepped c ∙ too_large c.args.most _ (drop (c.loop-byte.byte-index + 1) c.args.word.now) h)

pub returns-in_err-checked_mul : goal.returns-in_err-checked_mul
returns-in_err-checked_mul c = c.from_residual-in_err-checked_mul.ensures ∙ passed (goal.at.returns-in_err-checked_mul c).In_ok-digit (omega (arith, c.in_err-checked_mul.ensures))

pub returns-in_err-value : goal.returns-in_err-value
returns-in_err-value c = c.from_residual-in_err-value.ensures ∙ passed (goal.at.returns-in_err-value c).In_ok-digit (omega (arith, c.in_err-value.ensures, c.in_ok-checked_mul.ensures))

pub loop-byte-preserved : goal.loop-byte-preserved
loop-byte-preserved c = let e : 10 * c.loop-byte.value + c.in_ok-digit.digit ≡ c.in_ok-value.value = omega (arith, c.in_ok-value.ensures, c.in_ok-checked_mul.ensures) in
    stepped (goal.at.loop-byte-preserved c).In_ok-digit ∙ ap (λ (n : ℕ). up_to c.args.most (go_on n (drop (c.loop-byte.byte-index + 1) c.args.word.now))) e

pub returns-then-most-value : goal.returns-then-most-value
returns-then-most-value c = let l = c.loop-byte in
    sym (l.invariant ∙ too_large c.args.most l.value (drop l.byte-index c.args.word.now) c.if-most-value.true)
