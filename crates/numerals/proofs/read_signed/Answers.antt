-- `numerals::read_signed` meets its contract: behind a `-`, a number read without it.
use Rattle.std.proofs.Common.{◌≡◌, sym, ap, ◌∙◌}
use Rattle.numerals.specs.Numbers.{negated, signed_of}
use Rattle.numerals.proofs.Numbers.{dash_taken}
use Rattle.numerals.proofs.read_signed.Goals.{After-read_number}
use Rattle.numerals.proofs.read_signed.Goals as goal

behind : (c : After-read_number) → signed_of c.args.word.now ≡ negated c.read_number.result
behind c = dash_taken c.args.word.now (sym c.starts_with.ensures.value ∙ c.if-starts_with.true) ∙ ap negated (sym c.read_number.ensures)

pub returns-in_err-read_number : goal.returns-in_err-read_number
unfolding negated
returns-in_err-read_number c = c.from_residual.ensures ∙ sym (behind (goal.at.returns-in_err-read_number c).After-read_number ∙ ap negated c.in_err-read_number.was)

pub returns-then-starts_with : goal.returns-then-starts_with
returns-then-starts_with c = c.negate.ensures ∙ sym (behind (goal.at.returns-then-starts_with c).After-read_number ∙ ap negated c.in_ok-read_number.was)
