-- `ticket::round` meets its contract: a quotient that 32 bits hold is a value.
use mathlib.Core.Path.{◌≡◌, ◌∙◌}
use Prim.Native.Nat.{◌*◌}
use native.Mathlib.Omega.{arith}
use Rattle.exact.specs.Rounding.{rounded_div}
use Rattle.exact.proofs.Rounding.{at_most}
use Rattle.exact.proofs.Answers.{value_below}
use Rattle.ticket.proofs.round.Goals.{After-round_or_zero}
use Rattle.ticket.proofs.round.Goals as goal

value : (c : After-round_or_zero) → c.round_or_zero.result ≡ rounded_div (c.args.a * c.args.b) c.args.d
value c = c.round_or_zero.ensures ∙ value_below (c.args.a * c.args.b) c.requires.0 4294967295 c.requires.1 (omega arith)

pub overflow_cast-result : goal.overflow_cast-result
overflow_cast-result c = omega (arith, value (goal.at.overflow_cast-result c).After-round_or_zero, at_most (c.args.a * c.args.b) 4294967295 c.requires.0 c.requires.1)

pub returns : goal.returns
returns c = value (goal.at.returns c).After-round_or_zero
