-- `lines::operands::number_at` meets its contract: the word of that place, read.
use Rattle.std.proofs.Common.{ap, ◌∙◌}
use Rattle.numerals.specs.Numbers.{number_of}
use Rattle.lines.specs.Operands.{or_zero, number_at}
use Rattle.lines.proofs.Forms.{or_zero_is}
use Rattle.lines.proofs.operands.number_at.Goals as goal

pub returns : goal.returns
unfolding number_at
returns c = c.unwrap_or.ensures ∙ or_zero_is c.read_number.result ∙ ap or_zero (c.read_number.ensures ∙ ap (number_of c.args.most) c.word.ensures)
