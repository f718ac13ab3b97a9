-- `run::round` meets its contract: a numerator of one word is rounded whatever the divisor.
use mathlib.Core.Path.{◌∙◌}
use Rattle.exact.proofs.Answers.{value_of_word}
use Rattle.exact.specs.Rounding.{rounded}
use Rattle.run.proofs.round.Goals as goal

pub returns : goal.returns
unfolding rounded
returns c = c.round_or_zero.ensures ∙ value_of_word _ _ c.requires
