-- `octets::word_at` meets its contract: the number that its bytes spell.
use mathlib.Core.Path.{◌∙◌}
use Rattle.octets.specs.Octets.{word_at}
use Rattle.octets.proofs.Laws.{spelled_2, number_moved}
use Rattle.octets.proofs.word_at.Goals as goal

pub returns : goal.returns
unfolding word_at
returns c = c.from_le_bytes.ensures ∙ spelled_2 _ ∙ number_moved 2 _ c.args.s.now c.args.at c.bytes_at.ensures
