-- `octets::long_at` meets its contract: the number that its bytes spell.
use mathlib.Core.Path.{◌∙◌}
use Rattle.octets.specs.Octets.{long_at}
use Rattle.octets.proofs.Laws.{spelled_4, number_moved}
use Rattle.octets.proofs.long_at.Goals as goal

pub returns : goal.returns
unfolding long_at
returns c = c.from_le_bytes.ensures ∙ spelled_4 _ ∙ number_moved 4 _ c.args.s.now c.args.at c.bytes_at.ensures
