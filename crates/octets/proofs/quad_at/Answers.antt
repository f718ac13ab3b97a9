-- `octets::quad_at` meets its contract: the number that its bytes spell.
use mathlib.Core.Path.{◌∙◌}
use Rattle.octets.specs.Octets.{quad_at}
use Rattle.octets.proofs.Laws.{spelled_8, number_moved}
use Rattle.octets.proofs.quad_at.Goals as goal

pub returns : goal.returns
unfolding quad_at
returns c = c.from_le_bytes.ensures ∙ spelled_8 _ ∙ number_moved 8 _ c.args.s.now c.args.at c.bytes_at.ensures
