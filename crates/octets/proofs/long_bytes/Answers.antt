-- `octets::long_bytes` meets its contract: the array's list is the number's bytes.
use mathlib.Core.Path.{◌∙◌}
use Rattle.octets.proofs.Laws.{lowest_first}
use Rattle.octets.proofs.long_bytes.Goals as goal

pub returns : goal.returns
returns c = c.to_le_bytes.ensures ∙ lowest_first 4 c.args.x
