-- `api::readings::endakuro_live` meets its contract: the answer of `live::convert`, flattened.
use mathlib.Core.Path.{ap, ◌∙◌}
use Rattle.api.specs.Flat.{flat_live}
use Rattle.api.proofs.readings.endakuro_live.Goals as goal

pub returns : goal.returns
returns c = c.flatten.ensures ∙ ap flat_live c.convert.ensures
