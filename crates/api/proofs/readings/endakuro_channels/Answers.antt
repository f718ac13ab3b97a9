-- `api::readings::endakuro_channels` meets its contract: the answer of `live::channels::convert`, flattened.
use mathlib.Core.Path.{ap, ◌∙◌}
use Rattle.live.specs.Channels.{channels_of}
use Rattle.api.specs.Flat.{flat_live}
use Rattle.api.proofs.readings.endakuro_channels.Goals as goal

pub returns : goal.returns
returns c = c.flatten.ensures
    ∙ ap flat_live (c.convert.ensures ∙ (λ i. channels_of (c.channel_by-first.ensures i) (c.channel_by-second.ensures i)))
