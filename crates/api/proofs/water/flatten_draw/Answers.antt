-- `api::water::flatten_draw` meets its contract: the number, the record and the values that the answer tells.
use Rattle.std.proofs.Common.{◌∙◌}
use Rattle.api.specs.Flat.{flat_draw, draw_with, no_base}
use Rattle.api.proofs.Values.{values_told}
use Rattle.api.proofs.water.flatten_draw.Goals as goal

pub returns : goal.returns
unfolding flat_draw
returns c =
    let given = c.give_back-given.ensures in
    λ i. draw_with (given.number i) (given.record i) ((c.unwrap_or-volume.ensures ∙ values_told no_base c.args.answer) i)
