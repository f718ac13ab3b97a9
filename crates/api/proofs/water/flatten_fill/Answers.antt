-- `api::water::flatten_fill` meets its contract: the number, the record and the values that the answer tells.
use Rattle.std.proofs.Common.{◌∙◌}
use Rattle.api.specs.Flat.{flat_fill, fill_with, no_fill}
use Rattle.api.proofs.Values.{values_told}
use Rattle.api.proofs.water.flatten_fill.Goals as goal

pub returns : goal.returns
unfolding flat_fill
returns c =
    let given = c.give_back-given.ensures in
    λ i. fill_with (given.number i) (given.record i) ((c.unwrap_or-figures.ensures ∙ values_told no_fill c.args.answer) i)
