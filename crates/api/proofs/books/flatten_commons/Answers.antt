-- `api::books::flatten_commons` meets its contract: the number, the record and the values that the answer tells.
use Rattle.std.proofs.Common.{◌∙◌}
use Rattle.api.specs.Flat.{flat_commons, commons_with, no_commons}
use Rattle.api.proofs.Values.{values_told}
use Rattle.api.proofs.books.flatten_commons.Goals as goal

pub returns : goal.returns
unfolding flat_commons
returns c =
    let given = c.give_back-given.ensures in
    λ i. commons_with (given.number i) (given.record i) ((c.unwrap_or-shared.ensures ∙ values_told no_commons c.args.answer) i)
