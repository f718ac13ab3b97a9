-- `api::books::flatten_take` meets its contract: the number, the record and the values that the answer tells.
use Rattle.std.proofs.Common.{◌∙◌}
use Rattle.api.specs.Flat.{flat_taken, taken_with, no_handout}
use Rattle.api.proofs.Values.{values_told}
use Rattle.api.proofs.books.flatten_take.Goals as goal

pub returns : goal.returns
unfolding flat_taken
returns c =
    let given = c.give_back-given.ensures in
    λ i. taken_with (given.number i) (given.record i) ((c.unwrap_or-handed.ensures ∙ values_told no_handout c.args.answer) i)
