-- `api::moves::flatten` meets its contract: the number, the record and the values that the answer tells.
use Rattle.std.proofs.Common.{◌∙◌}
use Rattle.api.specs.Flat.{flat_moved, moved_with}
use Rattle.api.proofs.Values.{values_told}
use Rattle.api.proofs.moves.flatten.Goals as goal

pub returns : goal.returns
unfolding flat_moved
returns c =
    let given = c.give_back-given.ensures in
    λ i. moved_with (given.number i) (given.record i) ((c.unwrap_or.ensures ∙ values_told 0 c.args.moved) i)
