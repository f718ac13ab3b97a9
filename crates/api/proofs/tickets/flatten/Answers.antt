-- `api::tickets::flatten` meets its contract: the number, the record and the values that the answer tells.
use Rattle.std.proofs.Common.{◌∙◌}
use Rattle.api.specs.Flat.{flat_volumes, volumes_with, no_volumes}
use Rattle.api.proofs.Values.{values_told}
use Rattle.api.proofs.tickets.flatten.Goals as goal

pub returns : goal.returns
unfolding flat_volumes
returns c =
    let given = c.give_back-given.ensures in
    λ i. volumes_with (given.number i) (given.record i) ((c.unwrap_or-volumes.ensures ∙ values_told no_volumes c.args.measured) i)
