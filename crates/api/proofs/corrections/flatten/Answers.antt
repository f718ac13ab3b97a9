-- `api::corrections::flatten` meets its contract: the number, the record and the values that the answer tells.
use Rattle.std.proofs.Common.{◌∙◌}
use Rattle.api.specs.Flat.{flat_factor, factor_with}
use Rattle.api.proofs.Values.{values_told}
use Rattle.api.proofs.corrections.flatten.Goals as goal

pub returns : goal.returns
unfolding flat_factor
returns c =
    let given = c.give_back-given.ensures in
    λ i. factor_with (given.number i) (given.record i) ((c.unwrap_or.ensures ∙ values_told 0 c.args.factor) i)
