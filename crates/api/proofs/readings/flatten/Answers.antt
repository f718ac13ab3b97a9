-- `api::readings::flatten` meets its contract: the number, the record and the values that the answer tells.
use Rattle.std.proofs.Common.{rules, w16, to_z, of_z, ◌≡◌, ◌∙◌}
use Rattle.api.specs.Flat.{flat_live, live_with, no_reading}
use Rattle.api.proofs.Values.{values_told}
use Rattle.api.proofs.readings.flatten.Goals as goal

pub returns : goal.returns
unfolding flat_live
returns c =
    let given = c.give_back-given.ensures in
    let values = c.unwrap_or-values.result in
    let back : to_z w16 (of_z w16 values.tenths) ≡ values.tenths = search rules in
    (λ i. live_with c.give_back-given.result.number c.give_back-given.result.at (record { tenths = back i; psi = values.psi }))
    ∙ (λ i. live_with (given.number i) (given.record i) ((c.unwrap_or-values.ensures ∙ values_told no_reading c.args.live) i))
