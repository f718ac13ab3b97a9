-- `api::lookups::flatten` meets its contract: the number, the record and the values that the answer tells.
use Rattle.std.proofs.Common.{rules, w16, to_z, of_z, ◌≡◌, ◌∙◌}
use Rattle.api.specs.Flat.{flat_entry, entry_with, no_entry}
use Rattle.api.proofs.Values.{values_told}
use Rattle.api.proofs.lookups.flatten.Goals as goal

pub returns : goal.returns
unfolding flat_entry
returns c =
    let given = c.give_back-given.ensures in
    let entry = c.unwrap_or-entry.result in
    let back : to_z w16 (of_z w16 entry.temperature) ≡ entry.temperature = search rules in
    (λ i. entry_with c.give_back-given.result.number c.give_back-given.result.at (record { temperature = back i; gravity = entry.gravity; compressibility = entry.compressibility }))
    ∙ (λ i. entry_with (given.number i) (given.record i) ((c.unwrap_or-entry.ensures ∙ values_told no_entry c.args.found) i))
