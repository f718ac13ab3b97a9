-- `api::panel::flatten` meets its contract: the number, the record and the values that the answer tells.
use Rattle.std.proofs.Common.{◌∙◌}
use lib.Ieee.{of_bits}
use Rattle.api.specs.Flat.{flat_panel, panel_with, nothing_shown}
use Rattle.api.proofs.Values.{values_told}
use Rattle.api.proofs.panel.flatten.Goals as goal

pub returns : goal.returns
unfolding flat_panel of_bits
returns c =
    let given = c.give_back-given.ensures in
    λ i. panel_with (given.number i) (given.record i) ((c.unwrap_or.ensures ∙ values_told nothing_shown c.args.panel) i)
