-- `api::panel::endakuro_panel_temperature` meets its contract: the answer of `live::panel::show_temperature`, flattened.
use mathlib.Core.Path.{◌≡◌, ap, ◌∙◌}
use borrow.Author.Rules.{rules}
use lib.IntN.{ℤ}
use mir.Syntax.{w16}
use mir.Val.{to_z, of_z}
use Rattle.live.specs.Panel.{panel_temperature_of}
use Rattle.api.specs.Flat.{flat_panel}
use Rattle.api.proofs.panel.endakuro_panel_temperature.Goals.{Start}
use Rattle.api.proofs.panel.endakuro_panel_temperature.Goals as goal

-- what the machine reads back of the tenths is that number
back : (c : Start) → to_z w16 (of_z w16 c.args.tenths) ≡ c.args.tenths
back c = search rules

pub returns : goal.returns
returns c = c.flatten.ensures
    ∙ ap flat_panel c.show_temperature.ensures
    ∙ ap (λ (z : ℤ). flat_panel (panel_temperature_of z)) (back (goal.at.returns c).Start)
