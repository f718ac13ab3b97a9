-- `api::panel::endakuro_panel_pressure` meets its contract: the answer of `live::panel::show_pressure`, flattened.
use mathlib.Core.Path.{ap, ◌∙◌}
use Rattle.api.specs.Flat.{flat_panel}
use Rattle.api.proofs.panel.endakuro_panel_pressure.Goals as goal

pub returns : goal.returns
returns c = c.flatten.ensures ∙ ap flat_panel c.show_pressure.ensures
