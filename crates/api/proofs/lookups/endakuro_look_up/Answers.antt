-- `api::lookups::endakuro_look_up` meets its contract: the answer of `lookup::look_up`, flattened.
use mathlib.Core.Path.{ap, ◌∙◌}
use lib.IntN.{ℤ}
use mir.Syntax.{w16}
use mir.ValLaws.{to_z-of_z}
use Rattle.lookup.specs.Answers.{look_up_of}
use Rattle.api.specs.Flat.{flat_entry}
use Rattle.api.proofs.lookups.endakuro_look_up.Goals as goal

pub returns : goal.returns
returns c = c.flatten.ensures ∙ ap flat_entry (c.look_up.ensures ∙ ap (λ (t : ℤ). look_up_of t c.args.gravity c.args.table.now) (to_z-of_z w16 c.args.temperature c.ranges.temperature))
