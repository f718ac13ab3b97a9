-- `api::corrections::work_out_cts` meets its contract: the answer of `factors::cts` of the metal that was chosen, flattened.
use mathlib.Core.Path.{ap, ◌∙◌}
use mir.Syntax.{w16}
use mir.Val.{to_z, of_z}
use Rattle.factors.specs.Answers.{cts_of}
use Rattle.factors.specs.Places.{digits}
use Rattle.factors.specs.declared.Metal.{Metal}
use Rattle.api.specs.Flat.{flat_factor}
use Rattle.api.proofs.corrections.Passed.{cts_passed}
use Rattle.api.proofs.corrections.work_out_cts.Goals as goal

pub returns : goal.returns
returns c = let a = c.args in
    cts_passed (digits a.places) _ a.t c.ranges.t
    (c.flatten.ensures ∙ ap flat_factor (c.cts.ensures ∙ ap (λ (m : Metal). cts_of (digits a.places) m (to_z w16 (of_z w16 a.t))) c.choose_metal-chosen.ensures))
