-- `api::water::endakuro_draw` meets its contract: the answer of `draw::draw`, flattened.
use mathlib.Core.Path.{ap, ◌∙◌}
use Rattle.factors.specs.declared.Prover.{Prover}
use Rattle.draw.specs.Answers.{draw_of}
use Rattle.draw.specs.declared.Profile.TheVariants.{Unidirectional}
use Rattle.api.specs.Flat.{flat_draw}
use Rattle.api.proofs.water.endakuro_draw.Goals as goal

pub returns : goal.returns
returns c = let a = c.args in
    c.flatten_draw.ensures ∙ ap flat_draw (c.draw.ensures ∙ ap (λ (p : Prover). draw_of Unidirectional p a.records.now) c.take_up.ensures)
