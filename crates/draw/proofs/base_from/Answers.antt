-- `draw::base_from` meets its contract: the barrels are those of the rounded mean.
use mathlib.Core.Path.{ap, ◌∙◌}
use Rattle.draw.specs.Base.{barrels_of, base_from}
use Rattle.draw.proofs.base_from.Goals as goal

pub returns : goal.returns
unfolding base_from
returns c = let barrels = c.in_barrels.ensures ∙ ap barrels_of c.mean-base.ensures in
    λ i. record { base = c.mean-base.ensures i; barrels = barrels i; first = c.first_pass.ensures i }
