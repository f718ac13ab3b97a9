-- `factors::is_metal` meets its contract.
use mathlib.Core.Path.{ap, ◌∙◌}
use Rattle.ranges.specs.Table.{coefficient_ok}
use Rattle.factors.specs.Metal.{metal_ok}
use Rattle.factors.proofs.is_metal.Goals as goal

pub returns : goal.returns
unfolding metal_ok
returns c = c.is_coefficient.ensures ∙ ap coefficient_ok c.coefficient.ensures
