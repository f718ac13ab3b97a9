-- `draw::fills::Place::are_unnamed_zero` meets its contract.
use mathlib.Core.Bool.{◌&&◌}
use Rattle.draw.specs.Fill.{unnamed_ok}
use Rattle.draw.proofs.fills.Place.are_unnamed_zero.Goals as goal

pub returns : goal.returns
unfolding unnamed_ok
returns c = λ i. c.are_zero.ensures i && c.are_zero-2.ensures i
