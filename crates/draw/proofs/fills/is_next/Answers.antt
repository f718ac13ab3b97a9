-- `draw::fills::is_next` meets its contract.
use mathlib.Core.Path.{refl}
use Rattle.draw.specs.Fill.{follows}
use Rattle.draw.proofs.fills.is_next.Goals as goal

pub returns : goal.returns
unfolding follows
returns c = refl
