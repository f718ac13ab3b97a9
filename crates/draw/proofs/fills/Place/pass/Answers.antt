-- `draw::fills::Place::pass` meets its contract: it is what stands at its place.
use Rattle.draw.specs.Fill.{fill_at, fill_from}
use Rattle.draw.proofs.fills.Place.pass.Goals as goal

pub returns : goal.returns
unfolding fill_at fill_from
returns c = c.byte_at.ensures
