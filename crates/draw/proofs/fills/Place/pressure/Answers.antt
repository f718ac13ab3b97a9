-- `draw::fills::Place::pressure` meets its contract: it is what stands at its place.
use Rattle.draw.specs.Fill.{fill_at, fill_from}
use Rattle.draw.proofs.fills.Place.pressure.Goals as goal

pub returns : goal.returns
unfolding fill_at fill_from
returns c = c.word_at.ensures
