-- `api::books::judge` meets its contract: what `book::is_sound` says.
use Rattle.api.proofs.books.judge.Goals as goal

pub returns : goal.returns
returns c = c.is_sound.ensures
