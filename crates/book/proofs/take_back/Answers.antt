-- `book::take_back` meets its contract: a number that may be withdrawn waits in its shipper's line.
use mathlib.Core.Path.{sym}
use Rattle.book.proofs.Books.{is-sound}
use Rattle.book.proofs.Calls.{granted}
use Rattle.book.proofs.take_back.Goals as goal

pub remove-requires : goal.remove-requires
remove-requires c = let told = granted _ _ _ (sym c.in_ok-judge_withdrawal.ensures) in (is-sound _ told.call.sound, told.call.known, told.waits)
