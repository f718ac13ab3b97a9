-- `book::take` meets its contract: the answer is the judge's, and the book is changed exactly where one is handed out.
use mathlib.Core.Path.{sym, ap, ◌∙◌}
use Rattle.book.specs.Calls.{after_take}
use Rattle.book.proofs.Kept.{handed_out_known}
use Rattle.book.proofs.take.Goals as goal
use Rattle.refusals.specs.Answered.{told}

pub remove-requires : goal.remove-requires
remove-requires c = handed_out_known _ _ _ (sym c.judge_take-answer.ensures ∙ ap told c.in-Ok.is)

pub returns-in-Ok : goal.returns-in-Ok
unfolding after_take
returns-in-Ok c = let one = sym c.judge_take-answer.ensures ∙ ap told c.in-Ok.is in (rw one, rw one c.remove.ensures)

pub returns-in-Err : goal.returns-in-Err
unfolding after_take
returns-in-Err c = let found = sym c.judge_take-answer.ensures ∙ ap told c.in-Err.is in (c.judge_take-answer.ensures, rw found)
