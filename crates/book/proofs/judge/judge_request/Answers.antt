-- `book::judge::judge_request` meets its contract: past the first three numbers the shipper is known.
use mathlib.Core.Path.{sym}
use Rattle.book.proofs.Calls.{called}
use Rattle.book.proofs.judge.judge_request.Goals as goal

pub judge_entry-requires : goal.judge_entry-requires
judge_entry-requires c = (called _ _ _ (sym c.in_ok-judge_call.ensures)).known
