-- `book::judge::judge_withdrawal` meets its contract: past the first three numbers the shipper is known, and 26 is left.
use mathlib.Core.Path.{sym, ap, ◌∙◌}
use mathlib.Core.Bool.{Bool}
use mathlib.Core.List.{List}
use Prim.Native.Nat.{ℕ}
use Rattle.refusals.specs.Told.{demand}
use Rattle.refusals.proofs.Laws.{or_else_next}
use Rattle.octets.specs.Lists.{is_one_of}
use Rattle.book.specs.Calls.{withdrawal_fault}
use Rattle.book.specs.Figures.{waiting_of, line_at}
use Rattle.book.proofs.Calls.{called}
use Rattle.book.proofs.Waiting.{contains_tells}
use Rattle.book.proofs.judge.judge_withdrawal.Goals as goal

pub bounds-book-shipper : goal.bounds-book-shipper
bounds-book-shipper c = (called _ _ _ (sym c.in_ok-judge_call.ensures)).known

pub returns : goal.returns
unfolding withdrawal_fault waiting_of line_at
returns c =
    let told = c.contains.ensures.value ∙ contains_tells c.args.number c.waiting.result.now ∙ ap (λ (xs : List ℕ). is_one_of c.args.number xs) c.waiting.ensures in
    c.demand.ensures ∙ ap (λ (t : Bool). demand t 26) told ∙ sym (or_else_next _ (sym c.in_ok-judge_call.ensures))
