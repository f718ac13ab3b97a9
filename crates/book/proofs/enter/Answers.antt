-- `book::enter` meets its contract: an accepted request finds a place in its shipper's line.
use mathlib.Core.Path.{sym, ap, ◌∙◌}
use native.Mathlib.Omega.{arith}
use Rattle.refusals.specs.Told.{done}
use Rattle.refusals.proofs.Laws.{judged_fine}
use lib.ListN.{set}
use Rattle.book.specs.declared.Line.{Line}
use Rattle.book.specs.Calls.{entered}
use Rattle.book.specs.Figures.{line_at, waiting_of, put}
use Rattle.book.proofs.Books.{has_count}
use Rattle.book.proofs.Calls.{Accepted, accepted}
use Rattle.book.proofs.enter.Goals.{In_ok-judge_request}
use Rattle.book.proofs.enter.Goals as goal

told : (c : In_ok-judge_request) → Accepted c.args.book c.args.shipper c.args.number
told c = accepted _ _ _ (sym c.in_ok-judge_request.ensures)

pub bounds-book-at : goal.bounds-book-at
bounds-book-at c = (told (goal.at.bounds-book-at c).In_ok-judge_request).call.known

pub lengthen-requires : goal.lengthen-requires
unfolding line_at
lengthen-requires c =
    let accepted = told (goal.at.lengthen-requires c).In_ok-judge_request in
    let line = accepted.call.sound.lines c.args.shipper accepted.call.known in
    let many = has_count _ _ line in
    let below = accepted.below in
    let narrow = line.narrow in
    (omega arith, line.unused)

pub bounds-next-at : goal.bounds-next-at
bounds-next-at c = (told (goal.at.bounds-next-at c).In_ok-judge_request).call.known

pub returns : goal.returns
unfolding entered put waiting_of line_at
returns c =
    ap (λ (line : Line). done (record { lines = set c.args.book.lines c.args.shipper line; last = c.args.book.last; figures = c.args.book.figures })) c.lengthen.ensures
    ∙ sym (judged_fine _ (sym c.in_ok-judge_request.ensures))
