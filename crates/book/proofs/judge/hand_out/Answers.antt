-- `book::judge::hand_out` meets its contract: the first turn at which somebody waits is the next turn, and where there is none nobody waits.
use mathlib.Core.Path.{◌≡◌, sym, ap, subst, ◌∙◌}
use mathlib.Core.Bool.{false}
use mathlib.Core.Logic.{by_cases}
use mathlib.Core.List.{List}
use Prim.Native.Nat.{ℕ, ◌+◌, ◌%◌}
use native.Mathlib.Decide.{dec_lt}
use native.Mathlib.Omega.{arith}
use lib.Dec.{ltb}
use lib.ListN.{length, get_or}
use Rattle.refusals.specs.Told.{done}
use Rattle.book.specs.Calls.{of_turn, oldest_of, handed_out, has_any}
use Rattle.book.specs.Figures.{shippers, line_at, waiting_of, has}
use Rattle.book.proofs.Books.{sound_is}
use Rattle.book.proofs.Kept.{turn_here, turn_nowhere}
use Rattle.book.proofs.Waiting.{oldest, nobody}
use Rattle.book.proofs.judge.hand_out.Goals as goal

pub overflow_add-shipper : goal.overflow_add-shipper
overflow_add-shipper c = let turn = (sound_is c.args.book c.requires).turn in omega arith

pub returns-in-Some : goal.returns-in-Some
unfolding line_at waiting_of has has_any of_turn shippers handed_out oldest_of
returns-in-Some c =
    let turn = c.loop-turn.turn in
    let found = oldest c.waiting.result.now c.in-Some.field-0.now c.in-Some.ensures.value in
    let any = ap (λ (xs : List ℕ). ltb 0 (length xs)) (sym c.waiting.ensures) ∙ found.0 in
    let number = found.1 ∙ ap (λ (xs : List ℕ). get_or xs 0 0) c.waiting.ensures in
    rw (turn_here c.args.book turn (omega arith) (omega arith) any c.loop-turn.invariant) (λ i. done (record { shipper = (c.args.book.last + turn) % 4; number = number i }))

pub loop-turn-preserved : goal.loop-turn-preserved
unfolding line_at waiting_of has has_any of_turn shippers
loop-turn-preserved c = λ j l h.
    let none = ap (λ (xs : List ℕ). ltb 0 (length xs)) (sym c.waiting.ensures) ∙ nobody c.waiting.result.now c.in_default.ensures.value in
    by_cases (dec_lt j c.loop-turn.turn) (c.loop-turn.invariant j l)
    (λ not.
    let same : c.loop-turn.turn ≡ j = omega arith in
    subst (λ (n : ℕ). has_any c.args.book n ≡ false) same none)

pub returns : goal.returns
unfolding handed_out
returns c = rw (turn_nowhere c.args.book (λ j l h. c.loop-turn.invariant j l (omega arith)))
