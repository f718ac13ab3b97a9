-- `book::judge::hand_out` meets its contract. The loop's invariant: nothing waits for the shippers of the turns before `turn`.
use Rattle.book.proofs.Kept.{NobodyBefore}
use Rattle.book.proofs.judge.hand_out.Given as goal

abbrev pub invariant-loop-turn : goal.invariant-loop-turn
invariant-loop-turn l = NobodyBefore l.book l.turn
