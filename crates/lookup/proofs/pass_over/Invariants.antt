-- `lookup::pass_over` meets its contract. The loop's invariant: no record below i is at fault, `before` is the number of the last of them, and the
-- place is that of the one wanted, if it is among them.
use Rattle.lookup.proofs.Passed.{Passed}
use Rattle.lookup.proofs.pass_over.Given as goal

abbrev pub invariant-loop-i : goal.invariant-loop-i
invariant-loop-i l = Passed l.s l.fn.wanted l.before l.place l.i
