-- `book::sound::are_proper` meets its contract. The loop's invariant: the numbers are proper exactly when those that are left are.
use Rattle.std.proofs.Common.{◌≡◌, length}
use Rattle.book.specs.Line.{are_proper}
use Rattle.book.proofs.sound.are_proper.Given as goal

abbrev pub invariant-loop-number : goal.invariant-loop-number
invariant-loop-number l = are_proper l.waiting ≡ are_proper l.left

abbrev pub decreases-loop-number : goal.decreases-loop-number
decreases-loop-number l = length l.left
