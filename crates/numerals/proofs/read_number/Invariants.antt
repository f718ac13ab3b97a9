-- `numerals::read_number` meets its contract. The loop's invariant: the digits left go on from the value so far to the whole number.
use mathlib.Core.Path.{◌≡◌}
use lib.ListN.{drop}
use Rattle.numerals.specs.Numbers.{go_on, up_to, number_of}
use Rattle.numerals.proofs.read_number.Given as goal

abbrev pub invariant-loop-byte : goal.invariant-loop-byte
invariant-loop-byte l = number_of l.most l.word ≡ up_to l.most (go_on l.value (drop l.byte-index l.word))
