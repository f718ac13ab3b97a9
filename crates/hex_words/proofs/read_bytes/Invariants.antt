-- `hex_words::read_bytes` meets its contract. The loop's invariant: the first i bytes stand in their places, and the rest is as it was.
use mathlib.Core.Path.{◌≡◌}
use lib.Seq.{paste}
use Rattle.hex_words.specs.Hex.{pairs}
use Rattle.hex_words.proofs.read_bytes.Given as goal

abbrev pub invariant-loop-i : goal.invariant-loop-i
invariant-loop-i l = l.into ≡ paste l.initial.into 0 (pairs l.word) l.i
