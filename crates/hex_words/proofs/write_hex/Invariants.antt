-- `hex_words::write_hex` meets its contract. The loop's invariant: the digits of the first i bytes stand in their places, and the rest is as it was.
use mathlib.Core.Path.{◌≡◌}
use Prim.Native.Nat.{◌*◌}
use lib.Seq.{paste}
use Rattle.hex_words.specs.Hex.{hex_text}
use Rattle.hex_words.proofs.write_hex.Given as goal

abbrev pub invariant-loop-i : goal.invariant-loop-i
invariant-loop-i l = l.out ≡ paste l.initial.out l.at (hex_text l.bytes) (2 * l.i)
