-- Not of the paper: what the code's words of 16 bits hold of a whole number.
use Rattle.std.specs.Prelude.{Bool, ltb, ℤ, nat_abs}

-- 16 bits hold its size, on either side of zero: no range of a reading reaches further
unfoldable pub held : ℤ → Bool
held z = ltb (nat_abs z) 32768
