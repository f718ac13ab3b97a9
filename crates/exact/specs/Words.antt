-- Numbers of two words of 64 bits.
use Rattle.std.specs.Prelude.{List, [], ◌∷◌, ℕ, ◌+◌, ◌*◌, ◌/◌, ◌%◌, ◌^◌}
use Rattle.exact.specs.declared.Wide.{Wide}

-- the number that two words stand for
unfoldable pub value_of : Wide → ℕ
value_of w = w.hi * 2 ^ 64 + w.lo

-- the two words of a number
unfoldable pub wide_of : ℕ → Wide
wide_of n = record { hi = n / 2 ^ 64; lo = n % 2 ^ 64 }

-- the sum of the values of a list
unfoldable pub sum_of : List ℕ → ℕ
sum_of [] = 0
sum_of (x ∷ xs) = x + sum_of xs
