-- 01, 'Factors': each is an exact fraction, rounded once to d places; halves go up.
use Rattle.std.specs.Prelude.{ℕ, ◌+◌, ◌*◌, ◌/◌, ◌^◌}

-- n / d to the nearest whole number, halves up: half a unit more, and the rest dropped
unfoldable pub rounded_div : ℕ → ℕ → ℕ
rounded_div n d = (2 * n + d) / (2 * d)

-- an exact fraction: 3 over 4
infix 5 ◌over◌
pub data Fraction : Type 0 where
  ◌over◌ : ℕ → ℕ → Fraction

-- a fraction rounded to d places, as a whole number of 10^-d
unfoldable pub rounded : ℕ → Fraction → ℕ
rounded d (num over den) = rounded_div (num * 10 ^ d) den
