-- 01, 'Live readings': a fraction goes to the nearest whole number, halves away from zero.
use Rattle.std.specs.Prelude.{ℕ, suc, ℤ, pos, negsuc, neg_ℤ}
use Rattle.exact.specs.Rounding.{rounded_div}

-- n / d on either side of zero: a number below zero goes as its opposite does, so that its halves go down
unfoldable pub away_from_zero : ℤ → ℕ → ℤ
away_from_zero (pos n) d = pos (rounded_div n d)
away_from_zero (negsuc n) d = neg_ℤ (pos (rounded_div (suc n) d))
