-- 01, 'Proving': 'the job's factor is their mean, rounded'; 'Water draw': 'the base volume is their mean, rounded'.
use Rattle.std.specs.Prelude.{List, ℕ, length}
use Rattle.exact.specs.Rounding.{rounded_div}
use Rattle.exact.specs.Words.{sum_of}

-- the rounded mean of any number of values; 0 of none, since a quotient by 0 is 0 here
unfoldable pub mean_of : List ℕ → ℕ
mean_of xs = rounded_div (sum_of xs) (length xs)
