-- 'lo to hi', both ends included.
use Rattle.std.specs.Prelude.{Bool, ◌&&◌, ℕ, leb, ℤ}
use Rattle.std.specs.Int.Signed.{le_z}

abbrev pub within : ℕ → ℕ → ℕ → Bool
within lo hi x = leb lo x && leb x hi

abbrev pub within_signed : ℤ → ℤ → ℤ → Bool
within_signed lo hi x = le_z lo x && le_z x hi
