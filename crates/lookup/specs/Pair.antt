-- 02, 'Look up compressibility': the pair of temperature and gravity that is asked for.
use Rattle.std.specs.Prelude.{Bool, ◌&&◌, List, ℕ, eqb, ℤ}
use Rattle.std.specs.Int.Signed.{le_z}
use Rattle.ranges.specs.Table.{temperature_ok, gravity_ok}
use Rattle.lookup.specs.Table.{entry_at}

-- 'The asked temperature (-20.0 to 200.0) and gravity (0.0 to 90.0)', as they are asked
unfoldable pub asked_ok : ℤ → ℕ → Bool
asked_ok t g = temperature_ok t && gravity_ok g

-- the record at a place has this temperature, neither less nor more, and this gravity
unfoldable pub has_pair : List ℕ → ℤ → ℕ → ℕ → Bool
has_pair s t g i = le_z (entry_at s i).temperature t && (le_z t (entry_at s i).temperature && eqb (entry_at s i).gravity g)
