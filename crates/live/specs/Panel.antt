-- 02, 'Numbers for the panel': a temperature in tenths of °F and a pressure in whole psi, each as the single that the panel takes.
use Rattle.std.specs.Prelude.{ℕ, ℤ, pos, nat_abs, ◌-ℤ◌, ◌*ℤ◌, Float}
use Rattle.std.specs.Float.{binary32}
use Rattle.std.specs.Float.Ieee.{of_int, div}
use Rattle.ranges.specs.Table.{temperature_ok, pressure_ok}
use Rattle.refusals.specs.Told.{Told, demand, judged}
use Rattle.live.specs.Exact.{numerator, denominator}

-- a whole number as a single, which is that number for any of 16 bits
unfoldable pub cast : ℤ → Float
cast = of_int binary32

-- 'one division of the whole number by ten, rounded once': to the nearest single, ties to even
unfoldable pub tenth : ℤ → Float
tenth n = div binary32 (cast n) (cast (pos 10))

-- 'A temperature in tenths'; 'tenths or psi out of range are 13'
unfoldable pub panel_temperature_of : ℤ → Told Float
panel_temperature_of n = judged (demand (temperature_ok n) 13) (tenth n)

-- 'Pressures go out exactly'
unfoldable pub panel_pressure_of : ℕ → Told Float
panel_pressure_of p = judged (demand (pressure_ok p) 13) (cast (pos p))

-- 'the distance between 10x and n', x the single's exact number: in parts of its denominator
abbrev pub distance : ℤ → Float → ℕ
distance n x = nat_abs (pos 10 *ℤ numerator x -ℤ n *ℤ pos (denominator x))
