-- 01, 'Live readings': a temperature and a pressure as singles, each judged by itself, and the two in the paper's order.
use Rattle.std.specs.Prelude.{Bool, false, ℕ, ◌*◌, ℤ, pos, negsuc, nat_abs, ◌+ℤ◌, ◌*ℤ◌, Float}
use Rattle.std.specs.Float.Ieee.Scale.{finite}
use Rattle.ranges.specs.Table.{temperature_ok, pressure_ok}
use Rattle.refusals.specs.Told.{Told, done, refused, demand, or_else, judged}
use Rattle.live.specs.declared.Values.{Values}
use Rattle.live.specs.Exact.{numerator, denominator}
use Rattle.live.specs.Rounding.{away_from_zero}

-- o + k·x, x the exact number in the bits, to the nearest whole number: (o · denominator + k · numerator) / denominator
unfoldable pub whole_of : ℕ → ℕ → Float → ℤ
whole_of o k x = away_from_zero (pos (o * denominator x) +ℤ pos k *ℤ numerator x) (denominator x)

-- a single judged: 12 where it is not finite; 'the range is judged on that whole number', and out of it is 13
unfoldable pub single_of : (ℤ → Bool) → ℕ → ℕ → Float → Told ℤ
single_of in_range o k x = judged (or_else (demand (finite x) 12) (demand (in_range (whole_of o k x)) 13)) (whole_of o k x)

-- 'times 10 for temperature': tenths of °F
unfoldable pub temperature_of : Float → Told ℤ
temperature_of = single_of temperature_ok 0 10

-- a whole number of psi below zero is in no range
unfoldable pub psi_ok : ℤ → Bool
psi_ok (pos n) = pressure_ok n
psi_ok (negsuc n) = false

-- the pressure as it is: whole psi
unfoldable pub pressure_of : Float → Told ℤ
pressure_of = single_of psi_ok 0 1

-- 'Order: temperature .., then pressure likewise'
abbrev pub in_order : Told ℤ → Told ℤ → Told Values
in_order (refused number at) pressure = refused number at
in_order (done tenths) (refused number at) = refused number at
in_order (done tenths) (done psi) = done (record { tenths = tenths; psi = nat_abs psi })

unfoldable pub live_of : Float → Float → Told Values
live_of temperature pressure = in_order (temperature_of temperature) (pressure_of pressure)
