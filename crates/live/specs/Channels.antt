-- 02, 'Smart transmitters': a live reading 'is made from a temperature channel and a pressure channel in that order'.
use Rattle.std.specs.Prelude.{ℤ, Float}
use Rattle.ranges.specs.Table.{temperature_ok}
use Rattle.refusals.specs.Told.{Told, refused}
use Rattle.live.specs.Live.{single_of, temperature_of, pressure_of, in_order}
use Rattle.live.specs.declared.Values.{Values}
use Rattle.live.specs.declared.channels.Channel.{Channel}
use Rattle.live.specs.declared.channels.Channel.TheVariants.{Fahrenheit, Celsius, Pressure, Fault}

-- 'Celsius converts from the exact number in the bits, 9/5 and 32, with one rounding to tenths of °F': ten times 9/5 · c + 32 is 320 + 18c
unfoldable pub celsius_of : Float → Told ℤ
celsius_of = single_of temperature_ok 320 18

-- '34 for a fault code, 35 for a channel of the wrong kind', before the single that a channel of the right kind carries is judged
unfoldable pub temperature_channel_of : Channel → Told ℤ
temperature_channel_of (Fault code) = refused 34 0
temperature_channel_of (Pressure x) = refused 35 0
temperature_channel_of (Fahrenheit x) = temperature_of x
temperature_channel_of (Celsius x) = celsius_of x

-- 'A pressure rounds as in 01'
unfoldable pub pressure_channel_of : Channel → Told ℤ
pressure_channel_of (Fault code) = refused 34 0
pressure_channel_of (Fahrenheit x) = refused 35 0
pressure_channel_of (Celsius x) = refused 35 0
pressure_channel_of (Pressure x) = pressure_of x

-- 'the first channel's 34, 35, 12, 13, then the second's'
unfoldable pub channels_of : Channel → Channel → Told Values
channels_of temperature pressure = in_order (temperature_channel_of temperature) (pressure_channel_of pressure)
