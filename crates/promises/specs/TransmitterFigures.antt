-- 02, 'Smart transmitters', by figures: the one that 02 names, halves on either side of zero in °C and in °F, the ends and one single past each, and
-- the order of every two refusals of a channel and of the two channels.
use Rattle.std.specs.Prelude.{◌≡◌, ℕ, ℤ, pos, neg_ℤ}
use Rattle.std.specs.Float.{nan, binary32}
use Rattle.std.specs.Float.Ieee.{of_bits}
use Rattle.refusals.specs.Told.{Told, done, refused}
use Rattle.live.specs.Live.{whole_of}
use Rattle.live.specs.declared.Values.{Values}
use Rattle.live.specs.Channels.{channels_of}
use Rattle.live.specs.declared.channels.Channel.{Channel}
use Rattle.live.specs.declared.channels.Channel.TheVariants.{Fahrenheit, Celsius, Pressure, Fault}

-- channels by the bits of their singles
unfoldable pub in_fahrenheit : ℕ → Channel
in_fahrenheit bits = Fahrenheit (of_bits binary32 bits)

unfoldable pub in_celsius : ℕ → Channel
in_celsius bits = Celsius (of_bits binary32 bits)

unfoldable pub in_psi : ℕ → Channel
in_psi bits = Pressure (of_bits binary32 bits)

-- beside 40 psi
unfoldable pub beside40 : Channel → Told Values
beside40 temperature = channels_of temperature (in_psi 0x4220_0000)

abbrev pub reading : ℤ → Told Values
reading tenths = done (record { tenths = tenths; psi = 40 })

pub record TransmitterFigures : Type 0 where
  -- '-40 °C gives -400, which is 13'
  pub forty_below_is : whole_of 320 18 (of_bits binary32 0xc220_0000) ≡ neg_ℤ (pos 400)
  pub forty_below : beside40 (in_celsius 0xc220_0000) ≡ refused 13 0
  -- 22.5 °C, 0 °C and -0 °C; 73.25 °F as in 01
  pub room : beside40 (in_celsius 0x41b4_0000) ≡ reading (pos 725)
  pub freezing : beside40 (in_celsius 0) ≡ reading (pos 320)
  pub minus_freezing : beside40 (in_celsius 0x8000_0000) ≡ reading (pos 320)
  pub in-fahrenheit : beside40 (in_fahrenheit 0x4292_8000) ≡ reading (pos 733)
  -- halves: 0.25, -0.25 and -17.75 °C are 324.5, 315.5 and 0.5 tenths, which go up; -18.25 °C is -8.5, which goes down
  pub half_above : beside40 (in_celsius 0x3e80_0000) ≡ reading (pos 325)
  pub half_below_celsius : beside40 (in_celsius 0xbe80_0000) ≡ reading (pos 316)
  pub half_above_zero : beside40 (in_celsius 0xc18e_0000) ≡ reading (pos 1)
  pub half_below_zero : beside40 (in_celsius 0xc192_0000) ≡ reading (neg_ℤ (pos 9))
  -- the hottest and the coldest single that are read, and the next one past each
  pub hottest : beside40 (in_celsius 0x42ba_b8e3) ≡ reading (pos 2000)
  pub too_hot : beside40 (in_celsius 0x42ba_b8e4) ≡ refused 13 0
  pub coldest : beside40 (in_celsius 0xc1e7_5555) ≡ reading (neg_ℤ (pos 200))
  pub too_cold : beside40 (in_celsius 0xc1e7_5556) ≡ refused 13 0
  -- a fault code whatever its byte; a pressure in the temperature's place, also one that is a NaN
  pub fault_first : beside40 (Fault 0) ≡ refused 34 0
  pub fault_last : beside40 (Fault 255) ≡ refused 34 0
  pub wrong_kind : beside40 (in_psi 0x4220_0000) ≡ refused 35 0
  pub wrong_kind_no_number : beside40 (Pressure nan) ≡ refused 35 0
  pub no_number : beside40 (Celsius nan) ≡ refused 12 0
  -- the second channel's, beside 22.5 °C
  pub fault_second : channels_of (in_celsius 0x41b4_0000) (Fault 7) ≡ refused 34 0
  pub fahrenheit_second : channels_of (in_celsius 0x41b4_0000) (Fahrenheit nan) ≡ refused 35 0
  pub celsius_second : channels_of (in_celsius 0x41b4_0000) (Celsius nan) ≡ refused 35 0
  pub no_number_second : channels_of (in_celsius 0x41b4_0000) (Pressure nan) ≡ refused 12 0
  pub out_second : channels_of (in_celsius 0x41b4_0000) (in_psi 0xbf00_0000) ≡ refused 13 0
  -- the first channel's before the second's: 13 before 34, 12 before 34, 35 before 34, and 34 before 35
  pub range_first : channels_of (in_celsius 0xc220_0000) (Fault 7) ≡ refused 13 0
  pub number_first : channels_of (Celsius nan) (Fault 7) ≡ refused 12 0
  pub kind_first : channels_of (Pressure nan) (Fault 7) ≡ refused 35 0
  pub fault_before_kind : channels_of (Fault 7) (Fahrenheit nan) ≡ refused 34 0
