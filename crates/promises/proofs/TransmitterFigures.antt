-- Each figure by computing.
use mathlib.Core.Path.{refl}
use lib.Ieee.{of_bits}
use Rattle.exact.specs.Rounding.{rounded_div}
use Rattle.ranges.specs.Table.{temperature_ok, pressure_ok}
use Rattle.live.specs.Exact.{numerator, denominator}
use Rattle.live.specs.Rounding.{away_from_zero}
use Rattle.live.specs.Live.{whole_of, single_of, temperature_of, psi_ok, pressure_of}
use Rattle.live.specs.Channels.{celsius_of, temperature_channel_of, pressure_channel_of, channels_of}
use Rattle.promises.specs.TransmitterFigures.{TransmitterFigures, in_fahrenheit, in_celsius, in_psi, beside40}

pub transmitter_figures : TransmitterFigures
unfolding in_fahrenheit in_celsius in_psi beside40 channels_of temperature_channel_of pressure_channel_of celsius_of temperature_of pressure_of single_of whole_of psi_ok numerator denominator away_from_zero rounded_div temperature_ok pressure_ok of_bits
transmitter_figures =
    record {
      forty_below_is = refl;
      forty_below = refl;
      room = refl;
      freezing = refl;
      minus_freezing = refl;
      in-fahrenheit = refl;
      half_above = refl;
      half_below_celsius = refl;
      half_above_zero = refl;
      half_below_zero = refl;
      hottest = refl;
      too_hot = refl;
      coldest = refl;
      too_cold = refl;
      fault_first = refl;
      fault_last = refl;
      wrong_kind = refl;
      wrong_kind_no_number = refl;
      no_number = refl;
      fault_second = refl;
      fahrenheit_second = refl;
      celsius_second = refl;
      no_number_second = refl;
      out_second = refl;
      range_first = refl;
      number_first = refl;
      kind_first = refl;
      fault_before_kind = refl;
    }
