-- `live::channels::take_temperature` meets its contract: each kind of channel as it is matched.
use mathlib.Core.Path.{sym, ap, ◌∙◌}
use Rattle.live.specs.Live.{temperature_of}
use Rattle.live.specs.Channels.{celsius_of, temperature_channel_of}
use Rattle.live.proofs.channels.take_temperature.Goals as goal

pub returns-in-Fahrenheit : goal.returns-in-Fahrenheit
unfolding temperature_channel_of temperature_of
returns-in-Fahrenheit c = c.take_tenths.ensures ∙ sym (ap temperature_channel_of c.in-Fahrenheit.is)

pub returns-in-Celsius : goal.returns-in-Celsius
unfolding temperature_channel_of celsius_of
returns-in-Celsius c = c.take_tenths-in-Celsius.ensures ∙ sym (ap temperature_channel_of c.in-Celsius.is)

pub returns-in-Pressure : goal.returns-in-Pressure
unfolding temperature_channel_of
returns-in-Pressure c = sym (ap temperature_channel_of c.in-Pressure.is)

pub returns-in-Fault : goal.returns-in-Fault
unfolding temperature_channel_of
returns-in-Fault c = sym (ap temperature_channel_of c.in-Fault.is)
