-- `live::channels::take_pressure` meets its contract: each kind of channel as it is matched.
use mathlib.Core.Path.{sym, ap, ◌∙◌}
use Rattle.live.specs.Channels.{pressure_channel_of}
use Rattle.live.proofs.channels.take_pressure.Goals as goal

pub returns-in-Pressure : goal.returns-in-Pressure
unfolding pressure_channel_of
returns-in-Pressure c = c.take_psi.ensures ∙ sym (ap pressure_channel_of c.in-Pressure.is)

pub returns-in-Fahrenheit : goal.returns-in-Fahrenheit
unfolding pressure_channel_of
returns-in-Fahrenheit c = sym (ap pressure_channel_of c.in-Fahrenheit.is)

pub returns-in-Celsius : goal.returns-in-Celsius
unfolding pressure_channel_of
returns-in-Celsius c = sym (ap pressure_channel_of c.in-Celsius.is)

pub returns-in-Fault : goal.returns-in-Fault
unfolding pressure_channel_of
returns-in-Fault c = sym (ap pressure_channel_of c.in-Fault.is)
