-- 02, 'Smart transmitters', of the contract itself: what is read and exactly when, what is refused and why, and what is never looked at.
-- `f.Post κ a r x` is what f ensures of the arguments a at entry, the answer r and the arguments x at exit; the arguments of `channels` are the
-- temperature's channel and the pressure's.
use Rattle.std.specs.Prelude.{◌≡◌, ◌↔◌, true, ℕ, ◌/◌, ◌%◌, ◌≤◌, ◌<◌, ℤ, pos, Float}
use Rattle.std.specs.Float.{binary32}
use Rattle.std.specs.Float.Ieee.{of_bits}
use Rattle.std.specs.Float.Ieee.Scale.{finite}
use Rattle.refusals.specs.Told.{done, refused}
use Rattle.live.specs.Live.{whole_of}
use Rattle.live.specs.declared.Values.{Values}
use Rattle.live.specs.declared.channels.Channel.{Channel}
use Rattle.live.specs.declared.channels.Channel.TheVariants.{Fahrenheit, Pressure}
use Rattle.live.proofs.convert.Reads as convert
use Rattle.live.proofs.channels.convert.Reads as channels
use Rattle.api.specs.Given.{temperature_by}
use Rattle.api.proofs.readings.endakuro_channels.Reads as channels-in-c
use Rattle.promises.specs.Arguments.{first, second}
use Rattle.promises.specs.ExactCauses.{OneCause}
use Rattle.promises.specs.Sent.{RoundedAway, TemperatureRead, TemperatureCause, PressureRead, Readable, ReadingCause}
use Rattle.refusals.specs.Answered.{told}

pub record Transmitters : Type 0 where
  -- 'from the exact number in the bits, 9/5 and 32, with one rounding to tenths of °F, halves away from zero': the one conversion o + k·x, whose o and
  -- k are 320 and 18 for °C, 0 and 10 for °F, 0 and 1 for psi, of every single
  pub rounded : (o k : ℕ) (x : Float) → RoundedAway (record { o = o; k = k; x = x }) (whole_of o k x)
  -- read exactly so: the tenths and the psi are those of the two channels, each in its place, and there are no others
  pub read_exactly : (κ : _) (a : _) (r : _) (x : _) (values : Values) → channels.Post κ a r x
      → (told r ≡ done values) ↔ (TemperatureRead (first a) values.tenths × PressureRead (second a) (pos values.psi))
  -- refused exactly for its cause, which is one, and every two channels are read or have one
  pub refused_exactly : (κ : _) (a : _) (r : _) (x : _) (number at : ℕ) → channels.Post κ a r x → (told r ≡ refused number at) ↔ ReadingCause (first a) (second a) number at
  pub one_of_reading : (temperature pressure : Channel) → OneCause (Readable temperature pressure) (ReadingCause temperature pressure)
  -- every pattern of 32 bits is a single that is finite, or one whose field of 8 is all ones, an infinity or a NaN
  pub every_pattern : (bits : ℕ) → (finite (of_bits binary32 bits) ≡ true) ↔ (bits / 8388608 % 256 < 255)
  -- where the first channel is refused the second is not looked at: whatever it is, the answer is the same
  pub second_not_looked_at : (κ : _) (a : _) (r : _) (x : _) (κ' : _) (b : _) (q : _) (y : _) (number at : ℕ) → channels.Post κ a r x → channels.Post κ' b q y
      → first a ≡ first b → TemperatureCause (first a) number at → r ≡ q
  -- a live reading is the case of a Fahrenheit and a pressure channel
  pub live_is_a_case : (κ : _) (a : _) (r : _) (x : _) (κ' : _) (b : _) (q : _) (y : _) → convert.Post κ a r x → channels.Post κ' b q y
      → first b ≡ Fahrenheit (first a).temperature → second b ≡ Pressure (first a).pressure → q ≡ r
  -- in C a channel is its kind and its bits: a kind outside the four is 35 where it stands
  pub unknown_kind_first : (κ : _) (a : _) (r : _) (x : _) → channels-in-c.Post κ a r x → 4 ≤ (first a).kind → (r.number ≡ 35) × (r.at ≡ 0)
  pub unknown_kind_second : (κ : _) (a : _) (r : _) (x : _) (tenths : ℤ) → channels-in-c.Post κ a r x → TemperatureRead (temperature_by (first a)) tenths
      → 4 ≤ (second a).kind → (r.number ≡ 35) × (r.at ≡ 0)
