-- 02, 'Smart transmitters', in words: what a channel has to say where it stands, the whole number it is read as, and why it is refused.
use Rattle.std.specs.Prelude.{◌≡◌, Bool, true, false, ℕ, ◌*◌, ℤ, pos, ◌+ℤ◌, ◌*ℤ◌, Float, Option, None, Some}
use Rattle.std.specs.Float.Ieee.Scale.{finite}
use Rattle.ranges.specs.Table.{temperature_ok}
use Rattle.live.specs.Exact.{numerator, denominator}
use Rattle.live.specs.Live.{psi_ok}
use Rattle.live.specs.declared.channels.Channel.{Channel}
use Rattle.live.specs.declared.channels.Channel.TheVariants.{Fahrenheit, Celsius, Pressure, Fault}
use Rattle.live.proofs.Rounding.{Nearest}

-- a single x that comes to o + k·x
pub record Scaled : Type 0 where
  pub o : ℕ
  pub k : ℕ
  pub x : Float

-- in a temperature's place: tenths of °F, ten times 9/5 · c + 32 being 320 + 18c
abbrev pub temperature_sent : Channel → Option Scaled
temperature_sent (Fahrenheit x) = Some (record { o = 0; k = 10; x = x })
temperature_sent (Celsius x) = Some (record { o = 320; k = 18; x = x })
temperature_sent (Pressure x) = None
temperature_sent (Fault code) = None

-- in a pressure's place: psi
abbrev pub pressure_sent : Channel → Option Scaled
pressure_sent (Fahrenheit x) = None
pressure_sent (Celsius x) = None
pressure_sent (Pressure x) = Some (record { o = 0; k = 1; x = x })
pressure_sent (Fault code) = None

-- n is the whole number nearest to o + k·x, x the exact number in the bits: at most half a unit away, and exactly half only where n is the one
-- further from zero
abbrev pub NearestTo : Scaled → ℤ → Type 0
NearestTo s n = Nearest (pos (s.o * denominator s.x) +ℤ pos s.k *ℤ numerator s.x) (denominator s.x) n

-- 'one rounding .., halves away from zero': and no other number is
pub record RoundedAway (s : Scaled) (n : ℤ) : Type 0 where
  pub near : NearestTo s n
  pub only : (m : ℤ) → NearestTo s m → m ≡ n

module _ (sent : Channel → Option Scaled) (in_range : ℤ → Bool) (channel : Channel) where
  -- 'The range is judged on that whole number'
  pub data ReadAs (n : ℤ) : Type 0 where
    read : (s : Scaled) → sent channel ≡ Some s → finite s.x ≡ true → RoundedAway s n → in_range n ≡ true → ReadAs n

  -- '34, 35, 12, 13', each where none before it applies
  pub data ChannelCause : ℕ → ℕ → Type 0 where
    fault_code : (code : ℕ) → channel ≡ Fault code → ChannelCause 34 0
    wrong_kind : ((code : ℕ) → channel ≡ Fault code → ⊥) → sent channel ≡ None → ChannelCause 35 0
    not_finite : (s : Scaled) → sent channel ≡ Some s → finite s.x ≡ false → ChannelCause 12 0
    out_of_range : (s : Scaled) (n : ℤ) → sent channel ≡ Some s → finite s.x ≡ true → RoundedAway s n → in_range n ≡ false → ChannelCause 13 0

abbrev pub TemperatureRead : Channel → ℤ → Type 0
TemperatureRead = ReadAs temperature_sent temperature_ok

abbrev pub TemperatureCause : Channel → ℕ → ℕ → Type 0
TemperatureCause = ChannelCause temperature_sent temperature_ok

abbrev pub PressureRead : Channel → ℤ → Type 0
PressureRead = ReadAs pressure_sent psi_ok

abbrev pub PressureCause : Channel → ℕ → ℕ → Type 0
PressureCause = ChannelCause pressure_sent psi_ok

-- both channels are read
abbrev pub Readable : Channel → Channel → Type 0
Readable temperature pressure = ((n : ℤ) × TemperatureRead temperature n) × ((n : ℤ) × PressureRead pressure n)

-- 'the first channel's 34, 35, 12, 13, then the second's'
pub data ReadingCause (temperature pressure : Channel) (number at : ℕ) : Type 0 where
  of_temperature : TemperatureCause temperature number at → ReadingCause temperature pressure number at
  of_pressure : (tenths : ℤ) → TemperatureRead temperature tenths → PressureCause pressure number at → ReadingCause temperature pressure number at
