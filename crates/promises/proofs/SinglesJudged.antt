-- The two singles' faults in order make the reading's answer, and a pressure that is taken is in range.
use Rattle.std.specs.Prelude.{Bool, true, ◌≡◌, ℤ, nat_abs, Float}
use Rattle.std.proofs.Common.{refl}
use mathlib.Core.Path.{sym, ap, ◌∙◌}
use Rattle.std.specs.Float.Ieee.Scale.{finite}
use Rattle.ranges.specs.Table.{temperature_ok}
use Rattle.refusals.specs.Told.{Fault, fine, fault, done, demand, or_else, judged}
use Rattle.refusals.proofs.Laws.{demand_was, or_else_fine_next, judged_was, judged_done, refused_not_done}
use Rattle.live.specs.Live.{whole_of, single_of, temperature_of, psi_ok, pressure_of, in_order, live_of}
use Rattle.live.specs.Channels.{pressure_channel_of}
use Rattle.live.specs.declared.channels.Channel.{Channel}
use Rattle.live.specs.declared.channels.Channel.TheVariants.{Fahrenheit, Celsius, Pressure, Fault as FaultSent}

-- what judging a single finds
abbrev pub single_fault : (ℤ → Bool) → ℤ → Float → Fault
single_fault in_range z x = or_else (demand (finite x) 12) (demand (in_range z) 13)

judged_in_order : (f g : Fault) (z w : ℤ) → in_order (judged f z) (judged g w) ≡ judged (or_else f g) (record { tenths = z; psi = nat_abs w })
judged_in_order fine fine z w = refl
judged_in_order fine (fault n at) z w = refl
judged_in_order (fault n at) g z w = refl

module _ (t p : Float) where
  pub live_judged : live_of t p ≡ judged (or_else (single_fault temperature_ok (whole_of 0 10 t) t) (single_fault psi_ok (whole_of 0 1 p) p)) (record { tenths = whole_of 0 10 t; psi = nat_abs (whole_of 0 1 p) })
  unfolding live_of temperature_of pressure_of single_of
  live_judged = judged_in_order (single_fault temperature_ok (whole_of 0 10 t) t) (single_fault psi_ok (whole_of 0 1 p) p) (whole_of 0 10 t) (whole_of 0 1 p)

was_in_range : (z : ℤ) (x : Float) → single_fault psi_ok z x ≡ fine → psi_ok z ≡ true
was_in_range z x is = demand_was (psi_ok z) 13 (or_else_fine_next (demand (finite x) 12) (demand (psi_ok z) 13) is)

pub pressure_taken : (channel : Channel) {w : ℤ} → pressure_channel_of channel ≡ done w → psi_ok w ≡ true
unfolding pressure_channel_of pressure_of single_of
pressure_taken (Fahrenheit x) e = absurd (refused_not_done e)
pressure_taken (Celsius x) e = absurd (refused_not_done e)
pressure_taken (Pressure x) e =
    let z = whole_of 0 1 x in
    let f = single_fault psi_ok z x in
    sym (ap psi_ok (judged_done f z e)) ∙ was_in_range z x (judged_was f z e)
pressure_taken (FaultSent code) e = absurd (refused_not_done e)
