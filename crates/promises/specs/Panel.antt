-- 02, 'Numbers for the panel', of the contracts themselves: when a number is shown, which single it is, and the way back. `f.Post κ a r x` is
-- what f ensures of the arguments a at entry, the answer r and the arguments x at exit. `distance n x` is 'the distance between 10x and n' in
-- parts of x's denominator, so that of two singles one's distance is set against the other's denominator.
use Rattle.std.specs.Prelude.{◌≡◌, true, false, ◌*◌, ◌≤◌, T, ℤ, pos, nat_abs, ◌*ℤ◌, Float, Ok}
use Rattle.std.specs.Float.{binary32}
use Rattle.std.specs.Float.Ieee.{fits, eq}
use Rattle.std.specs.Float.Ieee.Scale.{finite}
use Rattle.ranges.specs.Table.{temperature_ok, pressure_ok}
use Rattle.refusals.specs.Told.{done, refused}
use Rattle.live.specs.Exact.{numerator, denominator}
use Rattle.live.specs.Live.{temperature_of, pressure_of}
use Rattle.live.specs.Panel.{cast, tenth, distance}
use Rattle.live.proofs.convert.Reads as convert
use Rattle.live.proofs.panel.show_temperature.Reads as show-temperature
use Rattle.live.proofs.panel.show_pressure.Reads as show-pressure
use Rattle.api.proofs.readings.endakuro_live.Reads as live
use Rattle.api.proofs.panel.endakuro_panel_temperature.Reads as panel-temperature
use Rattle.api.proofs.panel.endakuro_panel_pressure.Reads as panel-pressure
use Rattle.promises.specs.Arguments.{first, second}
use Rattle.refusals.specs.Answered.{told}

-- x is the single nearest to n tenths, and no other is: one that is as near equals x (as 0 and -0 do)
pub record NearestSingle (n : ℤ) (x : Float) : Type 0 where
  pub near : (y : Float) → T (fits binary32 y) → finite y ≡ true → distance n x * denominator y ≤ distance n y * denominator x
  pub only : (y : Float) → T (fits binary32 y) → finite y ≡ true → distance n y * denominator x ≤ distance n x * denominator y → eq y x ≡ true

pub record Panel : Type 0 where
  -- 'tenths or psi out of range are 13', and a number in range is shown
  pub temperature_in_range : (κ : _) (a : _) (r : _) (x : _) → show-temperature.Post κ a r x → temperature_ok (first a) ≡ true → r ≡ Ok (tenth (first a))
  pub temperature_out_of_range : (κ : _) (a : _) (r : _) (x : _) → show-temperature.Post κ a r x → temperature_ok (first a) ≡ false → told r ≡ refused 13 0
  pub pressure_in_range : (κ : _) (a : _) (r : _) (x : _) → show-pressure.Post κ a r x → pressure_ok (first a) ≡ true → r ≡ Ok (cast (pos (first a)))
  pub pressure_out_of_range : (κ : _) (a : _) (r : _) (x : _) → show-pressure.Post κ a r x → pressure_ok (first a) ≡ false → told r ≡ refused 13 0
  -- 'one division of the whole number by ten, rounded once': the two singles of the division are the whole numbers themselves
  pub cast_is_exact : (n : ℤ) → nat_abs n ≤ 2000 → numerator (cast n) ≡ n *ℤ pos (denominator (cast n))
  pub rounded_once : (κ : _) (a : _) (r : _) (x : _) (single : Float) → show-temperature.Post κ a r x → r ≡ Ok single → NearestSingle (first a) single
  -- 'the distance between 10x and n, times 131072, is at most 10'
  pub within_bound : (κ : _) (a : _) (r : _) (x : _) (single : Float) → show-temperature.Post κ a r x → r ≡ Ok single → distance (first a) single * 131072 ≤ 10 * denominator single
  -- 'Pressures go out exactly'
  pub pressure_exact : (κ : _) (a : _) (r : _) (x : _) (single : Float) → show-pressure.Post κ a r x → r ≡ Ok single → numerator single ≡ pos (first a) *ℤ pos (denominator single)
  -- 'Feeding x back as a live temperature must return n', whatever the pressure beside it; a pressure comes back likewise
  pub temperature_returns : (κ : _) (a : _) (r : _) (x : _) (single : Float) → show-temperature.Post κ a r x → r ≡ Ok single → temperature_of single ≡ done (first a)
  pub pressure_returns : (κ : _) (a : _) (r : _) (x : _) (single : Float) → show-pressure.Post κ a r x → r ≡ Ok single → pressure_of single ≡ done (pos (first a))
  -- as one sentence: `live` of what the panel shows is the reading that it was made from
  pub live_of_shown : (κ : _) (a : _) (r : _) (x : _) (κ' : _) (b : _) (q : _) (y : _) (κ'' : _) (c : _) (l : _) (z : _)
      → show-temperature.Post κ a r x → show-pressure.Post κ' b q y → convert.Post κ'' c l z
      → r ≡ Ok (first c).temperature → q ≡ Ok (first c).pressure → l ≡ Ok (record { tenths = first a; psi = first b })
  -- and so from C, where neither single was refused
  pub live_of_shown_in_c : (κ : _) (a : _) (r : _) (x : _) (κ' : _) (b : _) (q : _) (y : _) (κ'' : _) (c : _) (l : _) (z : _)
      → panel-temperature.Post κ a r x → panel-pressure.Post κ' b q y → live.Post κ'' c l z
      → r.number ≡ 0 → q.number ≡ 0 → first c ≡ r.shown → second c ≡ q.shown → (l.number ≡ 0) × (l.tenths ≡ first a) × (l.psi ≡ first b)
