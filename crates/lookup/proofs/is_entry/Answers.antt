-- `lookup::is_entry` meets its contract: a temperature in range is on a half degree exactly where its count is.
use mathlib.Core.Bool.{true, false, ◌&&◌}
use mathlib.Core.Path.{◌≡◌, sym, ap, ◌∙◌}
use Prim.Native.Nat.{ℕ, ◌%◌}
use lib.Dec.{eqb}
use Rattle.std.proofs.Common.{rules}
use mir.Syntax.{w16}
use mir.Val.{to_z, of_z}
use Rattle.ranges.specs.Table.{temperature_ok, gravity_ok, compressibility_ok}
use Rattle.ranges.proofs.Counted.{passed_on}
use Rattle.lookup.specs.HalfDegree.{on_half_degree, on_half_degree_signed}
use Rattle.lookup.specs.Table.{entry_ok}
use Rattle.lookup.specs.declared.Entry.{Entry}
use Rattle.lookup.proofs.Counted.{counted}
use Rattle.lookup.proofs.HalfDegree.{on_half_counted}
use Rattle.lookup.proofs.is_entry.Lts.View as view
use Rattle.lookup.proofs.is_entry.Goals.{After-is_temperature, Then-is_temperature}
use Rattle.lookup.proofs.is_entry.Goals as goal

-- the temperature as the machine reads it back
back : (c : After-is_temperature) → to_z w16 (of_z w16 c.args.entry.temperature) ≡ c.args.entry.temperature
back c = passed_on c.args.entry.temperature (search rules)

judged : (c : After-is_temperature) → c.is_temperature.result ≡ temperature_ok c.args.entry.temperature
judged c = c.is_temperature.ensures ∙ ap temperature_ok (back c)

in-range : (c : Then-is_temperature) → temperature_ok c.args.entry.temperature ≡ true
in-range c = sym (judged (view.up-After-is_temperature _ _ _ c.before.before)) ∙ c.if-is_temperature.true

-- where the temperature is in range, the rest decides
rest-decides : (entry : Entry) → temperature_ok entry.temperature ≡ true
    → (gravity_ok entry.gravity && (compressibility_ok entry.compressibility && (on_half_degree_signed entry.temperature && on_half_degree entry.gravity))) ≡ entry_ok entry
unfolding entry_ok
rest-decides entry ok = rw ok

too_warm : (entry : Entry) → temperature_ok entry.temperature ≡ false → false ≡ entry_ok entry
unfolding entry_ok
too_warm entry is = rw is

pub returns-then-is_temperature : goal.returns-then-is_temperature
unfolding on_half_degree
returns-then-is_temperature c = let entry = c.args.entry in
    let counts = c.count_up.ensures.0 ∙ ap counted (back (goal.at.returns-then-is_temperature c).After-is_temperature) in
    let half = ap (λ (n : ℕ). eqb (n % 5) 0) counts ∙ on_half_counted entry.temperature (in-range (goal.at.returns-then-is_temperature c).Then-is_temperature) in
    (λ i. c.is_gravity.ensures i && (c.is_compressibility.ensures i && (half i && eqb (entry.gravity % 5) 0)))
    ∙ rest-decides entry (in-range (goal.at.returns-then-is_temperature c).Then-is_temperature)

pub returns : goal.returns
returns c = too_warm c.args.entry (sym (judged (goal.at.returns c).After-is_temperature) ∙ c.if-is_temperature.false)
