-- `lookup::rank_asked` meets its contract: the half degree of a temperature, by its count.
use mathlib.Core.Bool.{true, ◌&&◌}
use mathlib.Core.Path.{◌≡◌, sym, ap, ◌∙◌}
use Prim.Native.Nat.{◌+◌, ◌*◌, ◌≤◌}
use native.Mathlib.Omega.{arith}
use mir.Syntax.{w16}
use mir.Val.{to_z, of_z}
use mir.ValLaws.{to_z-of_z}
use Rattle.ranges.specs.Table.{temperature_ok, gravity_ok}
use Rattle.ranges.proofs.Laws.{both_first, both_second, within_high}
use Rattle.lookup.specs.HalfDegree.{half_degree}
use Rattle.lookup.specs.Pair.{asked_ok}
use Rattle.lookup.specs.Rank.{rank_of}
use Rattle.lookup.proofs.Counted.{counted}
use Rattle.lookup.proofs.HalfDegree.{half_by_two, half_counted}
use Rattle.lookup.proofs.Rank.{asked_is, is_ranked, not_ranked}
use Rattle.lookup.proofs.rank_asked.Goals.{After-is_gravity, After-round_to_half, Start, Then-is_temperature-is_gravity}
use Rattle.lookup.proofs.rank_asked.Goals as goal

back : (c : Start) → to_z w16 (of_z w16 c.args.temperature) ≡ c.args.temperature
back c = to_z-of_z w16 c.args.temperature c.ranges.temperature

tested : (c : After-is_gravity) → asked_ok c.args.temperature c.args.gravity ≡ (c.is_temperature.result && c.is_gravity.result)
unfolding asked_ok
tested c = sym (λ i. (c.is_temperature.ensures ∙ ap temperature_ok (back c.before.before)) i && c.is_gravity.ensures i)

in-range : (c : Then-is_temperature-is_gravity) → asked_ok c.args.temperature c.args.gravity ≡ true
in-range c = tested c.before ∙ c.if-is_temperature-is_gravity.true

warm-enough : (c : Then-is_temperature-is_gravity) → temperature_ok c.args.temperature ≡ true
unfolding asked_ok
warm-enough c = both_first (temperature_ok c.args.temperature) _ (in-range c)

light : (c : Then-is_temperature-is_gravity) → c.args.gravity ≤ 900
unfolding asked_ok gravity_ok
light c = let a = c.args in within_high 0 900 a.gravity (both_second (temperature_ok a.temperature) (gravity_ok a.gravity) (in-range c))

-- what the gravity is taken to
half-gravity : (c : After-round_to_half) → c.round_to_half.result ≤ 900
half-gravity c = omega (arith, c.round_to_half.ensures, light c.before, half_by_two c.args.gravity)

pub round_to_half-requires : goal.round_to_half-requires
round_to_half-requires c = omega (arith, light (goal.at.round_to_half-requires c).Then-is_temperature-is_gravity)

pub overflow_mul-result : goal.overflow_mul-result
overflow_mul-result c = omega (arith, half-gravity (goal.at.overflow_mul-result c).After-round_to_half)

pub overflow_add-result : goal.overflow_add-result
overflow_add-result c = let most = c.count_up.ensures.1 in
    omega (arith, half-gravity (goal.at.overflow_add-result c).After-round_to_half, c.round_to_half-then-is_temperature-is_gravity.ensures, most, half_by_two c.count_up.result)

pub returns-then-is_temperature-is_gravity : goal.returns-then-is_temperature-is_gravity
unfolding rank_of
returns-then-is_temperature-is_gravity c = let a = c.args in
    let counts = c.count_up.ensures.0 ∙ ap counted (back (goal.at.returns-then-is_temperature-is_gravity c).Start) in
    let temperature = c.round_to_half-then-is_temperature-is_gravity.ensures ∙ ap half_degree counts ∙ sym (half_counted a.temperature (warm-enough (goal.at.returns-then-is_temperature-is_gravity c).Then-is_temperature-is_gravity)) in
    let ok = in-range (goal.at.returns-then-is_temperature-is_gravity c).Then-is_temperature-is_gravity in
    is_ranked ok ((λ i. 4096 * c.round_to_half.ensures i + temperature i) ∙ sym (asked_is a.temperature a.gravity ok))

pub returns : goal.returns
returns c = not_ranked _ (tested (goal.at.returns c).After-is_gravity ∙ c.if-is_temperature-is_gravity.false)
