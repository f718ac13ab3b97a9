-- The panel's promises: its answer tells its meaning, of which the bound, the nearest single and the way back are proved in `live`.
use Rattle.std.specs.Prelude.{Ok, Result}
use mathlib.Core.Path.{◌≡◌, refl, sym, ap, ◌∙◌, subst}
use mathlib.Core.Bool.{Bool, true, false}
use Prim.Native.Nat.{◌*◌, ◌≤◌}
use native.Mathlib.Nat.{le_trans}
use native.Mathlib.Omega.{arith}
use lib.Dec.{lit≤}
use lib.IntN.{pos, ◌*ℤ◌}
use lib.Ieee.{Float}
use Rattle.ranges.specs.Table.{temperature_ok, pressure_ok}
use Rattle.refusals.specs.Told.{done, demand, judged}
use Rattle.refusals.proofs.Laws.{judged_fine, judged_fault, judged_was, judged_done, demand_holds, demand_fails, demand_was, told_one}
use Rattle.live.specs.Exact.{numerator, denominator}
use Rattle.live.specs.Live.{temperature_of, pressure_of, live_of}
use Rattle.live.specs.Panel.{cast, tenth, panel_temperature_of, panel_pressure_of, distance}
use Rattle.live.proofs.Tenths.{distance_bound}
use Rattle.live.proofs.Shown.{temperature_size, pressure_size, cast_exact, temperature_back, pressure_back, live_back}
use Rattle.live.proofs.NearestSingle.{shown_nearest, shown_only}
use Rattle.api.specs.Flat.{flat_panel, flat_live}
use Rattle.api.specs.declared.readings.EndakuroLive.{EndakuroLive}
use Rattle.api.specs.declared.panel.EndakuroPanel.{EndakuroPanel}
use Rattle.promises.specs.Arguments.{first}
use Rattle.promises.specs.Panel.{NearestSingle, Panel}
use Rattle.refusals.specs.Answered.{told}
use Rattle.refusals.specs.declared.Refusal.{Refusal}

-- a single that is shown was judged in range, and is the one that the meaning gives
module _ (r : Result Float Refusal) {ok : Bool} {x : Float} (tells : told r ≡ judged (demand ok 13) x) where
  shown_by : {single : Float} → r ≡ Ok single → (ok ≡ true) × (x ≡ single)
  shown_by is =
      let said = sym tells ∙ ap told is in
      (demand_was ok 13 (judged_was (demand ok 13) x said), judged_done (demand ok 13) x said)

  shows : ok ≡ true → r ≡ Ok x
  shows in-range = told_one r (Ok x) (tells ∙ judged_fine x (demand_holds 13 in-range))

-- flattened for C it has the number 0, and a refusal has 13
shown_flat : (ok : Bool) (x : Float) → (flat_panel (judged (demand ok 13) x)).number ≡ 0 → (ok ≡ true) × ((flat_panel (judged (demand ok 13) x)).shown ≡ x)
unfolding flat_panel
shown_flat true x is = (refl, refl)
shown_flat false x is = absurd (omega (arith, is))

pub panel : Panel
unfolding panel_temperature_of panel_pressure_of flat_live
panel =
    record {
      temperature_in_range = λ κ a r x p. shows r p;
      temperature_out_of_range = λ κ a r x p out. p ∙ judged_fault (tenth (first a)) (demand_fails 13 out);
      pressure_in_range = λ κ a r x p. shows r p;
      pressure_out_of_range = λ κ a r x p out. p ∙ judged_fault (cast (pos (first a))) (demand_fails 13 out);
      cast_is_exact = λ n small. cast_exact n (le_trans small (lit≤ tt));
      rounded_once = λ κ a r x single p is.
          let by = shown_by r p is in
          let small = temperature_size (first a) by.0 in
          subst (NearestSingle (first a)) by.1 (record { near = shown_nearest (first a) small; only = shown_only (first a) small });
      within_bound = λ κ a r x single p is.
          let by = shown_by r p is in
          subst (λ (s : Float). distance (first a) s * 131072 ≤ 10 * denominator s) by.1 (distance_bound (first a) (temperature_size (first a) by.0));
      pressure_exact = λ κ a r x single p is.
          let by = shown_by r p is in
          subst (λ (s : Float). numerator s ≡ pos (first a) *ℤ pos (denominator s)) by.1 (cast_exact (pos (first a)) (le_trans (pressure_size (first a) by.0) (lit≤ tt)));
      temperature_returns = λ κ a r x single p is.
          let by = shown_by r p is in
          subst (λ (s : Float). temperature_of s ≡ done (first a)) by.1 (temperature_back (first a) by.0);
      pressure_returns = λ κ a r x single p is.
          let by = shown_by r p is in
          subst (λ (s : Float). pressure_of s ≡ done (pos (first a))) by.1 (pressure_back (first a) by.0);
      live_of_shown = λ κ a r x κ' b q y κ'' c l z p p' p'' is is'.
          let warm = shown_by r p is in
          let pressed = shown_by q p' is' in
          told_one l (Ok (record { tenths = first a; psi = first b })) (p'' ∙ (λ i. live_of (sym warm.1 i) (sym pressed.1 i)) ∙ live_back (first a) (first b) warm.0 pressed.0);
      live_of_shown_in_c = λ κ a r x κ' b q y κ'' c l z p p' p'' zero zero' is is'.
          let warm = shown_flat (temperature_ok (first a)) (tenth (first a)) (ap (λ (f : EndakuroPanel). f.number) (sym p) ∙ zero) in
          let pressed = shown_flat (pressure_ok (first b)) (cast (pos (first b))) (ap (λ (f : EndakuroPanel). f.number) (sym p') ∙ zero') in
          let told =
          p''
          ∙ (λ i. flat_live (live_of ((is ∙ ap (λ (f : EndakuroPanel). f.shown) p ∙ warm.1) i) ((is' ∙ ap (λ (f : EndakuroPanel). f.shown) p' ∙ pressed.1) i)))
          ∙ ap flat_live (live_back (first a) (first b) warm.0 pressed.0) in
          (ap (λ (f : EndakuroLive). f.number) told, ap (λ (f : EndakuroLive). f.tenths) told, ap (λ (f : EndakuroLive). f.psi) told);
    }
