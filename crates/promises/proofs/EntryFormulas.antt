-- Demand 2's formulas of the contracts: each answer tells its meaning, whose figures are their fractions rounded once.
use mathlib.Core.Path.{◌≡◌, sym, ap, ◌∙◌, subst}
use mathlib.Core.Bool.{true}
use Prim.Native.Nat.{ℕ, ◌+◌, ◌%◌}
use native.Mathlib.Omega.{arith}
use lib.ListN.{length}
use Rattle.factors.specs.Places.{digits}
use Rattle.draw.specs.Passes.{pass_count}
use Rattle.draw.specs.Profile.{passes_fit, out_pass, first_pass}
use Rattle.draw.specs.declared.Profile.{Profile}
use Rattle.draw.specs.declared.Profile.TheVariants.{Bidirectional}
use Rattle.promises.specs.Arguments.{first, second, third, fourth, fifth, sixth, seventh}
use Rattle.promises.specs.EntryFormulas.{EntryFormulas}
use Rattle.promises.proofs.Demand2.{accepted_only_when, first_is_used, draw_accepted_only_when, draw_first_is_used}
use Rattle.promises.proofs.Formulas.{cts_rounded, cps_rounded, cpl_rounded, combined_rounded, run_rounded, accepted_run_rounded, job_factor_rounded, fill_rounded, fill_told, pass_rounded, passes_counted, trips_counted, base_rounded, ticket_rounded}
use Rattle.refusals.specs.Answered.{told}

-- a volume of a round trip begins with an odd pass
from_out : {profile : Profile} {pass : ℕ} → profile ≡ Bidirectional → (place : ℕ) → pass ≡ first_pass profile (place + 1) → pass % 2 ≡ 1
unfolding first_pass out_pass
from_out two_ways place is = let out = is ∙ ap (λ (profile : Profile). first_pass profile (place + 1)) two_ways in omega (arith, out)

pub entry_formulas : EntryFormulas
entry_formulas =
    record {
      cts_of_entry = λ κ a r x p is. cts_rounded (digits (third a)) (second a) (first a) (sym p ∙ is);
      cps_of_entry = λ κ a r x p is. cps_rounded (digits (third a)) (second a) (first a) (sym p ∙ is);
      cpl_of_entry = λ κ a r x p is. cpl_rounded (digits (second a)) (first a) (sym p ∙ is);
      combined_of_entry = λ κ a r x p is. combined_rounded (digits (second a)) (first a).now (sym p ∙ is);
      run_of_entry = λ κ a r x p is. run_rounded (first a) (second a) (third a) (fourth a) (sym p ∙ is);
      runs_of_job = λ κ a r x report p is.
          accepted_run_rounded (second a) (third a) (fourth a) (fifth a) (sixth a).now (accepted_only_when (second a) (third a) (fourth a) (fifth a) (sixth a).now (first a) (length (seventh a).now) (sym p.0 ∙ ap told is)).1;
      factor_of_job = λ κ a r x report p is.
          job_factor_rounded (first a) (second a) (third a) (fourth a) (fifth a) (sixth a).now report (first_is_used (second a) (third a) (fourth a) (fifth a) (sixth a).now (first a) (length (seventh a).now) (sym p.0 ∙ ap told is));
      fill_of_entry = λ κ a r x p is. fill_told (first a) (second a).now (sym p ∙ is);
      fills_of_draw = λ κ a r x base p is i h.
          let fills = (draw_accepted_only_when (first a) (second a) (third a).now (sym p ∙ ap told is)).input.fills in
          fill_rounded (second a).metal (third a).now i fills.settled.metal (fills.records i h).fields;
      passes_of_draw = λ κ a r x base p is.
          let fills = (draw_accepted_only_when (first a) (second a) (third a).now (sym p ∙ ap told is)).input.fills in
          (passes_counted (second a) (third a).now fills, pass_rounded (second a) (third a).now fills);
      trips_of_draw = λ κ a r x base p is two_ways.
          let drawn = sym p ∙ ap told is in
          let fit = (draw_accepted_only_when (first a) (second a) (third a).now drawn).input.passes in
          let used = draw_first_is_used (first a) (second a) (third a).now drawn in
          (trips_counted (second a) (third a).now (subst (λ (profile : Profile). passes_fit profile (pass_count (third a).now) ≡ true) two_ways fit), from_out two_ways used.place used.first);
      base_of_draw = λ κ a r x base p is.
          let used = draw_first_is_used (first a) (second a) (third a).now (sym p ∙ ap told is) in
          let rounded = base_rounded (first a) (second a) (third a).now base used in
          (used.place, used.first, rounded.0, rounded.1);
      ticket_of_entry = λ κ a r x p is. ticket_rounded (first a) (sym p ∙ is);
    }
