-- Demand 1 of the C face's contracts: each answer is its meaning flattened, and the meaning ends as the demand says.
use mathlib.Core.Path.{◌≡◌, refl, ap, ◌∙◌}
use mathlib.Core.List.{List, []}
use Prim.Native.Nat.{ℕ, ◌*◌}
use lib.ListN.{length, take, drop, replicate}
use Rattle.refusals.specs.Told.{Told, done, refused, left_by}
use Rattle.exact.specs.Quotient.{quotient_of}
use Rattle.octets.specs.Lists.{is_one_of}
use Rattle.octets.specs.Records.{records_in, zeros_after}
use Rattle.factors.specs.Metal.{metal_by}
use Rattle.run.specs.Record.{size_of}
use Rattle.run.specs.declared.Form.{Form}
use Rattle.run.specs.declared.Form.TheVariants.{Short, Long}
use Rattle.factors.specs.declared.Prover.{Prover}
use Rattle.proving.specs.Job.{found_of, accepted_by, accepted_of}
use Rattle.draw.specs.Profile.{volumes_of}
use Rattle.draw.specs.Answers.{count_of, held_for}
use Rattle.draw.specs.declared.Profile.{Profile}
use Rattle.draw.specs.declared.Profile.TheVariants.{Unidirectional, Bidirectional}
use Rattle.api.specs.Given.{pipe_by, liquid_by, prover_by, factors_by, ticket_by, temperature_by, pressure_by}
use Rattle.api.specs.Flat.{part_of, flat_passes, no_report, no_figures, no_fill, no_base, no_volumes, no_reading, nothing_shown, no_entry, no_handout, no_commons}
use Rattle.api.specs.declared.jobs.EndakuroPart.{EndakuroPart}
use Rattle.api.specs.declared.quotients.EndakuroQuotient.{EndakuroQuotient}
use Rattle.api.specs.declared.water.EndakuroPasses.{EndakuroPasses}
use Rattle.promises.specs.Numbers.{passes_numbers}
use Rattle.promises.specs.Arguments.{first, second, third, fourth, fifth, sixth}
use Rattle.promises.specs.FlatEnding.{FlatEnds, by_kind, passes_in}
use Rattle.promises.specs.EntriesC.{EntriesC}
use Rattle.promises.proofs.FlatEndings.{flat_ends, flat_leaves, done_at_zero, refused_at_other, factor_back, report_back, run_back, fill_back, passes_back, volumes_back, draw_back, ticket_back, live_back, panel_back, entry_back, moved_back, change_back, take_back, commons_back, quotient_back, no_quotient}
use Rattle.promises.proofs.Demand1.{cts_ends, cps_ends, cpl_ends, shown_ends, job_ends, write_ends, read_ends, fill_ends, volumes_end, draw_ends, ticket_ends, live_ends, channels_end, panel_temperature_ends, panel_pressure_ends, look_up_ends, forward_ends, back_ends, request_ends, withdrawal_ends, take_ends, setting_ends, commons_end}
use Rattle.promises.proofs.Demand1.{left_as_found, request_leaves_book, withdrawal_leaves_book, take_leaves_book, setting_leaves_book}

-- start and length in the lent records are the accepted runs
part_accepted : (form : Form) (t : Told ℕ) (s : List ℕ) → take (part_of form t).length (drop (part_of form t).start s) ≡ accepted_by (size_of form) t s
part_accepted form (done at) s = refl
part_accepted form (refused number at) s = refl

part_is_accepted : (prover : Prover) (k limit : ℕ) (form : Form) (s : List ℕ) → take (part_of form (found_of prover k limit form s)).length (drop (part_of form (found_of prover k limit form s)).start s) ≡ accepted_of prover k limit form s
unfolding accepted_of
part_is_accepted prover k limit form s = part_accepted form (found_of prover k limit form s) s

-- what a part is, by what is told
part_told : (form : Form) {r : EndakuroPart} {t u : Told ℕ} → r ≡ part_of form t → t ≡ u → (r.start ≡ (part_of form u).start) × (r.length ≡ (part_of form u).length)
part_told form p is = (ap (λ (f : EndakuroPart). f.start) (p ∙ ap (part_of form) is), ap (λ (f : EndakuroPart). f.length) (p ∙ ap (part_of form) is))

-- passes or round trips: their count, and the volumes that stand beside it, by what is told
module _ (profile : Profile) (prover : Prover) (s : List ℕ) where
  volumes_flat : {r : EndakuroPasses} → r ≡ flat_passes (count_of profile prover s) (held_for profile prover s) → FlatEnds passes_numbers 1 (records_in 32 s) 0 (passes_in r) (count_of profile prover s)
  unfolding is_one_of
  volumes_flat is = flat_ends refl 0 (passes_back (held_for profile prover s)) is (volumes_end profile prover s)

  volumes_held : {r : EndakuroPasses} → r ≡ flat_passes (count_of profile prover s) (held_for profile prover s) → r.volumes ≡ held_for profile prover s
  volumes_held = volumes_back (count_of profile prover s) (held_for profile prover s)

  held_when_done : {count : ℕ} → count_of profile prover s ≡ done count → held_for profile prover s ≡ zeros_after 20 (volumes_of profile prover s)
  unfolding held_for
  held_when_done is = ap (λ (t : Told ℕ). zeros_after 20 (left_by t (λ count. volumes_of profile prover s) [])) is

  held_when_refused : {number at : ℕ} → count_of profile prover s ≡ refused number at → held_for profile prover s ≡ replicate 20 0
  unfolding held_for zeros_after
  held_when_refused is = ap (λ (t : Told ℕ). zeros_after 20 (left_by t (λ count. volumes_of profile prover s) [])) is

  listed_when_done : {r : EndakuroPasses} → r ≡ flat_passes (count_of profile prover s) (held_for profile prover s) → r.number ≡ 0 → r.volumes ≡ zeros_after 20 (volumes_of profile prover s)
  listed_when_done is none = volumes_held is ∙ held_when_done (done_at_zero (volumes_flat is) none)

  zeros_when_refused : {r : EndakuroPasses} → r ≡ flat_passes (count_of profile prover s) (held_for profile prover s) → (r.number ≡ 0 → ⊥) → r.volumes ≡ replicate 20 0
  zeros_when_refused is some = volumes_held is ∙ held_when_refused (refused_at_other (volumes_flat is) some)

-- a quotient's two fields
kind_of : {r q : EndakuroQuotient} → r ≡ q → r.kind ≡ q.kind
kind_of is = ap (λ (f : EndakuroQuotient). f.kind) is

value_of : {r q : EndakuroQuotient} → r ≡ q → r.value ≡ q.value
value_of is = ap (λ (f : EndakuroQuotient). f.value) is

pub entries_c : EntriesC
unfolding is_one_of
entries_c =
    record {
      cts_four_entry = λ κ a r x p. flat_ends refl 0 factor_back p (cts_ends 4 (metal_by (second a) (third a)) (first a));
      cts_six_entry = λ κ a r x p. flat_ends refl 0 factor_back p (cts_ends 6 (metal_by (second a) (third a)) (first a));
      cps_four_entry = λ κ a r x p. flat_ends refl 0 factor_back p (cps_ends 4 (pipe_by (second a) (third a) (fourth a)) (first a));
      cps_six_entry = λ κ a r x p. flat_ends refl 0 factor_back p (cps_ends 6 (pipe_by (second a) (third a) (fourth a)) (first a));
      cpl_four_entry = λ κ a r x p. flat_ends refl 0 factor_back p (cpl_ends 4 (liquid_by (first a) (second a) (third a)));
      cpl_six_entry = λ κ a r x p. flat_ends refl 0 factor_back p (cpl_ends 6 (liquid_by (first a) (second a) (third a)));
      prove-entry = λ κ a r x p. flat_ends refl no_report report_back p.0 (job_ends (first a) (prover_by (second a)) (third a) (fourth a) Short (fifth a).now (length (sixth a).now));
      prove-leaves = λ κ a r x p.
          flat_leaves (flat_ends refl no_report report_back p.0 (job_ends (first a) (prover_by (second a)) (third a) (fourth a) Short (fifth a).now (length (sixth a).now)))
          (λ number at is. p.1 ∙ left_as_found _ (sixth a).now is);
      accept_hands_none = λ κ a r x p is. part_told Short p is;
      accept_hands_five = λ κ a r x p is. part_told Short p is;
      accept_hands_the_runs = λ κ a r x p. ap (λ (f : EndakuroPart). take f.length (drop f.start (fourth a).now)) p ∙ part_is_accepted (prover_by (first a)) (second a) (third a) Short (fourth a).now;
      run_entry = λ κ a r x p. flat_ends refl no_figures run_back p (shown_ends (prover_by (first a)) (second a) Short (third a).now);
      prove-long-entry = λ κ a r x p. flat_ends refl no_report report_back p.0 (job_ends (first a) (prover_by (second a)) (third a) (fourth a) Long (fifth a).now (length (sixth a).now));
      prove-long-leaves = λ κ a r x p.
          flat_leaves (flat_ends refl no_report report_back p.0 (job_ends (first a) (prover_by (second a)) (third a) (fourth a) Long (fifth a).now (length (sixth a).now)))
          (λ number at is. p.1 ∙ left_as_found _ (sixth a).now is);
      accept_long_hands_none = λ κ a r x p is. part_told Long p is;
      accept_long_hands_five = λ κ a r x p is. part_told Long p is;
      accept_long_hands_the_runs = λ κ a r x p. ap (λ (f : EndakuroPart). take f.length (drop f.start (fourth a).now)) p ∙ part_is_accepted (prover_by (first a)) (second a) (third a) Long (fourth a).now;
      run_long_entry = λ κ a r x p. flat_ends refl no_figures run_back p (shown_ends (prover_by (first a)) (second a) Long (third a).now);
      forward_entry = λ κ a r x p. flat_ends refl 0 moved_back p.0 (forward_ends (first a).now (length (second a).now));
      forward_leaves = λ κ a r x p. flat_leaves (flat_ends refl 0 moved_back p.0 (forward_ends (first a).now (length (second a).now))) (λ number at is. p.1 ∙ left_as_found _ (second a).now is);
      back_entry = λ κ a r x p. flat_ends refl 0 moved_back p.0 (back_ends (first a).now (length (second a).now));
      back_leaves = λ κ a r x p. flat_leaves (flat_ends refl 0 moved_back p.0 (back_ends (first a).now (length (second a).now))) (λ number at is. p.1 ∙ left_as_found _ (second a).now is);
      write_entry = λ κ a r x p. flat_ends refl no_report report_back p.0 (write_ends (length (fifth a).now) (first a) (second a) (third a) (factors_by (fourth a)));
      write_leaves = λ κ a r x p.
          flat_leaves (flat_ends refl no_report report_back p.0 (write_ends (length (fifth a).now) (first a) (second a) (third a) (factors_by (fourth a))))
          (λ number at is. p.1 ∙ left_as_found _ (fifth a).now is);
      read_entry = λ κ a r x p. flat_ends refl no_report report_back p (read_ends (first a).now);
      fill_entry = λ κ a r x p. flat_ends refl no_fill fill_back p (fill_ends (metal_by (first a) (second a)) (third a).now);
      passes_entry = λ κ a r x p. volumes_flat Unidirectional (prover_by (first a)) (second a).now p;
      passes_volumes = λ κ a r x p. listed_when_done Unidirectional (prover_by (first a)) (second a).now p;
      passes_no_volumes = λ κ a r x p. zeros_when_refused Unidirectional (prover_by (first a)) (second a).now p;
      trips_entry = λ κ a r x p. volumes_flat Bidirectional (prover_by (first a)) (second a).now p;
      trips_volumes = λ κ a r x p. listed_when_done Bidirectional (prover_by (first a)) (second a).now p;
      trips_no_volumes = λ κ a r x p. zeros_when_refused Bidirectional (prover_by (first a)) (second a).now p;
      draw_entry = λ κ a r x p. flat_ends refl no_base draw_back p (draw_ends Unidirectional (prover_by (first a)) (second a).now);
      bidirectional_entry = λ κ a r x p. flat_ends refl no_base draw_back p (draw_ends Bidirectional (prover_by (first a)) (second a).now);
      ticket_entry = λ κ a r x p. flat_ends refl no_volumes ticket_back p (ticket_ends (ticket_by (first a)));
      live_entry = λ κ a r x p. flat_ends refl no_reading live_back p (live_ends (first a) (second a));
      channels_entry = λ κ a r x p. flat_ends refl no_reading live_back p (channels_end (temperature_by (first a)) (pressure_by (second a)));
      panel_temperature_entry = λ κ a r x p. flat_ends refl nothing_shown panel_back p (panel_temperature_ends (first a));
      panel_pressure_entry = λ κ a r x p. flat_ends refl nothing_shown panel_back p (panel_pressure_ends (first a));
      look_up_entry = λ κ a r x p. flat_ends refl no_entry entry_back p (look_up_ends (first a) (second a) (third a).now);
      request_entry = λ shipper number found left r p. flat_ends refl tt change_back p.0 (request_ends found shipper number);
      request_leaves = λ shipper number found left r p. flat_leaves (flat_ends refl tt change_back p.0 (request_ends found shipper number)) (λ n at is. p.1 ∙ request_leaves_book found shipper number is);
      withdraw_entry = λ shipper number found left r p. flat_ends refl tt change_back p.0 (withdrawal_ends found shipper number);
      withdraw_leaves = λ shipper number found left r p. flat_leaves (flat_ends refl tt change_back p.0 (withdrawal_ends found shipper number)) (λ n at is. p.1 ∙ withdrawal_leaves_book found shipper number is);
      take_entry = λ found left r p. flat_ends refl no_handout take_back p.0 (take_ends found);
      take_leaves = λ found left r p. flat_leaves (flat_ends refl no_handout take_back p.0 (take_ends found)) (λ n at is. p.1 ∙ take_leaves_book found is);
      set_figures_entry = λ figures found left r p. flat_ends refl tt change_back p.0 (setting_ends found figures);
      set_figures_leaves = λ figures found left r p. flat_leaves (flat_ends refl tt change_back p.0 (setting_ends found figures)) (λ n at is. p.1 ∙ setting_leaves_book found figures is);
      commons_entry = λ found r p. flat_ends refl no_commons commons_back p (commons_end found);
      empty_entry = λ κ a r x p. p;
      ratio_means = λ κ a r x p. ap (λ (f : EndakuroQuotient). by_kind f.kind f.value) p ∙ quotient_back (quotient_of (first a * second a) (third a));
      ratio_no_value = λ κ a r x p some. value_of p ∙ no_quotient (quotient_of (first a * second a) (third a)) (λ zero. some (kind_of p ∙ zero));
    }
