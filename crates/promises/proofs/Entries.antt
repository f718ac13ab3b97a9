-- Demand 1 of the entries' contracts: each answer tells its meaning, which ends as the demand says.
use mathlib.Core.Path.{sym, ◌∙◌}
use lib.ListN.{length}
use Rattle.refusals.specs.Answered.{told}
use Rattle.factors.specs.Places.{digits}
use Rattle.promises.specs.Arguments.{first, second, third, fourth, fifth, sixth, seventh}
use Rattle.promises.specs.Entries.{Entries}
use Rattle.promises.proofs.Endings.{as_told, of_counted}
use Rattle.promises.proofs.Demand1.{cts_ends, cps_ends, cpl_ends, worked_ends, shown_ends, job_ends, forward_ends, back_ends, none_when_refused, write_ends, read_ends, fill_ends, volumes_end, draw_ends}
use Rattle.promises.proofs.Demand1.{ticket_ends, live_ends, channels_end, panel_temperature_ends, panel_pressure_ends, look_up_ends, request_ends, withdrawal_ends, take_ends, setting_ends, commons_end, left_as_found, request_leaves_book, withdrawal_leaves_book, take_leaves_book, setting_leaves_book}

pub entries : Entries
entries =
    record {
      cts_entry = λ κ a r x p. as_told p (cts_ends (digits (third a)) (second a) (first a));
      cps_entry = λ κ a r x p. as_told p (cps_ends (digits (third a)) (second a) (first a));
      cpl_entry = λ κ a r x p. as_told p (cpl_ends (digits (second a)) (first a));
      work_out_entry = λ κ a r x p. as_told p (worked_ends (first a) (second a) (third a) (fourth a));
      show_entry = λ κ a r x p. as_told p (shown_ends (first a) (second a) (third a) (fourth a).now);
      prove-entry = λ κ a r x p. as_told p.0 (job_ends (first a) (second a) (third a) (fourth a) (fifth a) (sixth a).now (length (seventh a).now));
      prove-leaves = λ κ a r x p is. p.1 ∙ left_as_found _ (seventh a).now (sym p.0 ∙ is);
      accept_hands_none = λ κ a r x p is. p ∙ none_when_refused (first a) (second a) (third a) (fourth a) (fifth a).now is;
      forward_entry = λ κ a r x p. as_told p.0 (forward_ends (first a).now (length (second a).now));
      forward_leaves = λ κ a r x p is. p.1 ∙ left_as_found _ (second a).now (sym p.0 ∙ is);
      back_entry = λ κ a r x p. as_told p.0 (back_ends (first a).now (length (second a).now));
      back_leaves = λ κ a r x p is. p.1 ∙ left_as_found _ (second a).now (sym p.0 ∙ is);
      write_entry = λ κ a r x p. as_told p.0 (write_ends (length (fifth a).now) (first a) (second a) (third a) (fourth a));
      write_leaves = λ κ a r x p is. p.1 ∙ left_as_found _ (fifth a).now (sym p.0 ∙ is);
      read_entry = λ κ a r x p. as_told p (read_ends (first a).now);
      fill_entry = λ κ a r x p. as_told p (fill_ends (first a) (second a).now);
      volumes_entry = λ κ a r x p. of_counted (told r) (as_told p.0 (volumes_end (first a) (second a) (third a).now));
      draw_entry = λ κ a r x p. as_told p (draw_ends (first a) (second a) (third a).now);
      ticket_entry = λ κ a r x p. as_told p (ticket_ends (first a));
      convert_entry = λ κ a r x p. as_told p (live_ends (first a).temperature (first a).pressure);
      convert_channels_entry = λ κ a r x p. as_told p (channels_end (first a) (second a));
      show_temperature_entry = λ κ a r x p. as_told p (panel_temperature_ends (first a));
      show_pressure_entry = λ κ a r x p. as_told p (panel_pressure_ends (first a));
      look_up_entry = λ κ a r x p. as_told p (look_up_ends (first a) (second a) (third a).now);
      request_entry = λ κ a r x p. as_told p.0 (request_ends (first a) (second a) (third a));
      request_leaves = λ κ a r x p is. p.1 ∙ request_leaves_book (first a) (second a) (third a) (sym p.0 ∙ is);
      withdraw_entry = λ κ a r x p. as_told p.0 (withdrawal_ends (first a) (second a) (third a));
      withdraw_leaves = λ κ a r x p is. p.1 ∙ withdrawal_leaves_book (first a) (second a) (third a) (sym p.0 ∙ is);
      take_entry = λ κ a r x p. as_told p.0 (take_ends (first a));
      take_leaves = λ κ a r x p is. p.1 ∙ take_leaves_book (first a) (sym p.0 ∙ is);
      set_figures_entry = λ κ a r x p. as_told p.0 (setting_ends (first a) (second a));
      set_figures_leaves = λ κ a r x p is. p.1 ∙ setting_leaves_book (first a) (second a) (sym p.0 ∙ is);
      tell_commons_entry = λ κ a r x p. as_told p (commons_end (first a));
    }
