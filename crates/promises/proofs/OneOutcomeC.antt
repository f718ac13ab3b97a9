-- One outcome for each function of the C face, as OneOutcome.antt states it of the others: its contract gives the answer and the bytes left.
use Rattle.promises.specs.OneOutcomeC.{OneOutcomeC}
use Rattle.promises.proofs.OneOutcome.{same}

pub one_outcome_c : OneOutcomeC
one_outcome_c =
    record {
      cts_four_one = (λ _ _. tt, λ _ _ _ _ _ _. same);
      cts_six_one = (λ _ _. tt, λ _ _ _ _ _ _. same);
      cps_four_one = (λ _ _. tt, λ _ _ _ _ _ _. same);
      cps_six_one = (λ _ _. tt, λ _ _ _ _ _ _. same);
      cpl_four_one = (λ _ _. tt, λ _ _ _ _ _ _. same);
      cpl_six_one = (λ _ _. tt, λ _ _ _ _ _ _. same);
      ratio_one = (λ _ _. tt, λ _ _ _ _ _ _. same);
      prove-one = (λ _ _. tt, λ _ _ _ _ _ _ p p'. same p.0 p'.0);
      prove-left = λ _ _ _ _ _ _ p p'. same p.1 p'.1;
      accept_one = (λ _ _. tt, λ _ _ _ _ _ _. same);
      run_one = (λ _ _. tt, λ _ _ _ _ _ _. same);
      prove-long-one = (λ _ _. tt, λ _ _ _ _ _ _ p p'. same p.0 p'.0);
      prove-long-left = λ _ _ _ _ _ _ p p'. same p.1 p'.1;
      accept_long_one = (λ _ _. tt, λ _ _ _ _ _ _. same);
      run_long_one = (λ _ _. tt, λ _ _ _ _ _ _. same);
      forward_one = (λ _ _. tt, λ _ _ _ _ _ _ p p'. same p.0 p'.0);
      forward_left = λ _ _ _ _ _ _ p p'. same p.1 p'.1;
      back_one = (λ _ _. tt, λ _ _ _ _ _ _ p p'. same p.0 p'.0);
      back_left = λ _ _ _ _ _ _ p p'. same p.1 p'.1;
      write_one = (λ _ _. tt, λ _ _ _ _ _ _ p p'. same p.0 p'.0);
      write_left = λ _ _ _ _ _ _ p p'. same p.1 p'.1;
      read_one = (λ _ _. tt, λ _ _ _ _ _ _. same);
      fill_one = (λ _ _. tt, λ _ _ _ _ _ _. same);
      passes_one = (λ _ _. tt, λ _ _ _ _ _ _. same);
      trips_one = (λ _ _. tt, λ _ _ _ _ _ _. same);
      draw_one = (λ _ _. tt, λ _ _ _ _ _ _. same);
      bidirectional_one = (λ _ _. tt, λ _ _ _ _ _ _. same);
      ticket_one = (λ _ _. tt, λ _ _ _ _ _ _. same);
      live_one = (λ _ _. tt, λ _ _ _ _ _ _. same);
      channels_one = (λ _ _. tt, λ _ _ _ _ _ _. same);
      panel_temperature_one = (λ _ _. tt, λ _ _ _ _ _ _. same);
      panel_pressure_one = (λ _ _. tt, λ _ _ _ _ _ _. same);
      look_up_one = (λ _ _. tt, λ _ _ _ _ _ _. same);
      empty_one = (λ _ _. tt, λ _ _ _ _ _ _. same);
    }
