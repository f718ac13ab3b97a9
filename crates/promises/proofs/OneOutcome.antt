-- One outcome for each public function: its contract gives the answer, or what the answer tells, which loses nothing.
use mathlib.Core.Path.{◌≡◌, sym, ◌∙◌}
use Rattle.refusals.proofs.Laws.{verdict_one, told_one}
use Rattle.draw.proofs.Outcome.{volumes_one}
use Rattle.book.proofs.Outcomes.{changed_one}
use Rattle.promises.specs.OneOutcome.{OneOutcome}

-- two that are equal to a third are equal
pub same : {A : Type 0} {r q m : A} → r ≡ m → q ≡ m → r ≡ q
same p p' = p ∙ sym p'

pub one_outcome : OneOutcome
one_outcome =
    record {
      refusals_give_back_one = (λ _ _. tt, λ _ _ _ _ _ _. same);
      refusals_demand_one = (λ _ _. tt, λ _ _ r q _ _ p p'. verdict_one r q (same p p'));
      refusals_or_else_one = (λ _ _. tt, λ _ _ r q _ _ p p'. verdict_one r q (same p p'));
      ranges_is_temperature_one = (λ _ _. tt, λ _ _ _ _ _ _. same);
      ranges_is_draw_prover_one = (λ _ _. tt, λ _ _ _ _ _ _. same);
      ranges_is_draw_measure_one = (λ _ _. tt, λ _ _ _ _ _ _. same);
      ranges_is_pressure_one = (λ _ _. tt, λ _ _ _ _ _ _. same);
      ranges_is_coefficient_one = (λ _ _. tt, λ _ _ _ _ _ _. same);
      ranges_is_modulus_one = (λ _ _. tt, λ _ _ _ _ _ _. same);
      ranges_is_diameter_one = (λ _ _. tt, λ _ _ _ _ _ _. same);
      ranges_is_wall_one = (λ _ _. tt, λ _ _ _ _ _ _. same);
      ranges_is_compressibility_one = (λ _ _. tt, λ _ _ _ _ _ _. same);
      ranges_is_ctl_one = (λ _ _. tt, λ _ _ _ _ _ _. same);
      ranges_is_run_factor_one = (λ _ _. tt, λ _ _ _ _ _ _. same);
      ranges_is_ctdw_one = (λ _ _. tt, λ _ _ _ _ _ _. same);
      ranges_is_volume_one = (λ _ _. tt, λ _ _ _ _ _ _. same);
      ranges_are_pulses_one = (λ _ _. tt, λ _ _ _ _ _ _. same);
      ranges_is_k_factor_one = (λ _ _. tt, λ _ _ _ _ _ _. same);
      ranges_is_limit_one = (λ _ _. tt, λ _ _ _ _ _ _. same);
      ranges_are_runs_one = (λ _ _. tt, λ _ _ _ _ _ _. same);
      ranges_are_passes_one = (λ _ _. tt, λ _ _ _ _ _ _. same);
      ranges_are_paired_passes_one = (λ _ _. tt, λ _ _ _ _ _ _. same);
      ranges_are_fills_one = (λ _ _. tt, λ _ _ _ _ _ _. same);
      ranges_is_certified_one = (λ _ _. tt, λ _ _ _ _ _ _. same);
      ranges_is_scale_one = (λ _ _. tt, λ _ _ _ _ _ _. same);
      ranges_is_reading_one = (λ _ _. tt, λ _ _ _ _ _ _. same);
      ranges_is_meter_factor_one = (λ _ _. tt, λ _ _ _ _ _ _. same);
      ranges_is_sediment_one = (λ _ _. tt, λ _ _ _ _ _ _. same);
      ranges_is_gravity_one = (λ _ _. tt, λ _ _ _ _ _ _. same);
      ranges_are_entries_one = (λ _ _. tt, λ _ _ _ _ _ _. same);
      ranges_are_moved_one = (λ _ _. tt, λ _ _ _ _ _ _. same);
      exact_product_one = (λ _ _. tt, λ _ _ _ _ _ _. same);
      exact_sum_one = (λ _ _. tt, λ _ _ _ _ _ _. same);
      exact_is_at_most_one = (λ _ _. tt, λ _ _ _ _ _ _. same);
      exact_round_or_zero_one = (λ _ _. tt, λ _ _ _ _ _ _. same);
      exact_rounded_quotient_one = (λ _ _. tt, λ _ _ _ _ _ _. same);
      exact_rounded_ratio_one = (λ _ _. tt, λ _ _ _ _ _ _. same);
      exact_value_or_zero_one = (λ _ _. tt, λ _ _ _ _ _ _. same);
      factors_coefficient_one = (λ _ _. tt, λ _ _ _ _ _ _. same);
      factors_is_metal_one = (λ _ _. tt, λ _ _ _ _ _ _. same);
      factors_choose_metal_one = (λ _ _. tt, λ _ _ _ _ _ _. same);
      factors_is_pipe_one = (λ _ _. tt, λ _ _ _ _ _ _. same);
      factors_is_prover_one = (λ _ _. tt, λ _ _ _ _ _ _. same);
      factors_is_liquid_one = (λ _ _. tt, λ _ _ _ _ _ _. same);
      factors_cts_one = (λ _ _. tt, λ _ _ r q _ _ p p'. told_one r q (same p p'));
      factors_cps_one = (λ _ _. tt, λ _ _ r q _ _ p p'. told_one r q (same p p'));
      factors_cpl_one = (λ _ _. tt, λ _ _ r q _ _ p p'. told_one r q (same p p'));
      factors_value_or_zero_one = (λ _ _. tt, λ _ _ _ _ _ _. same);
      factors_combine_one = (λ _ _. tt, λ _ _ _ _ _ _. same);
      factors_combined_or_zero_one = (λ _ _. tt, λ _ _ _ _ _ _. same);
      octets_byte_at_one = (λ _ _. tt, λ _ _ _ _ _ _. same);
      octets_word_at_one = (λ _ _. tt, λ _ _ _ _ _ _. same);
      octets_long_at_one = (λ _ _. tt, λ _ _ _ _ _ _. same);
      octets_quad_at_one = (λ _ _. tt, λ _ _ _ _ _ _. same);
      octets_signed_at_one = (λ _ _. tt, λ _ _ _ _ _ _. same);
      octets_are_zero_one = (λ _ _. tt, λ _ _ _ _ _ _. same);
      octets_word_bytes_one = (λ _ _. tt, λ _ _ _ _ _ _. same);
      octets_long_bytes_one = (λ _ _. tt, λ _ _ _ _ _ _. same);
      octets_quad_bytes_one = (λ _ _. tt, λ _ _ _ _ _ _. same);
      octets_write_at_any = λ _ _. tt;
      octets_write_at_one = λ _ _ _ _ _ _. same;
      group_is_group_one = (λ _ _. tt, λ _ _ _ _ _ _. same);
      group_first_group_one = (λ _ _. tt, λ _ _ _ _ _ _. same);
      group_mean_one = (λ _ _. tt, λ _ _ _ _ _ _. same);
      group_find_spread_one = (λ _ _. tt, λ _ _ r q _ _ p p'. told_one r q (same p p'));
      report_write_one = (λ _ _. tt, λ _ _ r q _ _ p p'. told_one r q (same p.0 p'.0));
      report_write_left = λ _ _ _ _ _ _ p p'. same p.1 p'.1;
      report_read_one = (λ _ _. tt, λ _ _ r q _ _ p p'. told_one r q (same p p'));
      run_records_size_one = (λ _ _. tt, λ _ _ _ _ _ _. same);
      run_records_decode_one = (λ _ _. tt, λ _ _ _ _ _ _. same);
      run_records_judge_record_one = (λ _ _. tt, λ _ _ r q _ _ p p'. verdict_one r q (same p p'));
      run_work_out_one = (λ _ _. tt, λ _ _ r q _ _ p p'. told_one r q (same p p'));
      run_show_one = (λ _ _. tt, λ _ _ r q _ _ p p'. told_one r q (same p p'));
      proving_prove_one = (λ _ _. tt, λ _ _ r q _ _ p p'. told_one r q (same p.0 p'.0));
      proving_prove_left = λ _ _ _ _ _ _ p p'. same p.1 p'.1;
      proving_accept_one = (λ _ _. tt, λ _ _ _ _ _ _. same);
      moving_forward_one = (λ _ _. tt, λ _ _ r q _ _ p p'. told_one r q (same p.0 p'.0));
      moving_forward_left = λ _ _ _ _ _ _ p p'. same p.1 p'.1;
      moving_back_one = (λ _ _. tt, λ _ _ r q _ _ p p'. told_one r q (same p.0 p'.0));
      moving_back_left = λ _ _ _ _ _ _ p p'. same p.1 p'.1;
      draw_fill_one = (λ _ _. tt, λ _ _ r q _ _ p p'. told_one r q (same p p'));
      draw_volumes_one = (λ _ _. tt, λ _ _ r q _ _ p p'. volumes_one r q (same p.0 p'.0) (same p.1 p'.1));
      draw_draw_one = (λ _ _. tt, λ _ _ r q _ _ p p'. told_one r q (same p p'));
      ticket_work_out_one = (λ _ _. tt, λ _ _ r q _ _ p p'. told_one r q (same p p'));
      live_convert_one = (λ _ _. tt, λ _ _ r q _ _ p p'. told_one r q (same p p'));
      live_from_bits_one = (λ _ _. tt, λ _ _ _ _ _ _. same);
      live_convert_channels_one = (λ _ _. tt, λ _ _ r q _ _ p p'. told_one r q (same p p'));
      live_show_temperature_one = (λ _ _. tt, λ _ _ r q _ _ p p'. told_one r q (same p p'));
      live_show_pressure_one = (λ _ _. tt, λ _ _ r q _ _ p p'. told_one r q (same p p'));
      lookup_look_up_one = (λ _ _. tt, λ _ _ r q _ _ p p'. told_one r q (same p p'));
      book_empty_one = (λ _ _. tt, λ _ _ _ _ _ _. same);
      book_is_sound_one = (λ _ _. tt, λ _ _ _ _ _ _. same);
      book_request_one = (λ _ _. tt, λ _ _ r q _ _ p p'. changed_one r q (same p.0 p'.0) (same p.1 p'.1));
      book_withdraw_one = (λ _ _. tt, λ _ _ r q _ _ p p'. changed_one r q (same p.0 p'.0) (same p.1 p'.1));
      book_take_one = (λ _ _. tt, λ _ _ r q _ _ p p' i. record { book = same p.1 p'.1 i; answer = told_one r.answer q.answer (same p.0 p'.0) i });
      book_set_figures_one = (λ _ _. tt, λ _ _ r q _ _ p p'. changed_one r q (same p.0 p'.0) (same p.1 p'.1));
      book_tell_commons_one = (λ _ _. tt, λ _ _ r q _ _ p p'. told_one r q (same p p'));
    }
