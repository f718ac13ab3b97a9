-- One outcome for each public function of the libraries. Those that change a book in place are in InPlace.antt, the grammar's in
-- GrammarOutcome.antt, the C face's in OneOutcomeC.antt and InPlaceC.antt.
use Rattle.refusals.proofs.give_back.Reads as refusals-give-back
use Rattle.refusals.proofs.demand.Reads as refusals-demand
use Rattle.refusals.proofs.or_else.Reads as refusals-or-else
use Rattle.ranges.proofs.is_temperature.Reads as ranges-is-temperature
use Rattle.ranges.proofs.is_draw_prover.Reads as ranges-is-draw-prover
use Rattle.ranges.proofs.is_draw_measure.Reads as ranges-is-draw-measure
use Rattle.ranges.proofs.is_pressure.Reads as ranges-is-pressure
use Rattle.ranges.proofs.is_coefficient.Reads as ranges-is-coefficient
use Rattle.ranges.proofs.is_modulus.Reads as ranges-is-modulus
use Rattle.ranges.proofs.is_diameter.Reads as ranges-is-diameter
use Rattle.ranges.proofs.is_wall.Reads as ranges-is-wall
use Rattle.ranges.proofs.is_compressibility.Reads as ranges-is-compressibility
use Rattle.ranges.proofs.is_ctl.Reads as ranges-is-ctl
use Rattle.ranges.proofs.is_run_factor.Reads as ranges-is-run-factor
use Rattle.ranges.proofs.is_ctdw.Reads as ranges-is-ctdw
use Rattle.ranges.proofs.is_volume.Reads as ranges-is-volume
use Rattle.ranges.proofs.are_pulses.Reads as ranges-are-pulses
use Rattle.ranges.proofs.is_k_factor.Reads as ranges-is-k-factor
use Rattle.ranges.proofs.is_limit.Reads as ranges-is-limit
use Rattle.ranges.proofs.are_runs.Reads as ranges-are-runs
use Rattle.ranges.proofs.are_passes.Reads as ranges-are-passes
use Rattle.ranges.proofs.are_paired_passes.Reads as ranges-are-paired-passes
use Rattle.ranges.proofs.are_fills.Reads as ranges-are-fills
use Rattle.ranges.proofs.is_certified.Reads as ranges-is-certified
use Rattle.ranges.proofs.is_scale.Reads as ranges-is-scale
use Rattle.ranges.proofs.is_reading.Reads as ranges-is-reading
use Rattle.ranges.proofs.is_meter_factor.Reads as ranges-is-meter-factor
use Rattle.ranges.proofs.is_sediment.Reads as ranges-is-sediment
use Rattle.ranges.proofs.is_gravity.Reads as ranges-is-gravity
use Rattle.ranges.proofs.are_entries.Reads as ranges-are-entries
use Rattle.ranges.proofs.are_moved.Reads as ranges-are-moved
use Rattle.exact.proofs.product.Reads as exact-product
use Rattle.exact.proofs.sum.Reads as exact-sum
use Rattle.exact.proofs.is_at_most.Reads as exact-is-at-most
use Rattle.exact.proofs.round_or_zero.Reads as exact-round-or-zero
use Rattle.exact.proofs.rounded_quotient.Reads as exact-rounded-quotient
use Rattle.exact.proofs.rounded_ratio.Reads as exact-rounded-ratio
use Rattle.exact.proofs.value_or_zero.Reads as exact-value-or-zero
use Rattle.factors.proofs.coefficient.Reads as factors-coefficient
use Rattle.factors.proofs.is_metal.Reads as factors-is-metal
use Rattle.factors.proofs.choose_metal.Reads as factors-choose-metal
use Rattle.factors.proofs.is_pipe.Reads as factors-is-pipe
use Rattle.factors.proofs.is_prover.Reads as factors-is-prover
use Rattle.factors.proofs.is_liquid.Reads as factors-is-liquid
use Rattle.factors.proofs.cts.Reads as factors-cts
use Rattle.factors.proofs.cps.Reads as factors-cps
use Rattle.factors.proofs.cpl.Reads as factors-cpl
use Rattle.factors.proofs.value_or_zero.Reads as factors-value-or-zero
use Rattle.factors.proofs.combine.Reads as factors-combine
use Rattle.factors.proofs.combined_or_zero.Reads as factors-combined-or-zero
use Rattle.octets.proofs.byte_at.Reads as octets-byte-at
use Rattle.octets.proofs.word_at.Reads as octets-word-at
use Rattle.octets.proofs.long_at.Reads as octets-long-at
use Rattle.octets.proofs.quad_at.Reads as octets-quad-at
use Rattle.octets.proofs.signed_at.Reads as octets-signed-at
use Rattle.octets.proofs.are_zero.Reads as octets-are-zero
use Rattle.octets.proofs.word_bytes.Reads as octets-word-bytes
use Rattle.octets.proofs.long_bytes.Reads as octets-long-bytes
use Rattle.octets.proofs.quad_bytes.Reads as octets-quad-bytes
use Rattle.octets.proofs.write_at.Reads as octets-write-at
use Rattle.group.proofs.is_group.Reads as group-is-group
use Rattle.group.proofs.first_group.Reads as group-first-group
use Rattle.group.proofs.mean.Reads as group-mean
use Rattle.group.proofs.find_spread.Reads as group-find-spread
use Rattle.report.proofs.write.Reads as report-write
use Rattle.report.proofs.read.Reads as report-read
use Rattle.run.proofs.records.size.Reads as run-size
use Rattle.run.proofs.records.decode.Reads as run-decode
use Rattle.run.proofs.records.judge_record.Reads as run-judge-record
use Rattle.run.proofs.work_out.Reads as run-work-out
use Rattle.run.proofs.show.Reads as run-show
use Rattle.proving.proofs.prove.Reads as proving-prove
use Rattle.proving.proofs.accept.Reads as proving-accept
use Rattle.moving.proofs.forward.Reads as moving-forward
use Rattle.moving.proofs.back.Reads as moving-back
use Rattle.draw.proofs.fill.Reads as draw-fill
use Rattle.draw.proofs.volumes.Reads as draw-volumes
use Rattle.draw.proofs.draw.Reads as draw-draw
use Rattle.ticket.proofs.work_out.Reads as ticket-work-out
use Rattle.live.proofs.convert.Reads as live-convert
use Rattle.live.proofs.channels.from_bits.Reads as live-from-bits
use Rattle.live.proofs.channels.convert.Reads as live-convert-channels
use Rattle.live.proofs.panel.show_temperature.Reads as live-show-temperature
use Rattle.live.proofs.panel.show_pressure.Reads as live-show-pressure
use Rattle.lookup.proofs.look_up.Reads as lookup-look-up
use Rattle.book.proofs.Book.empty.Reads as book-empty
use Rattle.book.proofs.Outcomes.{SoundPre, SoundPost}
use Rattle.book.proofs.request.Reads as book_request
use Rattle.book.proofs.withdraw.Reads as book_withdraw
use Rattle.book.proofs.take.Reads as book_take
use Rattle.book.proofs.set_figures.Reads as book-set-figures
use Rattle.book.proofs.tell_commons.Reads as book-tell-commons
use Rattle.promises.specs.Arguments.{second, fifth, seventh}
use Rattle.promises.specs.Outcome.{AnyArguments, OneAnswer, OneRead, OneLeft}

pub record OneOutcome : Type 0 where
  pub refusals_give_back_one : OneAnswer refusals-give-back.Pre refusals-give-back.Post
  pub refusals_demand_one : OneAnswer refusals-demand.Pre refusals-demand.Post
  pub refusals_or_else_one : OneAnswer refusals-or-else.Pre refusals-or-else.Post
  pub ranges_is_temperature_one : OneAnswer ranges-is-temperature.Pre ranges-is-temperature.Post
  pub ranges_is_draw_prover_one : OneAnswer ranges-is-draw-prover.Pre ranges-is-draw-prover.Post
  pub ranges_is_draw_measure_one : OneAnswer ranges-is-draw-measure.Pre ranges-is-draw-measure.Post
  pub ranges_is_pressure_one : OneAnswer ranges-is-pressure.Pre ranges-is-pressure.Post
  pub ranges_is_coefficient_one : OneAnswer ranges-is-coefficient.Pre ranges-is-coefficient.Post
  pub ranges_is_modulus_one : OneAnswer ranges-is-modulus.Pre ranges-is-modulus.Post
  pub ranges_is_diameter_one : OneAnswer ranges-is-diameter.Pre ranges-is-diameter.Post
  pub ranges_is_wall_one : OneAnswer ranges-is-wall.Pre ranges-is-wall.Post
  pub ranges_is_compressibility_one : OneAnswer ranges-is-compressibility.Pre ranges-is-compressibility.Post
  pub ranges_is_ctl_one : OneAnswer ranges-is-ctl.Pre ranges-is-ctl.Post
  pub ranges_is_run_factor_one : OneAnswer ranges-is-run-factor.Pre ranges-is-run-factor.Post
  pub ranges_is_ctdw_one : OneAnswer ranges-is-ctdw.Pre ranges-is-ctdw.Post
  pub ranges_is_volume_one : OneAnswer ranges-is-volume.Pre ranges-is-volume.Post
  pub ranges_are_pulses_one : OneAnswer ranges-are-pulses.Pre ranges-are-pulses.Post
  pub ranges_is_k_factor_one : OneAnswer ranges-is-k-factor.Pre ranges-is-k-factor.Post
  pub ranges_is_limit_one : OneAnswer ranges-is-limit.Pre ranges-is-limit.Post
  pub ranges_are_runs_one : OneAnswer ranges-are-runs.Pre ranges-are-runs.Post
  pub ranges_are_passes_one : OneAnswer ranges-are-passes.Pre ranges-are-passes.Post
  pub ranges_are_paired_passes_one : OneAnswer ranges-are-paired-passes.Pre ranges-are-paired-passes.Post
  pub ranges_are_fills_one : OneAnswer ranges-are-fills.Pre ranges-are-fills.Post
  pub ranges_is_certified_one : OneAnswer ranges-is-certified.Pre ranges-is-certified.Post
  pub ranges_is_scale_one : OneAnswer ranges-is-scale.Pre ranges-is-scale.Post
  pub ranges_is_reading_one : OneAnswer ranges-is-reading.Pre ranges-is-reading.Post
  pub ranges_is_meter_factor_one : OneAnswer ranges-is-meter-factor.Pre ranges-is-meter-factor.Post
  pub ranges_is_sediment_one : OneAnswer ranges-is-sediment.Pre ranges-is-sediment.Post
  pub ranges_is_gravity_one : OneAnswer ranges-is-gravity.Pre ranges-is-gravity.Post
  pub ranges_are_entries_one : OneAnswer ranges-are-entries.Pre ranges-are-entries.Post
  pub ranges_are_moved_one : OneAnswer ranges-are-moved.Pre ranges-are-moved.Post
  pub exact_product_one : OneAnswer exact-product.Pre exact-product.Post
  pub exact_sum_one : OneAnswer exact-sum.Pre exact-sum.Post
  pub exact_is_at_most_one : OneAnswer exact-is-at-most.Pre exact-is-at-most.Post
  pub exact_round_or_zero_one : OneAnswer exact-round-or-zero.Pre exact-round-or-zero.Post
  pub exact_rounded_quotient_one : OneAnswer exact-rounded-quotient.Pre exact-rounded-quotient.Post
  pub exact_rounded_ratio_one : OneAnswer exact-rounded-ratio.Pre exact-rounded-ratio.Post
  pub exact_value_or_zero_one : OneAnswer exact-value-or-zero.Pre exact-value-or-zero.Post
  pub factors_coefficient_one : OneAnswer factors-coefficient.Pre factors-coefficient.Post
  pub factors_is_metal_one : OneAnswer factors-is-metal.Pre factors-is-metal.Post
  pub factors_choose_metal_one : OneAnswer factors-choose-metal.Pre factors-choose-metal.Post
  pub factors_is_pipe_one : OneAnswer factors-is-pipe.Pre factors-is-pipe.Post
  pub factors_is_prover_one : OneAnswer factors-is-prover.Pre factors-is-prover.Post
  pub factors_is_liquid_one : OneAnswer factors-is-liquid.Pre factors-is-liquid.Post
  pub factors_cts_one : OneAnswer factors-cts.Pre factors-cts.Post
  pub factors_cps_one : OneAnswer factors-cps.Pre factors-cps.Post
  pub factors_cpl_one : OneAnswer factors-cpl.Pre factors-cpl.Post
  pub factors_value_or_zero_one : OneAnswer factors-value-or-zero.Pre factors-value-or-zero.Post
  pub factors_combine_one : OneAnswer factors-combine.Pre factors-combine.Post
  pub factors_combined_or_zero_one : OneAnswer factors-combined-or-zero.Pre factors-combined-or-zero.Post
  pub octets_byte_at_one : OneAnswer octets-byte-at.Pre octets-byte-at.Post
  pub octets_word_at_one : OneAnswer octets-word-at.Pre octets-word-at.Post
  pub octets_long_at_one : OneAnswer octets-long-at.Pre octets-long-at.Post
  pub octets_quad_at_one : OneAnswer octets-quad-at.Pre octets-quad-at.Post
  pub octets_signed_at_one : OneAnswer octets-signed-at.Pre octets-signed-at.Post
  pub octets_are_zero_one : OneAnswer octets-are-zero.Pre octets-are-zero.Post
  pub octets_word_bytes_one : OneAnswer octets-word-bytes.Pre octets-word-bytes.Post
  pub octets_long_bytes_one : OneAnswer octets-long-bytes.Pre octets-long-bytes.Post
  pub octets_quad_bytes_one : OneAnswer octets-quad-bytes.Pre octets-quad-bytes.Post
  -- the bytes left in `to`
  pub octets_write_at_any : AnyArguments octets-write-at.Pre
  pub octets_write_at_one : OneLeft octets-write-at.Post (λ κ x. (second x).now)
  pub group_is_group_one : OneAnswer group-is-group.Pre group-is-group.Post
  pub group_first_group_one : OneAnswer group-first-group.Pre group-first-group.Post
  pub group_mean_one : OneAnswer group-mean.Pre group-mean.Post
  pub group_find_spread_one : OneAnswer group-find-spread.Pre group-find-spread.Post
  pub report_write_one : OneAnswer report-write.Pre report-write.Post
  -- and the bytes left in its buffer
  pub report_write_left : OneLeft report-write.Post (λ κ x. (fifth x).now)
  pub report_read_one : OneAnswer report-read.Pre report-read.Post
  pub run_records_size_one : OneAnswer run-size.Pre run-size.Post
  pub run_records_decode_one : OneAnswer run-decode.Pre run-decode.Post
  pub run_records_judge_record_one : OneAnswer run-judge-record.Pre run-judge-record.Post
  pub run_work_out_one : OneAnswer run-work-out.Pre run-work-out.Post
  pub run_show_one : OneAnswer run-show.Pre run-show.Post
  pub proving_prove_one : OneAnswer proving-prove.Pre proving-prove.Post
  -- and the bytes left in its buffer
  pub proving_prove_left : OneLeft proving-prove.Post (λ κ x. (seventh x).now)
  -- the part handed back, by the bytes in it: of the place that holds them a contract over values can't speak
  pub proving_accept_one : OneRead proving-accept.Pre proving-accept.Post (λ κ r. r.now)
  pub moving_forward_one : OneAnswer moving-forward.Pre moving-forward.Post
  pub moving_forward_left : OneLeft moving-forward.Post (λ κ x. (second x).now)
  pub moving_back_one : OneAnswer moving-back.Pre moving-back.Post
  pub moving_back_left : OneLeft moving-back.Post (λ κ x. (second x).now)
  pub draw_fill_one : OneAnswer draw-fill.Pre draw-fill.Post
  pub draw_volumes_one : OneAnswer draw-volumes.Pre draw-volumes.Post
  pub draw_draw_one : OneAnswer draw-draw.Pre draw-draw.Post
  pub ticket_work_out_one : OneAnswer ticket-work-out.Pre ticket-work-out.Post
  pub live_convert_one : OneAnswer live-convert.Pre live-convert.Post
  pub live_from_bits_one : OneAnswer live-from-bits.Pre live-from-bits.Post
  pub live_convert_channels_one : OneAnswer live-convert-channels.Pre live-convert-channels.Post
  pub live_show_temperature_one : OneAnswer live-show-temperature.Pre live-show-temperature.Post
  pub live_show_pressure_one : OneAnswer live-show-pressure.Pre live-show-pressure.Post
  pub lookup_look_up_one : OneAnswer lookup-look-up.Pre lookup-look-up.Post
  pub book_empty_one : OneAnswer book-empty.Pre book-empty.Post
  pub book_is_sound_one : OneAnswer SoundPre SoundPost
  pub book_request_one : OneAnswer book_request.Pre book_request.Post
  pub book_withdraw_one : OneAnswer book_withdraw.Pre book_withdraw.Post
  pub book_take_one : OneAnswer book_take.Pre book_take.Post
  pub book_set_figures_one : OneAnswer book-set-figures.Pre book-set-figures.Post
  pub book_tell_commons_one : OneAnswer book-tell-commons.Pre book-tell-commons.Post
