-- Demand 1 of the C face's own contracts, export by export, as Entries.antt states it of the libraries': 'Hand any entry point any bytes and
-- numbers, and it ends with either its result or one number from the table ..' Of the calls on a book behind a pointer it is stated over
-- the fact that their clause is (InPlaceC.antt). Arguments stand in the order of include/endakuro.h, lent bytes as one.
use Rattle.std.specs.Prelude.{◌≡◌, ℕ, ◌*◌, length, take, drop, replicate}
use Rattle.refusals.specs.Told.{done, refused}
use Rattle.exact.specs.Quotient.{quotient_of}
use Rattle.octets.specs.Records.{records_in, zeros_after}
use Rattle.factors.specs.Answers.{cts_of, cps_of, cpl_of}
use Rattle.factors.specs.Metal.{metal_by}
use Rattle.run.specs.Record.{size_of}
use Rattle.run.specs.declared.Form.TheVariants.{Short, Long}
use Rattle.run.specs.Answers.{shown_of}
use Rattle.report.specs.Judged.{write_of, read_of}
use Rattle.proving.specs.Judging.{runs_in}
use Rattle.proving.specs.Job.{job_of, found_of, accepted_of}
use Rattle.moving.specs.Judging.{move_of}
use Rattle.draw.specs.Profile.{volumes_of}
use Rattle.draw.specs.Answers.{fill_of, count_of, draw_of}
use Rattle.draw.specs.declared.Profile.TheVariants.{Unidirectional, Bidirectional}
use Rattle.ticket.specs.Answers.{ticket_of}
use Rattle.live.specs.Live.{live_of}
use Rattle.live.specs.Channels.{channels_of}
use Rattle.live.specs.Panel.{panel_temperature_of, panel_pressure_of}
use Rattle.lookup.specs.Answers.{look_up_of}
use Rattle.book.specs.Figures.{empty_book}
use Rattle.book.specs.Calls.{request_of, withdrawal_of, take_of, setting_of, commons_of}
use Rattle.book.specs.declared.Book.{Book}
use Rattle.book.specs.declared.Figures.{Figures}
use Rattle.api.specs.Given.{pipe_by, liquid_by, prover_by, factors_by, ticket_by, temperature_by, pressure_by}
use Rattle.api.specs.Flat.{no_report, no_figures, no_fill, no_base, no_volumes, no_reading, nothing_shown, no_entry, no_handout, no_commons}
use Rattle.api.specs.declared.books.EndakuroDone.{EndakuroDone}
use Rattle.api.specs.declared.books.EndakuroTaken.{EndakuroTaken}
use Rattle.api.specs.declared.books.EndakuroCommons.{EndakuroCommons}
use Rattle.api.proofs.corrections.endakuro_cts_four.Reads as cts-four
use Rattle.api.proofs.corrections.endakuro_cts_six.Reads as cts-six
use Rattle.api.proofs.corrections.endakuro_cps_four.Reads as cps-four
use Rattle.api.proofs.corrections.endakuro_cps_six.Reads as cps-six
use Rattle.api.proofs.corrections.endakuro_cpl_four.Reads as cpl-four
use Rattle.api.proofs.corrections.endakuro_cpl_six.Reads as cpl-six
use Rattle.api.proofs.quotients.endakuro_rounded_ratio.Reads as ratio
use Rattle.api.proofs.jobs.endakuro_prove.Reads as prove
use Rattle.api.proofs.jobs.endakuro_accept.Reads as accept
use Rattle.api.proofs.jobs.endakuro_run.Reads as a-run
use Rattle.api.proofs.jobs.endakuro_prove_long.Reads as prove-long
use Rattle.api.proofs.jobs.endakuro_accept_long.Reads as accept-long
use Rattle.api.proofs.jobs.endakuro_run_long.Reads as a-long-run
use Rattle.api.proofs.moves.endakuro_forward.Reads as forward
use Rattle.api.proofs.moves.endakuro_back.Reads as back
use Rattle.api.proofs.reports.endakuro_write.Reads as write
use Rattle.api.proofs.reports.endakuro_read.Reads as read
use Rattle.api.proofs.water.endakuro_fill.Reads as fill
use Rattle.api.proofs.water.endakuro_passes.Reads as passes
use Rattle.api.proofs.water.endakuro_trips.Reads as trips
use Rattle.api.proofs.water.endakuro_draw.Reads as draw
use Rattle.api.proofs.water.endakuro_bidirectional.Reads as bidirectional
use Rattle.api.proofs.tickets.endakuro_ticket.Reads as ticket
use Rattle.api.proofs.readings.endakuro_live.Reads as live
use Rattle.api.proofs.readings.endakuro_channels.Reads as channels
use Rattle.api.proofs.panel.endakuro_panel_temperature.Reads as panel-temperature
use Rattle.api.proofs.panel.endakuro_panel_pressure.Reads as panel-pressure
use Rattle.api.proofs.lookups.endakuro_look_up.Reads as look_up
use Rattle.api.proofs.books.endakuro_empty.Reads as empty
use Rattle.promises.specs.Numbers.{setting_numbers, liquid_numbers, job_numbers, record_numbers, forward_numbers, back_numbers, draw_numbers, passes_numbers, fill_numbers, ticket_numbers, live_numbers, channel_numbers, panel_numbers, look_up_numbers, request_numbers, withdrawal_numbers, take_numbers, agreement_numbers, commons_numbers, read_numbers, write_numbers}
use Rattle.promises.specs.Arguments.{first, second, third, fourth, fifth, sixth}
use Rattle.promises.specs.FlatEnding.{FlatEnds, LeavesAsFound, by_kind, factor_in, report_in, run_in, fill_in, passes_in, base_in, volumes_in, reading_in, shown_in, entry_in, moved_in, change_in, handout_in, commons_in}
use Rattle.promises.specs.InPlaceC.{Requests, Withdraws, Takes, Sets, Shares}

pub record EntriesC : Type 0 where
  pub cts_four_entry : (κ : _) (a : _) (r : _) (x : _) → cts-four.Post κ a r x → FlatEnds setting_numbers 0 0 0 (factor_in r) (cts_of 4 (metal_by (second a) (third a)) (first a))
  pub cts_six_entry : (κ : _) (a : _) (r : _) (x : _) → cts-six.Post κ a r x → FlatEnds setting_numbers 0 0 0 (factor_in r) (cts_of 6 (metal_by (second a) (third a)) (first a))
  pub cps_four_entry : (κ : _) (a : _) (r : _) (x : _) → cps-four.Post κ a r x → FlatEnds setting_numbers 0 0 0 (factor_in r) (cps_of 4 (pipe_by (second a) (third a) (fourth a)) (first a))
  pub cps_six_entry : (κ : _) (a : _) (r : _) (x : _) → cps-six.Post κ a r x → FlatEnds setting_numbers 0 0 0 (factor_in r) (cps_of 6 (pipe_by (second a) (third a) (fourth a)) (first a))
  pub cpl_four_entry : (κ : _) (a : _) (r : _) (x : _) → cpl-four.Post κ a r x → FlatEnds liquid_numbers 0 0 0 (factor_in r) (cpl_of 4 (liquid_by (first a) (second a) (third a)))
  pub cpl_six_entry : (κ : _) (a : _) (r : _) (x : _) → cpl-six.Post κ a r x → FlatEnds liquid_numbers 0 0 0 (factor_in r) (cpl_of 6 (liquid_by (first a) (second a) (third a)))
  -- the job: records 1 to the count of those lent; a refusal leaves the buffer's bytes
  pub prove-entry : (κ : _) (a : _) (r : _) (x : _) → prove.Post κ a r x
      → FlatEnds job_numbers 1 (runs_in Short (fifth a).now) no_report (report_in r) (job_of (first a) (prover_by (second a)) (third a) (fourth a) Short (fifth a).now (length (sixth a).now))
  pub prove-leaves : (κ : _) (a : _) (r : _) (x : _) → prove.Post κ a r x → LeavesAsFound (report_in r) (sixth x).now (sixth a).now
  -- '(The entry that hands run records back hands back none when it refuses, and no number.)'
  pub accept_hands_none : (κ : _) (a : _) (r : _) (x : _) {number at : ℕ} → accept.Post κ a r x → found_of (prover_by (first a)) (second a) (third a) Short (fourth a).now ≡ refused number at → (r.start ≡ 0) × (r.length ≡ 0)
  pub accept_hands_five : (κ : _) (a : _) (r : _) (x : _) {place : ℕ} → accept.Post κ a r x → found_of (prover_by (first a)) (second a) (third a) Short (fourth a).now ≡ done place → (r.start ≡ size_of Short * place) × (r.length ≡ 5 * size_of Short)
  pub accept_hands_the_runs : (κ : _) (a : _) (r : _) (x : _) → accept.Post κ a r x → take r.length (drop r.start (fourth a).now) ≡ accepted_of (prover_by (first a)) (second a) (third a) Short (fourth a).now
  pub run_entry : (κ : _) (a : _) (r : _) (x : _) → a-run.Post κ a r x → FlatEnds record_numbers 1 1 no_figures (run_in r) (shown_of (prover_by (first a)) (second a) Short (third a).now)
  -- the same of long records
  pub prove-long-entry : (κ : _) (a : _) (r : _) (x : _) → prove-long.Post κ a r x
      → FlatEnds job_numbers 1 (runs_in Long (fifth a).now) no_report (report_in r) (job_of (first a) (prover_by (second a)) (third a) (fourth a) Long (fifth a).now (length (sixth a).now))
  pub prove-long-leaves : (κ : _) (a : _) (r : _) (x : _) → prove-long.Post κ a r x → LeavesAsFound (report_in r) (sixth x).now (sixth a).now
  pub accept_long_hands_none : (κ : _) (a : _) (r : _) (x : _) {number at : ℕ} → accept-long.Post κ a r x → found_of (prover_by (first a)) (second a) (third a) Long (fourth a).now ≡ refused number at → (r.start ≡ 0) × (r.length ≡ 0)
  pub accept_long_hands_five : (κ : _) (a : _) (r : _) (x : _) {place : ℕ} → accept-long.Post κ a r x
      → found_of (prover_by (first a)) (second a) (third a) Long (fourth a).now ≡ done place → (r.start ≡ size_of Long * place) × (r.length ≡ 5 * size_of Long)
  pub accept_long_hands_the_runs : (κ : _) (a : _) (r : _) (x : _) → accept-long.Post κ a r x → take r.length (drop r.start (fourth a).now) ≡ accepted_of (prover_by (first a)) (second a) (third a) Long (fourth a).now
  pub run_long_entry : (κ : _) (a : _) (r : _) (x : _) → a-long-run.Post κ a r x → FlatEnds record_numbers 1 1 no_figures (run_in r) (shown_of (prover_by (first a)) (second a) Long (third a).now)
  -- records moved; a refusal leaves the buffer's bytes
  pub forward_entry : (κ : _) (a : _) (r : _) (x : _) → forward.Post κ a r x → FlatEnds forward_numbers 1 (records_in (size_of Short) (first a).now) 0 (moved_in r) (move_of Short (first a).now (length (second a).now))
  pub forward_leaves : (κ : _) (a : _) (r : _) (x : _) → forward.Post κ a r x → LeavesAsFound (moved_in r) (second x).now (second a).now
  pub back_entry : (κ : _) (a : _) (r : _) (x : _) → back.Post κ a r x → FlatEnds back_numbers 1 (records_in (size_of Long) (first a).now) 0 (moved_in r) (move_of Long (first a).now (length (second a).now))
  pub back_leaves : (κ : _) (a : _) (r : _) (x : _) → back.Post κ a r x → LeavesAsFound (moved_in r) (second x).now (second a).now
  pub write_entry : (κ : _) (a : _) (r : _) (x : _) → write.Post κ a r x → FlatEnds write_numbers 0 0 no_report (report_in r) (write_of (length (fifth a).now) (first a) (second a) (third a) (factors_by (fourth a)))
  pub write_leaves : (κ : _) (a : _) (r : _) (x : _) → write.Post κ a r x → LeavesAsFound (report_in r) (fifth x).now (fifth a).now
  pub read_entry : (κ : _) (a : _) (r : _) (x : _) → read.Post κ a r x → FlatEnds read_numbers 0 0 no_report (report_in r) (read_of (first a).now)
  pub fill_entry : (κ : _) (a : _) (r : _) (x : _) → fill.Post κ a r x → FlatEnds fill_numbers 1 1 no_fill (fill_in r) (fill_of (metal_by (first a) (second a)) (third a).now)
  pub passes_entry : (κ : _) (a : _) (r : _) (x : _) → passes.Post κ a r x → FlatEnds passes_numbers 1 (records_in 32 (second a).now) 0 (passes_in r) (count_of Unidirectional (prover_by (first a)) (second a).now)
  -- and the volumes: of the passes when done, all zero when refused
  pub passes_volumes : (κ : _) (a : _) (r : _) (x : _) → passes.Post κ a r x → r.number ≡ 0 → r.volumes ≡ zeros_after 20 (volumes_of Unidirectional (prover_by (first a)) (second a).now)
  pub passes_no_volumes : (κ : _) (a : _) (r : _) (x : _) → passes.Post κ a r x → (r.number ≡ 0 → ⊥) → r.volumes ≡ replicate 20 0
  -- round trips likewise
  pub trips_entry : (κ : _) (a : _) (r : _) (x : _) → trips.Post κ a r x → FlatEnds passes_numbers 1 (records_in 32 (second a).now) 0 (passes_in r) (count_of Bidirectional (prover_by (first a)) (second a).now)
  pub trips_volumes : (κ : _) (a : _) (r : _) (x : _) → trips.Post κ a r x → r.number ≡ 0 → r.volumes ≡ zeros_after 20 (volumes_of Bidirectional (prover_by (first a)) (second a).now)
  pub trips_no_volumes : (κ : _) (a : _) (r : _) (x : _) → trips.Post κ a r x → (r.number ≡ 0 → ⊥) → r.volumes ≡ replicate 20 0
  pub draw_entry : (κ : _) (a : _) (r : _) (x : _) → draw.Post κ a r x → FlatEnds draw_numbers 1 (records_in 32 (second a).now) no_base (base_in r) (draw_of Unidirectional (prover_by (first a)) (second a).now)
  pub bidirectional_entry : (κ : _) (a : _) (r : _) (x : _) → bidirectional.Post κ a r x → FlatEnds draw_numbers 1 (records_in 32 (second a).now) no_base (base_in r) (draw_of Bidirectional (prover_by (first a)) (second a).now)
  pub ticket_entry : (κ : _) (a : _) (r : _) (x : _) → ticket.Post κ a r x → FlatEnds ticket_numbers 0 0 no_volumes (volumes_in r) (ticket_of (ticket_by (first a)))
  pub live_entry : (κ : _) (a : _) (r : _) (x : _) → live.Post κ a r x → FlatEnds live_numbers 0 0 no_reading (reading_in r) (live_of (first a) (second a))
  pub channels_entry : (κ : _) (a : _) (r : _) (x : _) → channels.Post κ a r x → FlatEnds channel_numbers 0 0 no_reading (reading_in r) (channels_of (temperature_by (first a)) (pressure_by (second a)))
  pub panel_temperature_entry : (κ : _) (a : _) (r : _) (x : _) → panel-temperature.Post κ a r x → FlatEnds panel_numbers 0 0 nothing_shown (shown_in r) (panel_temperature_of (first a))
  pub panel_pressure_entry : (κ : _) (a : _) (r : _) (x : _) → panel-pressure.Post κ a r x → FlatEnds panel_numbers 0 0 nothing_shown (shown_in r) (panel_pressure_of (first a))
  pub look_up_entry : (κ : _) (a : _) (r : _) (x : _) → look_up.Post κ a r x → FlatEnds look_up_numbers 1 (records_in 8 (third a).now) no_entry (entry_in r) (look_up_of (first a) (second a) (third a).now)
  -- the book: a refusal leaves the book that was found
  pub request_entry : (shipper number : ℕ) (found left : Book) (r : EndakuroDone) → Requests shipper number found left r → FlatEnds request_numbers 0 0 tt (change_in r) (request_of found shipper number)
  pub request_leaves : (shipper number : ℕ) (found left : Book) (r : EndakuroDone) → Requests shipper number found left r → LeavesAsFound (change_in r) left found
  pub withdraw_entry : (shipper number : ℕ) (found left : Book) (r : EndakuroDone) → Withdraws shipper number found left r → FlatEnds withdrawal_numbers 0 0 tt (change_in r) (withdrawal_of found shipper number)
  pub withdraw_leaves : (shipper number : ℕ) (found left : Book) (r : EndakuroDone) → Withdraws shipper number found left r → LeavesAsFound (change_in r) left found
  pub take_entry : (found left : Book) (r : EndakuroTaken) → Takes found left r → FlatEnds take_numbers 0 0 no_handout (handout_in r) (take_of found)
  pub take_leaves : (found left : Book) (r : EndakuroTaken) → Takes found left r → LeavesAsFound (handout_in r) left found
  pub set_figures_entry : (figures : Figures) (found left : Book) (r : EndakuroDone) → Sets figures found left r → FlatEnds agreement_numbers 0 0 tt (change_in r) (setting_of found figures)
  pub set_figures_leaves : (figures : Figures) (found left : Book) (r : EndakuroDone) → Sets figures found left r → LeavesAsFound (change_in r) left found
  pub commons_entry : (found : Book) (r : EndakuroCommons) → Shares found r → FlatEnds commons_numbers 0 0 no_commons (commons_in r) (commons_of found)
  -- These two refuse nothing: a new book; and whether a book is sound, which is a bool and leaves the book (InPlaceC.antt).
  pub empty_entry : (κ : _) (a : _) (r : _) (x : _) → empty.Post κ a r x → r ≡ empty_book
  -- The rounded quotient is no entry of the paper's: its kind says which of three answers it is, and nothing of the table.
  pub ratio_means : (κ : _) (a : _) (r : _) (x : _) → ratio.Post κ a r x → by_kind r.kind r.value ≡ quotient_of (first a * second a) (third a)
  pub ratio_no_value : (κ : _) (a : _) (r : _) (x : _) → ratio.Post κ a r x → (r.kind ≡ 0 → ⊥) → r.value ≡ 0
