-- Demand 1, of the entries' contracts themselves: 'Hand any entry point any bytes and numbers, and it ends with either its result or one
-- number from the table ..' and 'A refusal writes nothing into a lent buffer and hands the book of waiting requests back unchanged.'
-- `f.Post κ a r x` is what the function f ensures of any arguments a at entry, the answer r and the arguments x at exit. The arguments of
-- `prove` are request, prover, K, limit, form, records and buffer; of `accept` prover, K, limit, form and records; of `write` number, runs, first run,
-- factors and buffer; of `work_out` prover, K, run and record; of `forward` and `back` records and buffer; of `volumes` and `draw` profile, prover and records; of `look_up`
-- temperature, gravity and table.
use Rattle.std.specs.Prelude.{◌≡◌, [], ℕ}
use Rattle.refusals.specs.Told.{refused}
use Rattle.octets.specs.Records.{records_in}
use Rattle.run.specs.Record.{size_of}
use Rattle.run.specs.declared.Form.TheVariants.{Short, Long}
use Rattle.proving.specs.Judging.{runs_in}
use Rattle.proving.specs.Job.{found_of}
use Rattle.factors.proofs.cts.Reads as cts
use Rattle.factors.proofs.cps.Reads as cps
use Rattle.factors.proofs.cpl.Reads as cpl
use Rattle.run.proofs.work_out.Reads as work-out
use Rattle.run.proofs.show.Reads as show
use Rattle.report.proofs.write.Reads as write
use Rattle.report.proofs.read.Reads as read
use Rattle.proving.proofs.prove.Reads as prove
use Rattle.proving.proofs.accept.Reads as accept
use Rattle.moving.proofs.forward.Reads as forward
use Rattle.moving.proofs.back.Reads as back
use Rattle.draw.proofs.fill.Reads as fill
use Rattle.draw.proofs.volumes.Reads as volumes
use Rattle.draw.proofs.draw.Reads as draw
use Rattle.ticket.proofs.work_out.Reads as ticket
use Rattle.live.proofs.convert.Reads as convert
use Rattle.live.proofs.channels.convert.Reads as convert-channels
use Rattle.live.proofs.panel.show_temperature.Reads as show-temperature
use Rattle.live.proofs.panel.show_pressure.Reads as show-pressure
use Rattle.lookup.proofs.look_up.Reads as look_up
use Rattle.book.proofs.request.Reads as request
use Rattle.book.proofs.withdraw.Reads as withdraw
use Rattle.book.proofs.take.Reads as take
use Rattle.book.proofs.set_figures.Reads as set-figures
use Rattle.book.proofs.tell_commons.Reads as tell-commons
use Rattle.promises.specs.Numbers.{setting_numbers, liquid_numbers, job_numbers, record_numbers, run_numbers, forward_numbers, back_numbers, draw_numbers, passes_numbers, fill_numbers, ticket_numbers, live_numbers, channel_numbers, panel_numbers, look_up_numbers, request_numbers, withdrawal_numbers, take_numbers, agreement_numbers, commons_numbers, read_numbers, write_numbers}
use Rattle.promises.specs.Arguments.{first, second, third, fourth, fifth, sixth, seventh}
use Rattle.promises.specs.Ending.{Ends}
use Rattle.refusals.specs.Answered.{told}

pub record Entries : Type 0 where
  pub cts_entry : (κ : _) (a : _) (r : _) (x : _) → cts.Post κ a r x → Ends setting_numbers 0 0 (told r)
  pub cps_entry : (κ : _) (a : _) (r : _) (x : _) → cps.Post κ a r x → Ends setting_numbers 0 0 (told r)
  pub cpl_entry : (κ : _) (a : _) (r : _) (x : _) → cpl.Post κ a r x → Ends liquid_numbers 0 0 (told r)
  -- one run: the record is the one that the caller names
  pub work_out_entry : (κ : _) (a : _) (r : _) (x : _) → work-out.Post κ a r x → Ends run_numbers (fourth a) (fourth a) (told r)
  pub show_entry : (κ : _) (a : _) (r : _) (x : _) → show.Post κ a r x → Ends record_numbers 1 1 (told r)
  -- the job: records 1 to the count of those lent; a refusal leaves the buffer's bytes
  pub prove-entry : (κ : _) (a : _) (r : _) (x : _) → prove.Post κ a r x → Ends job_numbers 1 (runs_in (fifth a) (sixth a).now) (told r)
  pub prove-leaves : (κ : _) (a : _) (r : _) (x : _) {number at : ℕ} → prove.Post κ a r x → told r ≡ refused number at → (seventh x).now ≡ (seventh a).now
  -- '(The entry that hands run records back hands back none when it refuses, and no number.)'
  pub accept_hands_none : (κ : _) (a : _) (r : _) (x : _) {number at : ℕ} → accept.Post κ a r x → found_of (first a) (second a) (third a) (fourth a) (fifth a).now ≡ refused number at → r.now ≡ []
  -- records moved, from 1 to the count of those lent; a refusal leaves the buffer's bytes
  pub forward_entry : (κ : _) (a : _) (r : _) (x : _) → forward.Post κ a r x → Ends forward_numbers 1 (records_in (size_of Short) (first a).now) (told r)
  pub forward_leaves : (κ : _) (a : _) (r : _) (x : _) {number at : ℕ} → forward.Post κ a r x → told r ≡ refused number at → (second x).now ≡ (second a).now
  pub back_entry : (κ : _) (a : _) (r : _) (x : _) → back.Post κ a r x → Ends back_numbers 1 (records_in (size_of Long) (first a).now) (told r)
  pub back_leaves : (κ : _) (a : _) (r : _) (x : _) {number at : ℕ} → back.Post κ a r x → told r ≡ refused number at → (second x).now ≡ (second a).now
  pub write_entry : (κ : _) (a : _) (r : _) (x : _) → write.Post κ a r x → Ends write_numbers 0 0 (told r)
  pub write_leaves : (κ : _) (a : _) (r : _) (x : _) {number at : ℕ} → write.Post κ a r x → told r ≡ refused number at → (fifth x).now ≡ (fifth a).now
  pub read_entry : (κ : _) (a : _) (r : _) (x : _) → read.Post κ a r x → Ends read_numbers 0 0 (told r)
  pub fill_entry : (κ : _) (a : _) (r : _) (x : _) → fill.Post κ a r x → Ends fill_numbers 1 1 (told r)
  pub volumes_entry : (κ : _) (a : _) (r : _) (x : _) → volumes.Post κ a r x → Ends passes_numbers 1 (records_in 32 (third a).now) (told r)
  pub draw_entry : (κ : _) (a : _) (r : _) (x : _) → draw.Post κ a r x → Ends draw_numbers 1 (records_in 32 (third a).now) (told r)
  pub ticket_entry : (κ : _) (a : _) (r : _) (x : _) → ticket.Post κ a r x → Ends ticket_numbers 0 0 (told r)
  pub convert_entry : (κ : _) (a : _) (r : _) (x : _) → convert.Post κ a r x → Ends live_numbers 0 0 (told r)
  pub convert_channels_entry : (κ : _) (a : _) (r : _) (x : _) → convert-channels.Post κ a r x → Ends channel_numbers 0 0 (told r)
  pub show_temperature_entry : (κ : _) (a : _) (r : _) (x : _) → show-temperature.Post κ a r x → Ends panel_numbers 0 0 (told r)
  pub show_pressure_entry : (κ : _) (a : _) (r : _) (x : _) → show-pressure.Post κ a r x → Ends panel_numbers 0 0 (told r)
  -- the table's records, 1 to the count of those lent
  pub look_up_entry : (κ : _) (a : _) (r : _) (x : _) → look_up.Post κ a r x → Ends look_up_numbers 1 (records_in 8 (third a).now) (told r)
  -- the book: a refusal hands back the book that came in
  pub request_entry : (κ : _) (a : _) (r : _) (x : _) → request.Post κ a r x → Ends request_numbers 0 0 (told r.answer)
  pub request_leaves : (κ : _) (a : _) (r : _) (x : _) {number at : ℕ} → request.Post κ a r x → told r.answer ≡ refused number at → r.book ≡ first a
  pub withdraw_entry : (κ : _) (a : _) (r : _) (x : _) → withdraw.Post κ a r x → Ends withdrawal_numbers 0 0 (told r.answer)
  pub withdraw_leaves : (κ : _) (a : _) (r : _) (x : _) {number at : ℕ} → withdraw.Post κ a r x → told r.answer ≡ refused number at → r.book ≡ first a
  pub take_entry : (κ : _) (a : _) (r : _) (x : _) → take.Post κ a r x → Ends take_numbers 0 0 (told r.answer)
  pub take_leaves : (κ : _) (a : _) (r : _) (x : _) {number at : ℕ} → take.Post κ a r x → told r.answer ≡ refused number at → r.book ≡ first a
  pub set_figures_entry : (κ : _) (a : _) (r : _) (x : _) → set-figures.Post κ a r x → Ends agreement_numbers 0 0 (told r.answer)
  pub set_figures_leaves : (κ : _) (a : _) (r : _) (x : _) {number at : ℕ} → set-figures.Post κ a r x → told r.answer ≡ refused number at → r.book ≡ first a
  pub tell_commons_entry : (κ : _) (a : _) (r : _) (x : _) → tell-commons.Post κ a r x → Ends commons_numbers 0 0 (told r)
