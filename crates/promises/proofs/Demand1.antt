-- Demand 1: 'Hand any entry point any bytes and numbers, and it ends with either its result or one number from the table in document 01 ..,
-- with the record at fault where there is one. (The entry that hands run records back hands back none when it refuses, and no number.)
-- A refusal writes nothing into a lent buffer and hands the book of waiting requests back unchanged.'
-- Of the meanings that the contracts cite: `Ends numbers first last t` says that t is a result, or a refusal whose number is on the
-- entry's own list `numbers` and whose record is 0, or for a starred number one of the records from `first` to `last`.
use Rattle.std.specs.Prelude.{Option, None, Some}
use mathlib.Core.Path.{◌≡◌, refl, sym, ap, subst}
use mathlib.Core.Bool.{Bool, true, not, ◌&&◌}
use mathlib.Core.List.{List, [], ◌∷◌}
use Prim.Native.Nat.{ℕ, ◌+◌, ◌<◌}
use native.Mathlib.Omega.{arith}
use lib.Dec.{leb, ltb, eqb}
use lib.IntN.{ℤ}
use lib.Ieee.{Float}
use lib.ListN.{length}
use Rattle.refusals.specs.Told.{Told, done, refused, demand_at, left_by}
use Rattle.ranges.specs.Table.{temperature_ok, pressure_ok, k_factor_ok, limit_ok, volume_ok, run_factor_ok, fills_ok, entries_ok, moved_ok}
use Rattle.octets.specs.Records.{records_in, are_records}
use Rattle.ranges.specs.Within.{within}
use Rattle.ranges.proofs.Laws.{within_true}
use Rattle.factors.specs.Metal.{metal_ok}
use Rattle.factors.specs.Prover.{pipe_ok, prover_ok}
use Rattle.factors.specs.Liquid.{liquid_ok}
use Rattle.factors.specs.Answers.{cts_of, cps_of, cpl_of}
use Rattle.factors.specs.declared.Liquid.{Liquid}
use Rattle.factors.specs.declared.Metal.{Metal}
use Rattle.factors.specs.declared.Pipe.{Pipe}
use Rattle.factors.specs.declared.Prover.{Prover}
use Rattle.run.specs.Record.{size_of, run_at, run_ok, unnamed_ok}
use Rattle.run.specs.declared.Form.{Form}
use Rattle.run.specs.declared.Form.TheVariants.{Short, Long}
use Rattle.moving.specs.Judging.{buffer_ok, is_whole, move_fault, move_faults, move_of}
use Rattle.moving.proofs.Laws.{short_whole}
use Rattle.run.specs.Figures.{figures_of}
use Rattle.run.specs.Answers.{record_fault, given_fault, figures_fault, figures_told, worked_of, shown_of}
use Rattle.run.specs.declared.Run.{Run}
use Rattle.run.specs.declared.Figures.{Figures}
use Rattle.group.specs.Repeatability.{first_group}
use Rattle.report.specs.Record.{list_of}
use Rattle.report.specs.Judged.{job_ok, is_report, write_of, read_of}
use Rattle.report.specs.declared.Factors.{Factors}
use Rattle.proving.specs.Judging.{runs_in, size_ok, settings_fault, lent_fault, run_fault, input_fault}
use Rattle.proving.specs.Job.{first_five, report_at, found_of, job_of, accepted_by, accepted_of}
use Rattle.draw.specs.Fill.{fill_at, fill_ok, unnamed_ok as fill_unnamed_ok, rule_ok}
use Rattle.draw.specs.Passes.{pass_count}
use Rattle.draw.specs.Profile.{passes_fit, volumes_of}
use Rattle.draw.specs.Base.{base_of}
use Rattle.draw.specs.Answers.{record_fault as record_fault_of_fill, fill_fault, fills_fault, draw_fault, fill_of, count_of, draw_of}
use Rattle.draw.specs.declared.Profile.{Profile}
use Rattle.ticket.specs.Ranges.{ticket_ok}
use Rattle.ticket.specs.Answers.{ticket_of}
use Rattle.ticket.specs.declared.Ticket.{Ticket}
use Rattle.live.specs.Live.{whole_of, single_of, temperature_of, psi_ok, pressure_of, in_order, live_of}
use Rattle.live.specs.Channels.{celsius_of, temperature_channel_of, pressure_channel_of, channels_of}
use Rattle.live.specs.Panel.{panel_temperature_of, panel_pressure_of}
use Rattle.live.specs.declared.channels.Channel.{Channel}
use Rattle.live.specs.declared.channels.Channel.TheVariants.{Fahrenheit, Celsius, Pressure, Fault}
use Rattle.promises.proofs.SinglesJudged.{single_fault, live_judged}
use Rattle.lookup.specs.HalfDegree.{half_degree, half_degree_signed}
use Rattle.lookup.specs.Table.{record_ok as entry_is_ok, order_ok}
use Rattle.lookup.specs.Pair.{asked_ok, has_pair}
use Rattle.lookup.specs.Answers.{entry_fault as entry_fault_of_table, table_fault, record_found, found_in, look_up_of}
use Rattle.octets.specs.FirstToLast.{first_place}
use Rattle.octets.specs.Lists.{is_one_of}
use Rattle.book.specs.Figures.{shippers, ceiling, waiting_of, has, held}
use Rattle.book.specs.Rules.{keep_rules}
use Rattle.book.specs.Sound.{is_sound}
use Rattle.book.specs.Calls.{call_fault, has_room, entry_fault, request_fault, request_of, after_request, withdrawal_fault, withdrawal_of, after_withdrawal, next_turn, handed_out, take_of, after_take, setting_fault, setting_of, after_setting, commons_of}
use Rattle.book.specs.declared.Book.{Book}
use Rattle.book.specs.declared.Figures.{Figures as BookFigures}
use lib.Ieee.Scale.{finite}
use Rattle.promises.specs.Numbers.{setting_numbers, liquid_numbers, job_numbers, proving_numbers, record_numbers, run_numbers, forward_numbers, back_numbers, draw_numbers, passes_numbers, fill_numbers, ticket_numbers, live_numbers, channel_numbers, panel_numbers, look_up_numbers, request_numbers, withdrawal_numbers, take_numbers, agreement_numbers, commons_numbers, read_numbers, write_numbers}
use Rattle.promises.specs.Ending.{marked_of, record_ok, refusal_ok, Ends}
use Rattle.promises.proofs.Endings.{Finds, by_demand, by_demand_at, by_or_else, by_scan, by_unless, by_judged, by_nine, as_told}

-- ---- the factors: 3 for a metal or pipe, 5 for a temperature, pressure or F; no records are handed over

pub cts_ends : (d : ℕ) (metal : Metal) (t : ℤ) → Ends setting_numbers 0 0 (cts_of d metal t)
unfolding cts_of is_one_of marked_of record_ok refusal_ok
cts_ends d metal t = by_judged _ (by_or_else (by_demand (metal_ok metal) 3 refl) (by_demand (temperature_ok t) 5 refl))

pub cps_ends : (d : ℕ) (pipe : Pipe) (p : ℕ) → Ends setting_numbers 0 0 (cps_of d pipe p)
unfolding cps_of is_one_of marked_of record_ok refusal_ok
cps_ends d pipe p = by_judged _ (by_or_else (by_demand (pipe_ok pipe) 3 refl) (by_demand (pressure_ok p) 5 refl))

pub cpl_ends : (d : ℕ) (liquid : Liquid) → Ends liquid_numbers 0 0 (cpl_of d liquid)
unfolding cpl_of is_one_of marked_of record_ok refusal_ok
cpl_ends d liquid = by_judged _ (by_demand (liquid_ok liquid) 5 refl)

-- ---- one run: `at` is the record that the caller names; 'shown' takes one record, which is 1

own_figures : {numbers : List ℕ} {first last : ℕ} (f : Figures) (at : ℕ) → refusal_ok numbers first last 7 at ≡ true → refusal_ok numbers first last 8 at ≡ true → Finds numbers first last (figures_fault f at)
unfolding figures_fault
own_figures f at seven eight = by_or_else (by_demand_at (volume_ok f.indicated) 7 at seven) (by_demand_at (run_factor_ok f.factor) 8 at eight)

given_finds : {numbers : List ℕ} {first last : ℕ} (prover : Prover) (k : ℕ) (run : Run) (at : ℕ) → refusal_ok numbers first last 3 0 ≡ true → refusal_ok numbers first last 4 0 ≡ true → refusal_ok numbers first last 5 at ≡ true
    → Finds numbers first last (given_fault prover k run at)
unfolding given_fault
given_finds prover k run at three four five = by_or_else (by_demand (prover_ok prover) 3 three) (by_or_else (by_demand (k_factor_ok k) 4 four) (by_demand_at (run_ok run) 5 at five))

pub worked_ends : (prover : Prover) (k : ℕ) (run : Run) (at : ℕ) → Ends run_numbers at at (worked_of prover k run at)
unfolding worked_of figures_told is_one_of marked_of record_ok refusal_ok
worked_ends prover k run at =
    let same : within at at at ≡ true = within_true at at at (omega arith) (omega arith) in
    by_unless (given_finds prover k run at refl refl same) (by_judged _ (own_figures (figures_of prover k run) at same same))

pub shown_ends : (prover : Prover) (k : ℕ) (form : Form) (s : List ℕ) → Ends record_numbers 1 1 (shown_of prover k form s)
unfolding shown_of figures_told is_one_of marked_of record_ok refusal_ok
shown_ends prover k form s =
    by_unless
    (by_or_else (by_demand (eqb (length s) (size_of form)) 1 refl)
    (by_or_else (given_finds prover k (run_at form s 0) 1 refl refl refl)
    (by_demand_at (unnamed_ok form s 0) 2 1 refl)))
    (by_judged _ (own_figures (figures_of prover k (run_at form s 0)) 1 refl refl))

-- ---- a proving: 'For a job that writes a report: 14, request number zero (22), then 1, 3, 4; then records first to last, each with 5, 2;
-- then 7 and 8 run by run; then 9', with the record from 1 to the count of records

-- of n lent records: a number on the list that carries 0, and one that carries any of the records
abbrev Given : List ℕ → ℕ → ℕ → Type 0
Given numbers n number = refusal_ok numbers 1 n number 0 ≡ true

abbrev Carried : List ℕ → ℕ → ℕ → Type 0
Carried numbers n number = (i : ℕ) → i < n → refusal_ok numbers 1 n number (i + 1) ≡ true

-- what a proving finds, with or without a buffer and a request number
module _ {numbers : List ℕ} (prover : Prover) (k limit : ℕ) (form : Form) (s : List ℕ) where
  input_finds : Given numbers (runs_in form s) 1 → Given numbers (runs_in form s) 3 → Given numbers (runs_in form s) 4 → Carried numbers (runs_in form s) 5 → Carried numbers (runs_in form s) 2 → Carried numbers (runs_in form s) 7
      → Carried numbers (runs_in form s) 8 → Finds numbers 1 (runs_in form s) (input_fault prover k limit form s)
  unfolding input_fault settings_fault record_fault run_fault
  input_finds one three four five two seven eight =
      by_or_else (by_or_else (by_demand (size_ok form (length s)) 1 one) (by_or_else (by_demand (prover_ok prover) 3 three) (by_or_else (by_demand (k_factor_ok k) 4 four) (by_demand (limit_ok limit) 4 four))))
      (by_or_else
      (by_scan (lent_fault form s) (runs_in form s) 0 (λ i _ h. let b : i < runs_in form s = omega arith in by_or_else (by_demand_at (run_ok (run_at form s i)) 5 (i + 1) (five i b)) (by_demand_at (unnamed_ok form s i) 2 (i + 1) (two i b))))
      (by_scan (run_fault prover k form s) (runs_in form s) 0 (λ i _ h. let b : i < runs_in form s = omega arith in own_figures (figures_of prover k (run_at form s i)) (i + 1) (seven i b) (eight i b))))

-- a record of n, counted from 1
of_records : (n i : ℕ) → i < n → within 1 n (i + 1) ≡ true
of_records n i h = within_true 1 n (i + 1) (omega arith) (omega arith)

pub job_ends : (request : ℕ) (prover : Prover) (k limit : ℕ) (form : Form) (s : List ℕ) (size : ℕ) → Ends job_numbers 1 (runs_in form s) (job_of request prover k limit form s size)
unfolding job_of is_one_of marked_of record_ok refusal_ok
job_ends request prover k limit form s size =
    let of = of_records (runs_in form s) in
    by_unless (by_or_else (by_demand (eqb size 32) 14 refl) (by_demand (not (eqb request 0)) 22 refl))
    (by_unless (input_finds prover k limit form s refl refl refl of of of of) (by_nine (first_five prover k limit form s) (report_at request prover k form s) refl))

-- the entry that hands run records back, without buffer or request number
pub found_ends : (prover : Prover) (k limit : ℕ) (form : Form) (s : List ℕ) → Ends proving_numbers 1 (runs_in form s) (found_of prover k limit form s)
unfolding found_of is_one_of marked_of record_ok refusal_ok
found_ends prover k limit form s =
    let of = of_records (runs_in form s) in
    by_unless (input_finds prover k limit form s refl refl refl of of of of) (by_nine (first_five prover k limit form s) (λ at. at) refl)

-- '(The entry that hands run records back hands back none when it refuses, and no number.)'
pub none_when_refused : (prover : Prover) (k limit : ℕ) (form : Form) (s : List ℕ) {number at : ℕ} → found_of prover k limit form s ≡ refused number at → accepted_of prover k limit form s ≡ []
unfolding accepted_of
none_when_refused prover k limit form s is = ap (λ (t : Told ℕ). accepted_by (size_of form) t s) is

-- ---- the report: 'A report read: 14, 15. The report writer alone ..: 14, 22, 15.'

pub write_ends : (size number runs first : ℕ) (factors : Factors) → Ends write_numbers 0 0 (write_of size number runs first factors)
unfolding write_of is_one_of marked_of record_ok refusal_ok
write_ends size number runs first factors = by_judged _ (by_or_else (by_demand (eqb size 32) 14 refl) (by_or_else (by_demand (not (eqb number 0)) 22 refl) (by_demand (job_ok runs first (list_of factors)) 15 refl)))

pub read_ends : (s : List ℕ) → Ends read_numbers 0 0 (read_of s)
unfolding read_of is_one_of marked_of record_ok refusal_ok
read_ends s = by_judged _ (by_or_else (by_demand (eqb (length s) 32) 14 refl) (by_demand (is_report s) 15 refl))

-- ---- a water draw: 'drops 14, 22, 4'; 'records first to last, each with 5, 2, 6'; 1 for a count of passes that its profile has no use
-- for; then 9

record_finds : {numbers : List ℕ} {first last : ℕ} (s : List ℕ) (i : ℕ) → refusal_ok numbers first last 5 (i + 1) ≡ true → refusal_ok numbers first last 2 (i + 1) ≡ true → Finds numbers first last (record_fault_of_fill s i)
unfolding record_fault_of_fill
record_finds s i five two = by_or_else (by_demand_at (fill_ok (fill_at s i)) 5 (i + 1) five) (by_demand_at (fill_unnamed_ok s i) 2 (i + 1) two)

pub fill_ends : (metal : Metal) (s : List ℕ) → Ends fill_numbers 1 1 (fill_of metal s)
unfolding fill_of is_one_of marked_of record_ok refusal_ok
fill_ends metal s = by_judged _ (by_or_else (by_demand (eqb (length s) 32) 1 refl) (by_or_else (by_demand (metal_ok metal) 3 refl) (record_finds s 0 refl refl)))

draw_finds : {numbers : List ℕ} (profile : Profile) (prover : Prover) (s : List ℕ) → Given numbers (records_in 32 s) 1 → Given numbers (records_in 32 s) 3 → Carried numbers (records_in 32 s) 5
    → Carried numbers (records_in 32 s) 2 → Carried numbers (records_in 32 s) 6 → Finds numbers 1 (records_in 32 s) (draw_fault profile prover s)
unfolding draw_fault fills_fault fill_fault
draw_finds profile prover s one three five two six =
    by_or_else
    (by_or_else (by_demand (are_records fills_ok 32 (length s)) 1 one)
    (by_or_else (by_demand (metal_ok prover.metal && pipe_ok prover.pipe) 3 three)
    (by_scan (fill_fault s) (records_in 32 s) 0 (λ i _ h. let b : i < records_in 32 s = omega arith in by_or_else (record_finds s i (five i b) (two i b)) (by_demand_at (rule_ok s i) 6 (i + 1) (six i b))))))
    (by_demand (passes_fit profile (pass_count s)) 1 one)

pub volumes_end : (profile : Profile) (prover : Prover) (s : List ℕ) → Ends passes_numbers 1 (records_in 32 s) (count_of profile prover s)
unfolding count_of is_one_of marked_of record_ok refusal_ok
volumes_end profile prover s = by_judged _ (let of = of_records (records_in 32 s) in draw_finds profile prover s refl refl of of of)

pub draw_ends : (profile : Profile) (prover : Prover) (s : List ℕ) → Ends draw_numbers 1 (records_in 32 s) (draw_of profile prover s)
unfolding draw_of base_of is_one_of marked_of record_ok refusal_ok
draw_ends profile prover s =
    let of = of_records (records_in 32 s) in
    by_unless (draw_finds profile prover s refl refl of of of) (by_nine (first_group 2 3 (volumes_of profile prover s)) _ refl)

-- ---- 'A ticket: 10, 11.' A live reading: 12, 13. Two channels: 34, 35, 12, 13. The panel: 13.

pub ticket_ends : (t : Ticket) → Ends ticket_numbers 0 0 (ticket_of t)
unfolding ticket_of is_one_of marked_of record_ok refusal_ok
ticket_ends t = by_judged _ (by_or_else (by_demand (ticket_ok t) 10 refl) (by_demand (leb t.opening t.closing) 11 refl))

single_finds : {numbers : List ℕ} → refusal_ok numbers 0 0 12 0 ≡ true → refusal_ok numbers 0 0 13 0 ≡ true → (in_range : ℤ → Bool) (z : ℤ) (x : Float) → Finds numbers 0 0 (single_fault in_range z x)
single_finds twelve thirteen in_range z x = by_or_else (by_demand (finite x) 12 twelve) (by_demand (in_range z) 13 thirteen)

pub live_ends : (temperature pressure : Float) → Ends live_numbers 0 0 (live_of temperature pressure)
unfolding is_one_of marked_of record_ok refusal_ok
live_ends temperature pressure =
    as_told (live_judged temperature pressure)
    (by_judged _ (by_or_else (single_finds refl refl temperature_ok (whole_of 0 10 temperature) temperature) (single_finds refl refl psi_ok (whole_of 0 1 pressure) pressure)))

carried_ends : (in_range : ℤ → Bool) (o k : ℕ) (x : Float) → Ends channel_numbers 0 0 (single_of in_range o k x)
unfolding single_of is_one_of marked_of record_ok refusal_ok
carried_ends in_range o k x = by_judged _ (single_finds refl refl in_range (whole_of o k x) x)

temperature_channel_ends : (channel : Channel) → Ends channel_numbers 0 0 (temperature_channel_of channel)
unfolding temperature_channel_of temperature_of celsius_of is_one_of marked_of record_ok refusal_ok
temperature_channel_ends (Fahrenheit x) = carried_ends temperature_ok 0 10 x
temperature_channel_ends (Celsius x) = carried_ends temperature_ok 320 18 x
temperature_channel_ends (Pressure x) = record { gives = refl }
temperature_channel_ends (Fault code) = record { gives = refl }

pressure_channel_ends : (channel : Channel) → Ends channel_numbers 0 0 (pressure_channel_of channel)
unfolding pressure_channel_of pressure_of is_one_of marked_of record_ok refusal_ok
pressure_channel_ends (Fahrenheit x) = record { gives = refl }
pressure_channel_ends (Celsius x) = record { gives = refl }
pressure_channel_ends (Pressure x) = carried_ends psi_ok 0 1 x
pressure_channel_ends (Fault code) = record { gives = refl }

in-order-ends : (temperature pressure : Told ℤ) → Ends channel_numbers 0 0 temperature → Ends channel_numbers 0 0 pressure → Ends channel_numbers 0 0 (in_order temperature pressure)
in-order-ends (refused number at) pressure here next = record { gives = here.gives }
in-order-ends (done tenths) (refused number at) here next = record { gives = next.gives }
in-order-ends (done tenths) (done psi) here next = record { gives = tt }

pub channels_end : (temperature pressure : Channel) → Ends channel_numbers 0 0 (channels_of temperature pressure)
unfolding channels_of
channels_end temperature pressure =
    in-order-ends (temperature_channel_of temperature) (pressure_channel_of pressure) (temperature_channel_ends temperature) (pressure_channel_ends pressure)

pub panel_temperature_ends : (tenths : ℤ) → Ends panel_numbers 0 0 (panel_temperature_of tenths)
unfolding panel_temperature_of is_one_of marked_of record_ok refusal_ok
panel_temperature_ends tenths = by_judged _ (by_demand (temperature_ok tenths) 13 refl)

pub panel_pressure_ends : (psi : ℕ) → Ends panel_numbers 0 0 (panel_pressure_of psi)
unfolding panel_pressure_of is_one_of marked_of record_ok refusal_ok
panel_pressure_ends psi = by_judged _ (by_demand (pressure_ok psi) 13 refl)

-- ---- records moved: '14, first of all', 1, and then record by record 5, 2 and, on the way back, 36

module _ {numbers : List ℕ} (form : Form) (s : List ℕ) (size : ℕ) where
  moves_find : Given numbers (records_in (size_of form) s) 14 → Given numbers (records_in (size_of form) s) 1 → Carried numbers (records_in (size_of form) s) 5 → Carried numbers (records_in (size_of form) s) 2
      → ((i : ℕ) → i < records_in (size_of form) s → Finds numbers 1 (records_in (size_of form) s) (demand_at (is_whole (run_at form s i).pulses) 36 (i + 1))) → Finds numbers 1 (records_in (size_of form) s) (move_faults form s size)
  unfolding move_faults move_fault record_fault
  moves_find fourteen one five two whole =
      by_or_else (by_demand (buffer_ok form (length s) size) 14 fourteen)
      (by_or_else (by_demand (are_records moved_ok (size_of form) (length s)) 1 one)
      (by_scan (move_fault form s) (records_in (size_of form) s) 0 (λ i _ h.
      let b : i < records_in (size_of form) s = omega arith in
      by_or_else (by_or_else (by_demand_at (run_ok (run_at form s i)) 5 (i + 1) (five i b)) (by_demand_at (unnamed_ok form s i) 2 (i + 1) (two i b))) (whole i b))))

pub forward_ends : (s : List ℕ) (size : ℕ) → Ends forward_numbers 1 (records_in (size_of Short) s) (move_of Short s size)
unfolding move_of is_one_of marked_of record_ok refusal_ok
forward_ends s size =
    let of = of_records (records_in (size_of Short) s) in
    by_judged _ (moves_find Short s size refl refl of of (λ i h. subst (λ (b : Bool). Finds forward_numbers 1 (records_in (size_of Short) s) (demand_at b 36 (i + 1))) (sym (short_whole s i)) (record { number = tt })))

pub back_ends : (s : List ℕ) (size : ℕ) → Ends back_numbers 1 (records_in (size_of Long) s) (move_of Long s size)
unfolding move_of is_one_of marked_of record_ok refusal_ok
back_ends s size =
    let of = of_records (records_in (size_of Long) s) in
    by_judged _ (moves_find Long s size refl refl of of (λ i h. by_demand_at (is_whole (run_at Long s i).pulses) 36 (i + 1) (of i h)))

-- ---- a look-up: 1, the records with 32, 13, 33

place_ends : (s : List ℕ) (o : Option ℕ) → Ends look_up_numbers 1 (records_in 8 s) (record_found s o)
unfolding is_one_of marked_of record_ok refusal_ok
place_ends s None = record { gives = refl }
place_ends s (Some i) = record { gives = tt }

pub look_up_ends : (t : ℤ) (g : ℕ) (s : List ℕ) → Ends look_up_numbers 1 (records_in 8 s) (look_up_of t g s)
unfolding look_up_of found_in table_fault entry_fault_of_table is_one_of marked_of record_ok refusal_ok
look_up_ends t g s =
    let of = of_records (records_in 8 s) in
    by_unless
    (by_or_else (by_or_else (by_demand (are_records entries_ok 8 (length s)) 1 refl) (by_scan (entry_fault_of_table s) (records_in 8 s) 0 (λ i _ h. by_demand_at (entry_is_ok s i && order_ok s i) 32 (i + 1) (of i (omega arith)))))
    (by_demand (asked_ok t g) 13 refl))
    (place_ends s (first_place (has_pair s (half_degree_signed t) (half_degree g)) (records_in 8 s) 0))

-- ---- 'A book call, lowest number first: a request 20 to 25; a withdrawal 20, 21, 22, 26; a take 20, 27.'

-- what the two calls that name a shipper and a number share, on any list that begins so
call_finds : (book : Book) (shipper number : ℕ) (more : List ℕ) → Finds (20 ∷ 21 ∷ 22 ∷ more) 0 0 (call_fault book shipper number)
unfolding call_fault is_one_of marked_of record_ok refusal_ok
call_finds book shipper number more =
    by_or_else (by_demand (is_sound book) 20 refl) (by_or_else (by_demand (ltb shipper shippers) 21 refl) (by_demand (not (eqb number 0)) 22 refl))

pub request_ends : (book : Book) (shipper number : ℕ) → Ends request_numbers 0 0 (request_of book shipper number)
unfolding request_of request_fault entry_fault is_one_of marked_of record_ok refusal_ok
request_ends book shipper number =
    by_judged _
    (by_or_else (call_finds book shipper number (23 ∷ 24 ∷ 25 ∷ []))
    (by_or_else (by_demand (not (is_one_of number (waiting_of book shipper))) 23 refl)
    (by_or_else (by_demand (ltb (has book shipper) (ceiling book shipper)) 24 refl) (by_demand (has_room book shipper) 25 refl))))

pub withdrawal_ends : (book : Book) (shipper number : ℕ) → Ends withdrawal_numbers 0 0 (withdrawal_of book shipper number)
unfolding withdrawal_of withdrawal_fault is_one_of marked_of record_ok refusal_ok
withdrawal_ends book shipper number =
    by_judged _ (by_or_else (call_finds book shipper number (26 ∷ [])) (by_demand (is_one_of number (waiting_of book shipper)) 26 refl))

handed_ends : (book : Book) (next : Option ℕ) → Ends take_numbers 0 0 (handed_out book next)
unfolding handed_out is_one_of marked_of record_ok refusal_ok
handed_ends book None = record { gives = refl }
handed_ends book (Some turn) = record { gives = tt }

pub take_ends : (book : Book) → Ends take_numbers 0 0 (take_of book)
unfolding take_of is_one_of marked_of record_ok refusal_ok
take_ends book = by_unless (by_demand (is_sound book) 20 refl) (handed_ends book (next_turn book))

-- 02: '30 for setting a book that isn't empty, 31 for figures outside the rules, after 20'
pub setting_ends : (book : Book) (figures : BookFigures) → Ends agreement_numbers 0 0 (setting_of book figures)
unfolding setting_of setting_fault is_one_of marked_of record_ok refusal_ok
setting_ends book figures =
    by_judged _ (by_or_else (by_demand (is_sound book) 20 refl) (by_or_else (by_demand (eqb (held book) 0) 30 refl) (by_demand (keep_rules figures) 31 refl)))

pub commons_end : (book : Book) → Ends commons_numbers 0 0 (commons_of book)
unfolding commons_of is_one_of marked_of record_ok refusal_ok
commons_end book = by_judged _ (by_demand (is_sound book) 20 refl)

-- ---- 'A refusal writes nothing into a lent buffer': `left_by t found` is the buffer that the writer and the job leave where they tell t

pub left_as_found : {A B : Type 0} {t : Told A} {number at : ℕ} (leaves : A → B) (found : B) → t ≡ refused number at → left_by t leaves found ≡ found
left_as_found {A} leaves found is = ap (λ (t : Told A). left_by t leaves found) is

-- 'and hands the book of waiting requests back unchanged'

pub request_leaves_book : (book : Book) (shipper x : ℕ) {number at : ℕ} → request_of book shipper x ≡ refused number at → after_request book shipper x ≡ book
unfolding after_request
request_leaves_book book shipper x is = left_as_found _ book is

pub withdrawal_leaves_book : (book : Book) (shipper x : ℕ) {number at : ℕ} → withdrawal_of book shipper x ≡ refused number at → after_withdrawal book shipper x ≡ book
unfolding after_withdrawal
withdrawal_leaves_book book shipper x is = left_as_found _ book is

pub take_leaves_book : (book : Book) {number at : ℕ} → take_of book ≡ refused number at → after_take book ≡ book
unfolding after_take
take_leaves_book book is = left_as_found _ book is

pub setting_leaves_book : (book : Book) (figures : BookFigures) {number at : ℕ} → setting_of book figures ≡ refused number at → after_setting book figures ≡ book
unfolding after_setting
setting_leaves_book book figures is = left_as_found _ book is
