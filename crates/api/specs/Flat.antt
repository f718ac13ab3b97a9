-- Each answer as one plain struct: number 0 and record 0 (`at`) with the values when done; the paper's number and record, and all values
-- zero, when refused.
use Rattle.std.specs.Prelude.{false, List, ℕ, ◌*◌, pos, Float, Result, Ok, Err}
use Rattle.std.specs.Float.{fin}
use Rattle.refusals.specs.Told.{Told, done, refused}
use Rattle.report.specs.declared.Report.{Report}
use Rattle.run.specs.Record.{size_of}
use Rattle.run.specs.declared.Corrected.{Corrected}
use Rattle.run.specs.declared.Figures.{Figures}
use Rattle.run.specs.declared.Form.{Form}
use Rattle.draw.specs.declared.FillFigures.{FillFigures}
use Rattle.draw.specs.declared.BaseVolume.{BaseVolume}
use Rattle.ticket.specs.declared.Volumes.{Volumes}
use Rattle.live.specs.declared.Values.{Values}
use Rattle.lookup.specs.declared.Entry.{Entry}
use Rattle.book.specs.declared.Handed.{Handed}
use Rattle.book.specs.declared.Shared.{Shared}
use Rattle.api.specs.declared.corrections.EndakuroFactor.{EndakuroFactor}
use Rattle.api.specs.declared.quotients.EndakuroQuotient.{EndakuroQuotient}
use Rattle.api.specs.declared.reports.EndakuroReport.{EndakuroReport}
use Rattle.api.specs.declared.jobs.EndakuroPart.{EndakuroPart}
use Rattle.api.specs.declared.jobs.EndakuroRun.{EndakuroRun}
use Rattle.api.specs.declared.water.EndakuroFill.{EndakuroFill}
use Rattle.api.specs.declared.water.EndakuroPasses.{EndakuroPasses}
use Rattle.api.specs.declared.water.EndakuroDraw.{EndakuroDraw}
use Rattle.api.specs.declared.tickets.EndakuroVolumes.{EndakuroVolumes}
use Rattle.api.specs.declared.readings.EndakuroLive.{EndakuroLive}
use Rattle.api.specs.declared.panel.EndakuroPanel.{EndakuroPanel}
use Rattle.api.specs.declared.lookups.EndakuroEntry.{EndakuroEntry}
use Rattle.api.specs.declared.moves.EndakuroMoved.{EndakuroMoved}
use Rattle.api.specs.declared.books.EndakuroDone.{EndakuroDone}
use Rattle.api.specs.declared.books.EndakuroTaken.{EndakuroTaken}
use Rattle.api.specs.declared.books.EndakuroCommons.{EndakuroCommons}
use Rattle.exact.specs.declared.QuotientError.TheVariants.{ZeroDivisor, TooLarge}
use Rattle.exact.specs.declared.QuotientError.{QuotientError}

-- the paper's number; 0 when done
abbrev pub number_in : {A : Type 0} → Told A → ℕ
number_in (done values) = 0
number_in (refused number at) = number

-- the record at fault; 0 when done, and where the table carries none
abbrev pub record_in : {A : Type 0} → Told A → ℕ
record_in (done values) = 0
record_in (refused number at) = at

-- the values when done, and zeros when refused
abbrev pub values_in : {A : Type 0} → A → Told A → A
values_in zeros (done values) = values
values_in zeros (refused number at) = zeros

-- a correction factor
abbrev pub factor_with : ℕ → ℕ → ℕ → EndakuroFactor
factor_with number at value = record { number = number; at = at; value = value }

unfoldable pub flat_factor : Told ℕ → EndakuroFactor
flat_factor t = factor_with (number_in t) (record_in t) (values_in 0 t)

-- a report, of a job or read back
abbrev pub no_report : Report
no_report =
    record { number = 0; factor = 0; first = 0; runs = 0; factors = record { one = 0; two = 0; three = 0; four = 0; five = 0 } }

abbrev pub report_with : ℕ → ℕ → Report → EndakuroReport
report_with number at r =
    record {
      number = number;
      at = at;
      request = r.number;
      factor = r.factor;
      first = r.first;
      runs = r.runs;
      f1 = r.factors.one;
      f2 = r.factors.two;
      f3 = r.factors.three;
      f4 = r.factors.four;
      f5 = r.factors.five;
    }

unfoldable pub flat_report : Told Report → EndakuroReport
flat_report t = report_with (number_in t) (record_in t) (values_in no_report t)

-- 'the five accepted run records .. as a part of the lent records': five records from the place that was found; none on refusal
abbrev pub part_of : Form → Told ℕ → EndakuroPart
part_of form (done at) = record { start = size_of form * at; length = 5 * size_of form }
part_of form (refused number at) = record { start = 0; length = 0 }

-- one run's figures
abbrev pub no_volume : Corrected
no_volume = record { cpl = 0; factor = 0; volume = 0 }

abbrev pub no_figures : Figures
no_figures = record { indicated = 0; cts = 0; cps = 0; prover = no_volume; meter = no_volume; factor = 0 }

abbrev pub run_with : ℕ → ℕ → Figures → EndakuroRun
run_with number at figures =
    record {
      number = number;
      at = at;
      indicated = figures.indicated;
      cts = figures.cts;
      cps = figures.cps;
      provercpl = figures.prover.cpl;
      proverfactor = figures.prover.factor;
      metercpl = figures.meter.cpl;
      meterproduct = figures.meter.factor;
      provervolume = figures.prover.volume;
      metervolume = figures.meter.volume;
      factor = figures.factor;
    }

unfoldable pub flat_run : Told Figures → EndakuroRun
flat_run t = run_with (number_in t) (record_in t) (values_in no_figures t)

-- one fill's figures
abbrev pub no_fill : FillFigures
no_fill = record { adjusted = 0; measure = 0; prover = 0; ccts = 0; drawn = 0 }

abbrev pub fill_with : ℕ → ℕ → FillFigures → EndakuroFill
fill_with number at figures =
    record {
      number = number;
      at = at;
      adjusted = figures.adjusted;
      measure = figures.measure;
      prover = figures.prover;
      ccts = figures.ccts;
      drawn = figures.drawn;
    }

unfoldable pub flat_fill : Told FillFigures → EndakuroFill
flat_fill t = fill_with (number_in t) (record_in t) (values_in no_fill t)

-- the count of passes or of round trips, and their volumes, which are all zero on refusal
abbrev pub passes_with : ℕ → ℕ → ℕ → List ℕ → EndakuroPasses
passes_with number at count volumes = record { number = number; at = at; count = count; volumes = volumes }

unfoldable pub flat_passes : Told ℕ → List ℕ → EndakuroPasses
flat_passes t volumes = passes_with (number_in t) (record_in t) (values_in 0 t) volumes

-- the base volume
abbrev pub no_base : BaseVolume
no_base = record { base = 0; barrels = 0; first = 0 }

abbrev pub draw_with : ℕ → ℕ → BaseVolume → EndakuroDraw
draw_with number at b = record { number = number; at = at; base = b.base; barrels = b.barrels; first = b.first }

unfoldable pub flat_draw : Told BaseVolume → EndakuroDraw
flat_draw t = draw_with (number_in t) (record_in t) (values_in no_base t)

-- a ticket's volumes
abbrev pub no_volumes : Volumes
no_volumes = record { factor = 0; gross = 0; net = 0 }

abbrev pub volumes_with : ℕ → ℕ → Volumes → EndakuroVolumes
volumes_with number at v = record { number = number; at = at; factor = v.factor; gross = v.gross; net = v.net }

unfoldable pub flat_volumes : Told Volumes → EndakuroVolumes
flat_volumes t = volumes_with (number_in t) (record_in t) (values_in no_volumes t)

-- a live reading
abbrev pub no_reading : Values
no_reading = record { tenths = pos 0; psi = 0 }

abbrev pub live_with : ℕ → ℕ → Values → EndakuroLive
live_with number at v = record { number = number; at = at; tenths = v.tenths; psi = v.psi }

unfoldable pub flat_live : Told Values → EndakuroLive
flat_live t = live_with (number_in t) (record_in t) (values_in no_reading t)

-- what the panel shows
abbrev pub nothing_shown : Float
nothing_shown = fin false 0 (pos 0)

abbrev pub panel_with : ℕ → ℕ → Float → EndakuroPanel
panel_with number at x = record { number = number; at = at; shown = x }

unfoldable pub flat_panel : Told Float → EndakuroPanel
flat_panel t = panel_with (number_in t) (record_in t) (values_in nothing_shown t)

-- the record found in a table
abbrev pub no_entry : Entry
no_entry = record { temperature = pos 0; gravity = 0; compressibility = 0 }

abbrev pub entry_with : ℕ → ℕ → Entry → EndakuroEntry
entry_with number at e = record { number = number; at = at; temperature = e.temperature; gravity = e.gravity; compressibility = e.compressibility }

unfoldable pub flat_entry : Told Entry → EndakuroEntry
flat_entry t = entry_with (number_in t) (record_in t) (values_in no_entry t)

-- how many records were moved
abbrev pub moved_with : ℕ → ℕ → ℕ → EndakuroMoved
moved_with number at count = record { number = number; at = at; count = count }

unfoldable pub flat_moved : Told ℕ → EndakuroMoved
flat_moved t = moved_with (number_in t) (record_in t) (values_in 0 t)

-- a request or a withdrawal: nothing but the number and the record
unfoldable pub flat_done : Told Unit → EndakuroDone
flat_done t = record { number = number_in t; at = record_in t }

-- what a take hands out
abbrev pub no_handout : Handed
no_handout = record { shipper = 0; number = 0 }

abbrev pub taken_with : ℕ → ℕ → Handed → EndakuroTaken
taken_with number at h = record { number = number; at = at; request = h.number; shipper = h.shipper }

unfoldable pub flat_taken : Told Handed → EndakuroTaken
flat_taken t = taken_with (number_in t) (record_in t) (values_in no_handout t)

-- the shared places, and how many are used
abbrev pub no_commons : Shared
no_commons = record { commons = 0; used = 0 }

abbrev pub commons_with : ℕ → ℕ → Shared → EndakuroCommons
commons_with number at s = record { number = number; at = at; commons = s.commons; used = s.used }

unfoldable pub flat_commons : Told Shared → EndakuroCommons
flat_commons t = commons_with (number_in t) (record_in t) (values_in no_commons t)

-- a rounded quotient, or why there is none; the paper has no number for these
abbrev pub flat_quotient : Result ℕ QuotientError → EndakuroQuotient
flat_quotient (Ok q) = record { value = q; kind = 0 }
flat_quotient (Err ZeroDivisor) = record { value = 0; kind = 1 }
flat_quotient (Err TooLarge) = record { value = 0; kind = 2 }
