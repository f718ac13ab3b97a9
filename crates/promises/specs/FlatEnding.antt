-- Demand 1 for C: 'it ends with either its result or one number from the table in document 01 .., with the record at fault where there is
-- one.' An answer is one struct there: the number, the record at fault (`at`) and the values.
use Rattle.std.specs.Prelude.{◌≡◌, List, ℕ, zero, suc, Float, Result, Ok, Err}
use Rattle.refusals.specs.Told.{Told, done, refused}
use Rattle.report.specs.declared.Report.{Report}
use Rattle.run.specs.declared.Figures.{Figures}
use Rattle.draw.specs.declared.FillFigures.{FillFigures}
use Rattle.draw.specs.declared.BaseVolume.{BaseVolume}
use Rattle.ticket.specs.declared.Volumes.{Volumes}
use Rattle.live.specs.declared.Values.{Values}
use Rattle.lookup.specs.declared.Entry.{Entry}
use Rattle.book.specs.declared.Handed.{Handed}
use Rattle.book.specs.declared.Shared.{Shared}
use Rattle.api.specs.declared.corrections.EndakuroFactor.{EndakuroFactor}
use Rattle.api.specs.declared.reports.EndakuroReport.{EndakuroReport}
use Rattle.api.specs.declared.jobs.EndakuroRun.{EndakuroRun}
use Rattle.api.specs.declared.water.EndakuroFill.{EndakuroFill}
use Rattle.api.specs.declared.water.EndakuroPasses.{EndakuroPasses}
use Rattle.api.specs.declared.water.EndakuroDraw.{EndakuroDraw}
use Rattle.api.specs.declared.tickets.EndakuroVolumes.{EndakuroVolumes}
use Rattle.api.specs.declared.readings.EndakuroLive.{EndakuroLive}
use Rattle.api.specs.declared.panel.EndakuroPanel.{EndakuroPanel}
use Rattle.api.specs.declared.lookups.EndakuroEntry.{EndakuroEntry}
use Rattle.api.specs.declared.moves.EndakuroMoved.{EndakuroMoved}
use Rattle.api.specs.declared.books.EndakuroDone.{EndakuroDone}
use Rattle.api.specs.declared.books.EndakuroTaken.{EndakuroTaken}
use Rattle.api.specs.declared.books.EndakuroCommons.{EndakuroCommons}
use Rattle.promises.specs.Ending.{Ends}
use Rattle.exact.specs.declared.QuotientError.TheVariants.{ZeroDivisor, TooLarge}
use Rattle.exact.specs.declared.QuotientError.{QuotientError}

pub record Flat (A : Type 0) : Type 0 where
  pub number : ℕ
  pub at : ℕ
  pub values : A

-- as a caller reads it: number 0 is done, with the values; any other number is a refusal, with its record
abbrev pub by_number : {A : Type 0} → ℕ → ℕ → A → Told A
by_number zero at values = done values
by_number (suc n) at values = refused (suc n) at

abbrev pub told_in : {A : Type 0} → Flat A → Told A
told_in f = by_number f.number f.at f.values

-- What an answer of the C face comes to, `meaning` being what the library's own function tells of the same arguments.
pub record FlatEnds {A : Type 0} (numbers : List ℕ) (first last : ℕ) (zeros : A) (f : Flat A) (meaning : Told A) : Type 0 where
  -- it is done, or its number is on the entry's list and its record as the table has it
  pub ends : Ends numbers first last (told_in f)
  -- done with the values of the meaning, or refused with its number and record
  pub means : told_in f ≡ meaning
  -- beside number 0 the record is 0, and beside any other every value is 0
  pub no_record : f.number ≡ 0 → f.at ≡ 0
  pub no_values : (f.number ≡ 0 → ⊥) → f.values ≡ zeros

-- 'A refusal writes nothing into a lent buffer and hands the book of waiting requests back unchanged.'
abbrev pub LeavesAsFound : {A B : Type 0} → Flat A → B → B → Type 0
LeavesAsFound f left found = (f.number ≡ 0 → ⊥) → left ≡ found

-- each struct so read
abbrev pub factor_in : EndakuroFactor → Flat ℕ
factor_in f = record { number = f.number; at = f.at; values = f.value }

abbrev pub report_in : EndakuroReport → Flat Report
report_in f =
    record {
      number = f.number;
      at = f.at;
      values = record { number = f.request; factor = f.factor; first = f.first; runs = f.runs; factors = record { one = f.f1; two = f.f2; three = f.f3; four = f.f4; five = f.f5 } };
    }

abbrev pub figures_in : EndakuroRun → Figures
figures_in f =
    record {
      indicated = f.indicated;
      cts = f.cts;
      cps = f.cps;
      prover = record { cpl = f.provercpl; factor = f.proverfactor; volume = f.provervolume };
      meter = record { cpl = f.metercpl; factor = f.meterproduct; volume = f.metervolume };
      factor = f.factor;
    }

abbrev pub run_in : EndakuroRun → Flat Figures
run_in f = record { number = f.number; at = f.at; values = figures_in f }

abbrev pub fill_in : EndakuroFill → Flat FillFigures
fill_in f = record { number = f.number; at = f.at; values = record { adjusted = f.adjusted; measure = f.measure; prover = f.prover; ccts = f.ccts; drawn = f.drawn } }

-- the count; the volumes stand beside it
abbrev pub passes_in : EndakuroPasses → Flat ℕ
passes_in f = record { number = f.number; at = f.at; values = f.count }

abbrev pub base_in : EndakuroDraw → Flat BaseVolume
base_in f = record { number = f.number; at = f.at; values = record { base = f.base; barrels = f.barrels; first = f.first } }

abbrev pub volumes_in : EndakuroVolumes → Flat Volumes
volumes_in f = record { number = f.number; at = f.at; values = record { factor = f.factor; gross = f.gross; net = f.net } }

abbrev pub reading_in : EndakuroLive → Flat Values
reading_in f = record { number = f.number; at = f.at; values = record { tenths = f.tenths; psi = f.psi } }

abbrev pub shown_in : EndakuroPanel → Flat Float
shown_in f = record { number = f.number; at = f.at; values = f.shown }

abbrev pub entry_in : EndakuroEntry → Flat Entry
entry_in f = record { number = f.number; at = f.at; values = record { temperature = f.temperature; gravity = f.gravity; compressibility = f.compressibility } }

abbrev pub moved_in : EndakuroMoved → Flat ℕ
moved_in f = record { number = f.number; at = f.at; values = f.count }

abbrev pub change_in : EndakuroDone → Flat Unit
change_in f = record { number = f.number; at = f.at; values = tt }

abbrev pub handout_in : EndakuroTaken → Flat Handed
handout_in f = record { number = f.number; at = f.at; values = record { shipper = f.shipper; number = f.request } }

abbrev pub commons_in : EndakuroCommons → Flat Shared
commons_in f = record { number = f.number; at = f.at; values = record { commons = f.commons; used = f.used } }

-- a rounded quotient, which has a kind and no number
abbrev pub by_kind : ℕ → ℕ → Result ℕ QuotientError
by_kind zero value = Ok value
by_kind (suc zero) value = (Err ZeroDivisor)
by_kind (suc (suc n)) value = (Err TooLarge)
