-- 02, 'Liquids that boil': Pe is 'zero for liquids that don't boil at line conditions'. 01 knows no others: there CPL is measured from zero
-- gage, and a run's record has no name for its bytes 20 to 31. Here stand 01's own definitions, each under today's name with 01 behind it.
-- Where each Pe is 0 they are today's, so that every record and ticket that 01 accepts is answered as 01 answers it.
use Rattle.std.specs.Prelude.{◌≡◌, Bool, true, ◌&&◌, not, List, [], ◌∷◌, ℕ, ◌+◌, ◌-◌, ◌*◌, leb, eqb, length}
use Rattle.refusals.specs.Told.{Told, done, Fault, demand, demand_at, or_else, unless, judged}
use Rattle.ranges.specs.Table.{temperature_ok, pressure_ok, compressibility_ok, ctl_ok, pulses_ok, reading_ok, meter_factor_ok, sediment_ok}
use Rattle.exact.specs.Rounding.{Fraction, ◌over◌, rounded, rounded_div}
use Rattle.octets.specs.Octets.{zero_between}
use Rattle.octets.specs.FirstToLast.{scan}
use Rattle.group.specs.Listed.{listed}
use Rattle.group.specs.Repeatability.{first_group, nine_unless}
use Rattle.factors.specs.Liquid.{liquid_ok, cpl_from}
use Rattle.factors.specs.Rounded.{combined_at}
use Rattle.factors.specs.Answers.{cpl_of}
use Rattle.factors.specs.declared.Liquid.{Liquid}
use Rattle.factors.specs.declared.Prover.{Prover}
use Rattle.run.specs.Record.{size_of, run_at, run_ok, unnamed_ok}
use Rattle.run.specs.declared.Form.TheVariants.{Short}
use Rattle.run.specs.Figures.{indicated, steel_cts, steel_cps, corrected_by, figures_of}
use Rattle.run.specs.Answers.{figures_fault}
use Rattle.run.specs.declared.Side.{Side}
use Rattle.run.specs.declared.Run.{Run}
use Rattle.run.specs.declared.Corrected.{Corrected}
use Rattle.run.specs.declared.Figures.{Figures}
use Rattle.report.specs.Judged.{report_of}
use Rattle.report.specs.declared.Report.{Report}
use Rattle.proving.specs.Judging.{runs_in, settings_fault}
use Rattle.proving.specs.Job.{five_at, job_of, accepted_by, accepted_of}
use Rattle.ticket.specs.Formulas.{indicated as measured}
use Rattle.ticket.specs.Answers.{ticket_of}
use Rattle.ticket.specs.declared.Ticket.{Ticket}
use Rattle.ticket.specs.declared.Volumes.{Volumes}
use Rattle.promises.specs.Records.{Every}

-- 'CPL = 1 / (1 - F × P), .. P gage', of a liquid whose P and F are in range
unfoldable pub cpl01 : Liquid → Fraction
cpl01 liquid = 100000000 over 100000000 - liquid.compressibility * liquid.pressure

unfoldable pub liquid_ok01 : Liquid → Bool
liquid_ok01 liquid = pressure_ok liquid.pressure && compressibility_ok liquid.compressibility

unfoldable pub cpl_at01 : ℕ → Liquid → ℕ
cpl_at01 d liquid = rounded d (cpl01 liquid)

-- 'Run: 0 pulses (4), .. 18 meter F (2 each)', and 'bytes not named are zero'. A run's pulses are held in thousandths: that those of 01's record are
-- judged and divided as 01 has it is LongRuns.antt's
unfoldable pub side_ok01 : Side → Bool
side_ok01 side = temperature_ok side.temperature && (ctl_ok side.ctl && liquid_ok01 side.liquid)

unfoldable pub run_ok01 : Run → Bool
run_ok01 run = pulses_ok run.pulses && (side_ok01 run.prover && side_ok01 run.meter)

unfoldable pub unnamed_ok01 : List ℕ → ℕ → Bool
unnamed_ok01 s i = zero_between s (32 * i + 20) (32 * i + 32)

-- 'Proving, by pipe prover', 1. to 4.
unfoldable pub at_prover01 : Prover → Run → Corrected
at_prover01 prover run =
    corrected_by prover.base (cpl_at01 4 run.prover.liquid)
    (steel_cts prover run ∷ steel_cps prover run ∷ run.prover.ctl ∷ cpl_at01 4 run.prover.liquid ∷ [])

unfoldable pub at_meter01 : ℕ → Run → Corrected
at_meter01 volume run = corrected_by volume (cpl_at01 4 run.meter.liquid) (run.meter.ctl ∷ cpl_at01 4 run.meter.liquid ∷ [])

unfoldable pub figures01 : Prover → ℕ → Run → Figures
figures01 prover k run =
    record {
      indicated = indicated run.pulses k;
      cts = steel_cts prover run;
      cps = steel_cps prover run;
      prover = at_prover01 prover run;
      meter = at_meter01 (indicated run.pulses k) run;
      factor = rounded 4 ((at_prover01 prover run).volume over (at_meter01 (indicated run.pulses k) run).volume);
    }

-- '.. then records first to last, each with 5, 2; then 7 and 8 run by run; then 9'
unfoldable pub record_fault01 : List ℕ → ℕ → Fault
record_fault01 s i = or_else (demand_at (run_ok01 (run_at Short s i)) 5 (i + 1)) (demand_at (unnamed_ok01 s i) 2 (i + 1))

unfoldable pub run_fault01 : Prover → ℕ → List ℕ → ℕ → Fault
run_fault01 prover k s i = figures_fault (figures01 prover k (run_at Short s i)) (i + 1)

unfoldable pub input_fault01 : Prover → ℕ → ℕ → List ℕ → Fault
input_fault01 prover k limit s =
    or_else (settings_fault prover k limit Short (length s))
    (or_else (scan (record_fault01 s) (runs_in Short s) 0)
    (scan (run_fault01 prover k s) (runs_in Short s) 0))

unfoldable pub factors01 : Prover → ℕ → List ℕ → List ℕ
factors01 prover k s = listed (λ i. (figures01 prover k (run_at Short s i)).factor) (runs_in Short s) 0

-- what is told of the first qualifying five, by their place
unfoldable pub found01 : {A : Type 0} → Prover → ℕ → ℕ → List ℕ → (ℕ → A) → Told A
found01 prover k limit s tell = unless (input_fault01 prover k limit s) (nine_unless (first_group limit 5 (factors01 prover k s)) tell)

unfoldable pub job01 : ℕ → Prover → ℕ → ℕ → List ℕ → ℕ → Told Report
job01 request prover k limit s size =
    unless (or_else (demand (eqb size 32) 14) (demand (not (eqb request 0)) 22))
    (found01 prover k limit s (λ at. report_of request (runs_in Short s) (at + 1) (five_at (factors01 prover k s) at)))

unfoldable pub accepted01 : Prover → ℕ → ℕ → List ℕ → List ℕ
accepted01 prover k limit s = accepted_by (size_of Short) (found01 prover k limit s (λ at. at)) s

-- 'Ticket'
unfoldable pub ticket_ok01 : Ticket → Bool
ticket_ok01 t = reading_ok t.opening && (reading_ok t.closing && (meter_factor_ok t.mf && (ctl_ok t.ctl && (liquid_ok01 t.liquid && sediment_ok t.sediment))))

unfoldable pub factor01 : Ticket → ℕ
factor01 t = combined_at 4 (t.mf ∷ t.ctl ∷ cpl_at01 4 t.liquid ∷ [])

unfoldable pub gross01 : Ticket → ℕ
gross01 t = rounded_div (measured t * factor01 t) 10000

unfoldable pub volumes01 : Ticket → Volumes
volumes01 t = record { factor = factor01 t; gross = gross01 t; net = rounded_div (gross01 t * (100000 - t.sediment)) 100000 }

unfoldable pub ticket01 : Ticket → Told Volumes
ticket01 t = judged (or_else (demand (ticket_ok01 t) 10) (demand (leb t.opening t.closing) 11)) (volumes01 t)

-- a run that holds no equilibrium pressure at either side
pub record HoldsNone (run : Run) : Type 0 where
  pub prover : run.prover.liquid.equilibrium ≡ 0
  pub meter : run.meter.liquid.equilibrium ≡ 0

pub record ZeroGage : Type 0 where
  -- with Pe 0 the fraction is 01's, and a liquid is judged as there
  pub fraction : (liquid : Liquid) → liquid.equilibrium ≡ 0 → cpl_from liquid ≡ cpl01 liquid
  pub in-range : (liquid : Liquid) → liquid.equilibrium ≡ 0 → liquid_ok liquid ≡ liquid_ok01 liquid
  pub cpl_as_before : (d : ℕ) (liquid : Liquid) → liquid.equilibrium ≡ 0 → cpl_of d liquid ≡ judged (demand (liquid_ok01 liquid) 5) (cpl_at01 d liquid)
  -- a record that 01 accepts has zeros from byte 20 on: it holds no Pe, and its unnamed bytes are in order
  pub holds_none : (s : List ℕ) (i : ℕ) → unnamed_ok01 s i ≡ true → HoldsNone (run_at Short s i) × (unnamed_ok Short s i ≡ true)
  -- a run that holds none is judged as before and has the figures of before
  pub run_as_before : (prover : Prover) (k : ℕ) (run : Run) → HoldsNone run → (run_ok run ≡ run_ok01 run) × (figures_of prover k run ≡ figures01 prover k run)
  -- a job whose records hold none is answered as before, accepted or refused, and so are its accepted runs; and what 01 accepts holds none
  pub job_as_before : (request : ℕ) (prover : Prover) (k limit : ℕ) (s : List ℕ) (size : ℕ) → Every (runs_in Short s) (λ i. HoldsNone (run_at Short s i))
      → job_of request prover k limit Short s size ≡ job01 request prover k limit s size
  pub runs_as_before : (prover : Prover) (k limit : ℕ) (s : List ℕ) → Every (runs_in Short s) (λ i. HoldsNone (run_at Short s i)) → accepted_of prover k limit Short s ≡ accepted01 prover k limit s
  pub accepted_as_before : (request : ℕ) (prover : Prover) (k limit : ℕ) (s : List ℕ) (size : ℕ) {report : Report}
      → job01 request prover k limit s size ≡ done report → job_of request prover k limit Short s size ≡ done report
  -- so is a ticket
  pub ticket_as_before : (t : Ticket) → t.liquid.equilibrium ≡ 0 → ticket_of t ≡ ticket01 t
