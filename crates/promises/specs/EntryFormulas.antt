-- Demand 2, of the entries' contracts themselves: 'Correction factors, base prover volume, meter factor and net ticket volume are the formulas
-- of API MPMS 12.2 .., each rounded once, halves upward', in the words of Formulas.antt. `f.Post κ a r x` is what f ensures of the arguments a at
-- entry, the answer r and the arguments x at exit. The arguments of `cts` are temperature, metal and places; of `cps` pressure, pipe and
-- places; of `cpl` liquid and places; of `combine` factors and places; the others' are as in Entries.antt.
use Rattle.std.specs.Prelude.{◌≡◌, ℕ, ◌+◌, ◌%◌, Ok}
use Rattle.refusals.specs.Told.{done}
use Rattle.exact.specs.Rounding.{◌over◌}
use Rattle.exact.specs.Words.{sum_of}
use Rattle.octets.specs.Records.{records_in}
use Rattle.group.specs.Listed.{listed}
use Rattle.factors.specs.Metal.{coefficient_of}
use Rattle.factors.specs.Fractions.{cts, cps, cpl, combined}
use Rattle.factors.specs.Places.{digits}
use Rattle.run.specs.Record.{run_at}
use Rattle.run.specs.Figures.{figures_of}
use Rattle.run.specs.declared.Figures.{Figures}
use Rattle.report.specs.Record.{list_of}
use Rattle.report.specs.declared.Report.{Report}
use Rattle.proving.specs.Judging.{runs_in}
use Rattle.draw.specs.Fill.{fill_at}
use Rattle.draw.specs.Drawn.{figures_of as fill_figures}
use Rattle.draw.specs.Profile.{first_pass}
use Rattle.draw.specs.declared.FillFigures.{FillFigures}
use Rattle.draw.specs.declared.BaseVolume.{BaseVolume}
use Rattle.draw.specs.declared.Profile.TheVariants.{Bidirectional}
use Rattle.ticket.specs.declared.Volumes.{Volumes}
use Rattle.factors.proofs.cts.Reads as entry-cts
use Rattle.factors.proofs.cps.Reads as entry-cps
use Rattle.factors.proofs.cpl.Reads as entry-cpl
use Rattle.factors.proofs.combine.Reads as combine
use Rattle.run.proofs.work_out.Reads as work-out
use Rattle.proving.proofs.prove.Reads as prove
use Rattle.draw.proofs.fill.Reads as fill
use Rattle.draw.proofs.draw.Reads as draw
use Rattle.ticket.proofs.work_out.Reads as ticket
use Rattle.promises.specs.Arguments.{first, second, third, fifth, sixth}
use Rattle.promises.specs.Records.{Every}
use Rattle.promises.specs.WaterDraw.{volume_at}
use Rattle.promises.specs.Formulas.{RoundedOnce, RoundedTo, RunRounded, FillRounded, PassRounded, PassesCounted, RoundTripsCounted, TicketRounded}
use Rattle.refusals.specs.Answered.{told}

pub record EntryFormulas : Type 0 where
  -- correction factors, at the places asked for
  pub cts_of_entry : (κ : _) (a : _) (r : _) (x : _) {q : ℕ} → entry-cts.Post κ a r x → told r ≡ done q
      → RoundedTo (digits (third a)) (cts (first a) (coefficient_of (second a))) q
  pub cps_of_entry : (κ : _) (a : _) (r : _) (x : _) {q : ℕ} → entry-cps.Post κ a r x → told r ≡ done q
      → RoundedTo (digits (third a)) (cps (first a) (second a).diameter (second a).modulus (second a).wall) q
  pub cpl_of_entry : (κ : _) (a : _) (r : _) (x : _) {q : ℕ} → entry-cpl.Post κ a r x → told r ≡ done q
      → RoundedTo (digits (second a)) (cpl (first a).compressibility (first a).pressure (first a).equilibrium) q
  pub combined_of_entry : (κ : _) (a : _) (r : _) (x : _) {q : ℕ} → combine.Post κ a r x → r ≡ Ok q
      → RoundedTo (digits (second a)) (combined (digits (second a)) (first a).now) q
  pub run_of_entry : (κ : _) (a : _) (r : _) (x : _) {f : Figures} → work-out.Post κ a r x → told r ≡ done f → RunRounded (first a) (second a) (third a) f
  -- every run of an accepted job; and 'The job's factor is their mean, rounded.'
  pub runs_of_job : (κ : _) (a : _) (r : _) (x : _) (report : Report) → prove.Post κ a r x → r ≡ Ok report
      → Every (runs_in (fifth a) (sixth a).now) (λ i. RunRounded (second a) (third a) (run_at (fifth a) (sixth a).now i) (figures_of (second a) (third a) (run_at (fifth a) (sixth a).now i)))
  pub factor_of_job : (κ : _) (a : _) (r : _) (x : _) (report : Report) → prove.Post κ a r x → r ≡ Ok report → RoundedOnce (sum_of (list_of report.factors)) 5 report.factor
  pub fill_of_entry : (κ : _) (a : _) (r : _) (x : _) {f : FillFigures} → fill.Post κ a r x → told r ≡ done f → FillRounded (first a) (second a).now 0 f
  -- every fill and every pass of an accepted draw; 'the base volume is their mean, rounded', and 'the same in barrels (÷ 9702, 4 places)'
  pub fills_of_draw : (κ : _) (a : _) (r : _) (x : _) (base : BaseVolume) → draw.Post κ a r x → r ≡ Ok base
      → Every (records_in 32 (third a).now) (λ i. FillRounded (second a).metal (third a).now i (fill_figures (second a).metal (fill_at (third a).now i)))
  pub passes_of_draw : (κ : _) (a : _) (r : _) (x : _) (base : BaseVolume) → draw.Post κ a r x → r ≡ Ok base
      → PassesCounted (second a) (third a).now × ((pass : ℕ) → PassRounded (second a) (third a).now pass)
  -- and every round trip of a bidirectional one, with an odd first pass
  pub trips_of_draw : (κ : _) (a : _) (r : _) (x : _) (base : BaseVolume) → draw.Post κ a r x → r ≡ Ok base → first a ≡ Bidirectional
      → RoundTripsCounted (second a) (third a).now × (base.first % 2 ≡ 1)
  pub base_of_draw : (κ : _) (a : _) (r : _) (x : _) (base : BaseVolume) → draw.Post κ a r x → r ≡ Ok base
      → (at : ℕ) × (base.first ≡ first_pass (first a) (at + 1)) × RoundedOnce (sum_of (listed (volume_at (first a) (second a) (third a).now) 3 at)) 3 base.base
      × RoundedTo 4 (base.base over 970200) base.barrels
  pub ticket_of_entry : (κ : _) (a : _) (r : _) (x : _) {v : Volumes} → ticket.Post κ a r x → told r ≡ done v → TicketRounded (first a) v
