-- Demand 2's formulas: each figure is its exact fraction rounded once, since no divisor is zero within the ranges.
use Rattle.std.specs.Prelude.{Ok, Err, Option, None, Some}
use mathlib.Core.Path.{◌≡◌, refl, sym, ap, ◌∙◌, subst}
use mathlib.Core.Bool.{Bool, true, false, cond}
use mathlib.Core.List.{List}
use Prim.Native.Nat.{ℕ, zero, suc, ◌+◌, ◌-◌, ◌*◌, ◌^◌, ◌<◌, ◌≤◌}
use native.Mathlib.Nat.{div-zero, one-le-pow, mul-pos}
use native.Mathlib.Omega.{arith}
use lib.Dec.{leb, ltb}
use lib.IntN.{ℤ}
use lib.ListN.{length}
use Rattle.refusals.specs.Told.{done, demand, demand_at, or_else, judged}
use Rattle.refusals.proofs.Laws.{demand_was, demand_at_was, or_else_fine_first, or_else_fine_next, judged_was, judged_done, unless_done}
use Rattle.ranges.specs.Table.{temperature_ok, pressure_ok, coefficient_ok, k_factor_ok, volume_ok, run_factor_ok}
use Rattle.ranges.proofs.Laws.{within_low, within_high}
use Rattle.ranges.proofs.Counted.{warm}
use Rattle.exact.specs.Rounding.{rounded_div, ◌over◌, rounded}
use Rattle.exact.proofs.Rounding.{nearest, nearest_one, at_least}
use Rattle.octets.specs.Records.{records_in}
use Rattle.octets.specs.FirstToLast.{first_place}
use Rattle.octets.proofs.FirstToLast.{First, place_first}
use Rattle.factors.specs.Metal.{coefficient_of, metal_ok}
use Rattle.factors.specs.Fractions.{cts, cps, cpl, combined, product_of}
use Rattle.factors.specs.Prover.{pipe_ok, prover_ok}
use Rattle.factors.specs.Liquid.{liquid_ok, cpl_from}
use Rattle.factors.specs.Rounded.{cts_at, cps_at, cpl_at, combined_at, corrected_at}
use Rattle.factors.specs.Answers.{cts_of, cps_of, cpl_of}
use Rattle.factors.specs.declared.Liquid.{Liquid}
use Rattle.factors.specs.declared.Metal.TheVariants.{Certified}
use Rattle.factors.proofs.Squeezed.{squeezed_little, pressure_fits}
use Rattle.factors.specs.declared.Metal.{Metal}
use Rattle.factors.specs.declared.Pipe.{Pipe}
use Rattle.factors.specs.declared.Prover.{Prover}
use Rattle.factors.proofs.Steel.{parts, Loads, loads}
use Rattle.group.specs.Mean.{mean_of}
use Rattle.exact.specs.Words.{sum_of}
use Rattle.run.specs.Record.{run_at, run_ok}
use Rattle.run.specs.declared.Form.{Form}
use Rattle.run.specs.Figures.{indicated, steel_cts, steel_cps, corrected_by, at_prover, at_meter, figures_from, figures_of}
use Rattle.run.specs.Answers.{given_fault, figures_fault, figures_told, worked_of}
use Rattle.run.specs.declared.Run.{Run}
use Rattle.run.specs.declared.Figures.{Figures}
use Rattle.run.proofs.Laws.{RunFits, run_fits, ProverFits, prover-fits}
use Rattle.draw.specs.Fill.{fill_at, fill_ok}
use Rattle.draw.specs.Drawn.{measure_cts, prover_cts, ccts, drawn, figures_of as fill_figures}
use Rattle.draw.specs.Passes.{pass_count, is_of, pressure_at, pass_pressure, water_at, corrected_volume, pass_volume}
use Rattle.draw.proofs.Magnitudes.{water_ok}
use Rattle.draw.specs.Profile.{passes_fit, out_pass, back_pass, trip_volume, volume_of}
use Rattle.draw.specs.Answers.{alone_fault, fill_of}
use Rattle.draw.specs.declared.Profile.{Profile}
use Rattle.draw.specs.declared.Profile.TheVariants.{Bidirectional}
use Rattle.draw.specs.declared.FillFigures.{FillFigures}
use Rattle.draw.proofs.Sound.{Sound, sound, alone_good}
use Rattle.draw.proofs.Rule.{FillOf, within_count, every_pass, one_pressure}
use Rattle.draw.proofs.Sums.{all_fills_once, paired, all_passes_once}
use Rattle.draw.specs.Base.{barrels_of}
use Rattle.draw.proofs.Fields.{fields}
use Rattle.ticket.specs.Ranges.{ticket_ok}
use Rattle.ticket.specs.Formulas.{indicated as measured, factor, gross, net}
use Rattle.ticket.specs.Answers.{volumes, ticket_of}
use Rattle.ticket.specs.declared.Ticket.{Ticket}
use Rattle.ticket.specs.declared.Volumes.{Volumes}
use Rattle.ticket.proofs.Magnitudes.{in-range}
use Rattle.report.specs.Record.{list_of}
use Rattle.report.specs.declared.Report.{Report}
use Rattle.proving.specs.Judging.{runs_in}
use Rattle.proving.specs.Job.{factor_at}
use Rattle.group.specs.Listed.{listed}
use Rattle.group.proofs.Listed.{listed_length}
use Rattle.draw.specs.declared.BaseVolume.{BaseVolume}
use Rattle.factors.specs.Answers.{combined_of, held}
use Rattle.promises.specs.Proving.{Acceptable, Used}
use Rattle.promises.specs.WaterDraw as water
use Rattle.promises.specs.WaterDraw.{FillsInOrder}
use Rattle.promises.specs.Formulas.{RoundedOnce, RoundedTo, RunRounded, FillRounded, PassRounded, PassesCounted, RoundTripsCounted, TicketRounded}
use Rattle.promises.proofs.Judging.{fills_judged}
use Rattle.promises.proofs.Signed.{adjusted_above}
use Rattle.factors.specs.declared.CombineError.TheVariants.{TooMany, TooLarge}

once : (n d : ℕ) → 0 < d → RoundedOnce n d (rounded_div n d)
once n d h = record { near = nearest n h; only = λ p close. nearest_one close (nearest n h) }

to : (d num den : ℕ) → 0 < den → RoundedTo d (num over den) (rounded d (num over den))
unfolding rounded
to d num den h = once (num * 10 ^ d) den h

moved : {n d p q : ℕ} → p ≡ q → RoundedOnce n d p → RoundedOnce n d q
moved {n} {d} same r = subst (λ (m : ℕ). RoundedOnce n d m) same r

-- ---- correction factors

-- CTS, CPS and CPL within their ranges have divisors that are not zero
cts_once : (d : ℕ) (metal : Metal) (t : ℤ) → RoundedTo d (cts t (coefficient_of metal)) (cts_at d metal t)
unfolding cts_at cts
cts_once d metal t = to d _ 100000000 (omega arith)

cps_once : (d : ℕ) (pipe : Pipe) (p : ℕ) → pipe_ok pipe ≡ true → pressure_ok p ≡ true → RoundedTo d (cps p pipe.diameter pipe.modulus pipe.wall) (cps_at d pipe p)
unfolding cps_at cps
cps_once d pipe p ok pressure = to d _ (pipe.modulus * pipe.wall) (omega (arith, (loads {pipe = pipe} {p = p} ok pressure).least))

cpl_once : (d : ℕ) (liquid : Liquid) → liquid_ok liquid ≡ true → RoundedTo d (cpl liquid.compressibility liquid.pressure liquid.equilibrium) (cpl_at d liquid)
unfolding cpl_at cpl_from cpl
cpl_once d liquid ok = to d 100000000 (100000000 - liquid.compressibility * (liquid.pressure - liquid.equilibrium)) (omega (arith, squeezed_little liquid ok))

combined_once : (d : ℕ) (fs : List ℕ) → RoundedTo d (combined d fs) (combined_at d fs)
unfolding combined_at combined
combined_once d fs = to d (product_of fs) ((10 ^ d) ^ length fs) (one-le-pow (length fs) (10 ^ d) (one-le-pow d 10 (omega arith)))

pub cts_rounded : (d : ℕ) (metal : Metal) (t : ℤ) {q : ℕ} → cts_of d metal t ≡ done q → RoundedTo d (cts t (coefficient_of metal)) q
unfolding cts_of cts
cts_rounded d metal t is = moved (judged_done (or_else (demand (metal_ok metal) 3) (demand (temperature_ok t) 5)) (cts_at d metal t) is) (cts_once d metal t)

pub cps_rounded : (d : ℕ) (pipe : Pipe) (p : ℕ) {q : ℕ} → cps_of d pipe p ≡ done q → RoundedTo d (cps p pipe.diameter pipe.modulus pipe.wall) q
unfolding cps_of cps
cps_rounded d pipe p is =
    let f = or_else (demand (pipe_ok pipe) 3) (demand (pressure_ok p) 5) in
    let clear = judged_was f (cps_at d pipe p) is in
    moved (judged_done f (cps_at d pipe p) is)
    (cps_once d pipe p (demand_was (pipe_ok pipe) 3 (or_else_fine_first (demand (pipe_ok pipe) 3) _ clear)) (demand_was (pressure_ok p) 5 (or_else_fine_next (demand (pipe_ok pipe) 3) _ clear)))

pub cpl_rounded : (d : ℕ) (liquid : Liquid) {q : ℕ} → cpl_of d liquid ≡ done q → RoundedTo d (cpl liquid.compressibility liquid.pressure liquid.equilibrium) q
unfolding cpl_of cpl
cpl_rounded d liquid is =
    let f = demand (liquid_ok liquid) 5 in
    moved (judged_done f (cpl_at d liquid) is) (cpl_once d liquid (demand_was (liquid_ok liquid) 5 (judged_was f (cpl_at d liquid) is)))

-- 'A combined factor is the exact product of the rounded factors, then one rounding.'
held_is : (fits : Bool) (n : ℕ) {q : ℕ} → cond fits (Ok n) (Err TooLarge) ≡ Ok q → n ≡ q
held_is true n is = cc
held_is false n is = cc

taken_is : (few : Bool) (n : ℕ) {q : ℕ} → cond few (held n) (Err TooMany) ≡ Ok q → n ≡ q
unfolding held
taken_is true n is = held_is (ltb n (2 ^ 64)) n is
taken_is false n is = cc

pub combined_rounded : (d : ℕ) (fs : List ℕ) {q : ℕ} → combined_of d fs ≡ Ok q → RoundedTo d (combined d fs) q
unfolding combined_of combined
combined_rounded d fs is = moved (taken_is (leb (length fs) 4) (combined_at d fs) is) (combined_once d fs)

-- ---- a run

-- a factor in range came of a divisor that is not zero
divisor_some : (n d : ℕ) → run_factor_ok (rounded 4 (n over d)) ≡ true → 0 < d
unfolding run_factor_ok rounded rounded_div
divisor_some n zero ok = let low : 8000 ≤ 0 = within_low 8000 12000 0 (ap run_factor_ok (sym (div-zero (2 * (n * 10 ^ 4) + 0))) ∙ ok) in absurd (omega arith)
divisor_some n (suc d) ok = omega arith

pub figures_rounded : (prover : Prover) (k : ℕ) (run : Run) → prover_ok prover ≡ true → k_factor_ok k ≡ true → run_ok run ≡ true → run_factor_ok (figures_of prover k run).factor ≡ true → RunRounded prover k run (figures_of prover k run)
unfolding figures_of figures_from indicated steel_cts steel_cps corrected_by corrected_at at_prover at_meter k_factor_ok
figures_rounded prover k run settings k_ok fits factor_ok =
    let p : ProverFits prover = prover-fits prover settings in
    let r : RunFits run = run_fits run fits in
    record {
      indicated_volume = to 4 run.pulses k (omega (arith, within_low 1 1000000000 k k_ok));
      steel_temperature = cts_once 4 prover.metal run.prover.temperature;
      steel_pressure = cps_once 4 prover.pipe run.prover.liquid.pressure p.pipe (pressure_fits run.prover.liquid r.prover.liquid);
      prover_liquid = cpl_once 4 run.prover.liquid r.prover.liquid;
      prover_factor = combined_once 4 _;
      prover_volume = to 4 _ 100000000 (omega arith);
      meter_liquid = cpl_once 4 run.meter.liquid r.meter.liquid;
      meter_factor = combined_once 4 _;
      meter_volume = to 4 _ 100000000 (omega arith);
      run_factor = to 4 _ _ (divisor_some _ _ factor_ok);
    }

pub run_rounded : (prover : Prover) (k : ℕ) (run : Run) (at : ℕ) {f : Figures} → worked_of prover k run at ≡ done f → RunRounded prover k run f
unfolding worked_of figures_told given_fault figures_fault
run_rounded prover k run at {f} is =
    let x = figures_of prover k run in
    let given = or_else (demand (prover_ok prover) 3) (or_else (demand (k_factor_ok k) 4) (demand_at (run_ok run) 5 at)) in
    let own = or_else (demand_at (volume_ok x.indicated) 7 at) (demand_at (run_factor_ok x.factor) 8 at) in
    let parts = unless_done given (judged own x) is in
    let from4 = or_else_fine_next (demand (prover_ok prover) 3) _ parts.0 in
    subst (λ (g : Figures). RunRounded prover k run g) (judged_done own x parts.1)
    (figures_rounded prover k run
    (demand_was (prover_ok prover) 3 (or_else_fine_first (demand (prover_ok prover) 3) _ parts.0))
    (demand_was (k_factor_ok k) 4 (or_else_fine_first (demand (k_factor_ok k) 4) _ from4))
    (demand_at_was (run_ok run) 5 at (or_else_fine_next (demand (k_factor_ok k) 4) _ from4))
    (demand_at_was (run_factor_ok x.factor) 8 at (or_else_fine_next (demand_at (volume_ok x.indicated) 7 at) _ (judged_was own x parts.1))))

-- every run of an acceptable job
pub accepted_run_rounded : (prover : Prover) (k limit : ℕ) (form : Form) (s : List ℕ) → Acceptable prover k limit form s → (i : ℕ) → i < runs_in form s → RunRounded prover k (run_at form s i) (figures_of prover k (run_at form s i))
accepted_run_rounded prover k limit form s ok i h = figures_rounded prover k (run_at form s i) ok.input.settled.settings ok.input.settled.k_factor (ok.input.records i h).fields (ok.figures i h).factor

-- the mean of n values is their sum over n
mean_rounded : (f : ℕ → ℕ) (n at : ℕ) → 0 < n → RoundedOnce (sum_of (listed f n at)) n (mean_of (listed f n at))
unfolding mean_of
mean_rounded f n at h =
    let long : length (listed f n at) ≡ n = listed_length f n at in
    subst (λ (d : ℕ). RoundedOnce (sum_of (listed f n at)) n (rounded_div (sum_of (listed f n at)) d)) (sym long) (once (sum_of (listed f n at)) n h)

-- 'The job's factor is their mean, rounded.'
pub job_factor_rounded : (request : ℕ) (prover : Prover) (k limit : ℕ) (form : Form) (s : List ℕ) (r : Report) → Used request prover k limit form s r → RoundedOnce (sum_of (list_of r.factors)) 5 r.factor
job_factor_rounded request prover k limit form s r used =
    subst (λ (xs : List ℕ). RoundedOnce (sum_of xs) 5 r.factor) (sym used.factors) (moved (sym used.factor) (mean_rounded (factor_at prover k form s) 5 used.place (omega arith)))

-- ---- a water draw

-- CTS is nowhere near zero
cts_some : (metal : Metal) (t : ℤ) → metal_ok metal ≡ true → temperature_ok t ≡ true → 0 < cts_at 6 metal t
unfolding cts_at cts metal_ok coefficient_ok rounded
cts_some metal t m ok =
    let gc : coefficient_of metal ≤ 400 = within_high 100 400 _ m in
    at_least _ 1 (omega arith) (omega (arith, parts _ gc (warm t ok)))

pub fill_rounded : (metal : Metal) (s : List ℕ) (i : ℕ) → metal_ok metal ≡ true → fill_ok (fill_at s i) ≡ true → FillRounded metal s i (fill_figures metal (fill_at s i))
unfolding fill_figures measure_cts prover_cts ccts drawn
fill_rounded metal s i m ok =
    record {
      adjusted_measure = adjusted_above s i ok;
      measure_steel = cts_once 6 (Certified (fill_at s i).coefficient) (fill_at s i).measure;
      prover_steel = cts_once 6 metal (fill_at s i).prover;
      steel_ratio = to 6 _ _ (cts_some metal (fill_at s i).prover m (fields (fill_at s i) ok).prover);
      drawn_volume = once _ (10 ^ 12) (omega arith);
    }

-- the fill's entry: its record alone
pub fill_told : (metal : Metal) (s : List ℕ) {f : FillFigures} → fill_of metal s ≡ done f → FillRounded metal s 0 f
unfolding fill_of
fill_told metal s is =
    let ok = alone_good metal s (judged_was (alone_fault metal s) (fill_figures metal (fill_at s 0)) is) in
    subst (λ (g : FillFigures). FillRounded metal s 0 g) (judged_done (alone_fault metal s) (fill_figures metal (fill_at s 0)) is) (fill_rounded metal s 0 ok.0 ok.1)

pipe_some : (pipe : Pipe) (p : ℕ) → pipe_ok pipe ≡ true → pressure_ok p ≡ true → 0 < cps_at 6 pipe p
unfolding cps_at cps rounded
pipe_some pipe p fits ok =
    let l : Loads pipe p = loads fits ok in
    at_least ((pipe.modulus * pipe.wall + p * pipe.diameter) * 1000000) 1 (omega arith) (omega arith)

water_some : (p : ℕ) → pressure_ok p ≡ true → 0 < cpl_at 6 (water_at p)
unfolding cpl_at cpl_from water_at cpl rounded pressure_ok
water_some p ok = let high : p ≤ 1500 = within_high 0 1500 p ok in at_least (100000000 * 1000000) 1 (omega arith) (omega arith)

pass_pressure_ok : (prover : Prover) (s : List ℕ) → FillsInOrder prover s → (pass : ℕ) → pressure_ok (pass_pressure s pass) ≡ true
unfolding pass_pressure pressure_ok
pass_pressure_ok prover s fills pass = by_place (first_place (is_of s pass) (records_in 32 s) 0) refl
  where
    by_place : (o : Option ℕ) → first_place (is_of s pass) (records_in 32 s) 0 ≡ o → pressure_ok (pressure_at s o) ≡ true
    by_place None is = refl
    by_place (Some i) is =
        let first : First (is_of s pass) (records_in 32 s) 0 i = place_first (is_of s pass) (records_in 32 s) 0 is in
        (fields (fill_at s i) (fills.records i (omega (arith, first.below))).fields).pressure

pub pass_rounded : (prover : Prover) (s : List ℕ) → FillsInOrder prover s → (pass : ℕ) → PassRounded prover s pass
unfolding pass_volume corrected_volume water_at
pass_rounded prover s fills pass =
    let ok = pass_pressure_ok prover s fills pass in
    record {
      pipe_pressure = cps_once 6 prover.pipe (pass_pressure s pass) fills.settled.pipe ok;
      water_pressure = cpl_once 6 (water_at (pass_pressure s pass)) (water_ok (pass_pressure s pass) ok);
      pass-volume = once _ _ (mul-pos (pipe_some prover.pipe (pass_pressure s pass) fills.settled.pipe ok) (water_some (pass_pressure s pass) ok));
    }

pub passes_counted : (prover : Prover) (s : List ℕ) → FillsInOrder prover s → PassesCounted prover s
passes_counted prover s fills =
    let good : Sound prover s = sound prover s ((fills_judged prover s).finds_none fills) in
    record {
      fills_of_passes = within_count prover s good;
      passes_of_fills = λ pass low high.
          let fill : FillOf s pass (records_in 32 s - 1) = every_pass prover s good pass low high in
          (fill.place, omega (arith, good.some_fills), fill.is);
      one_pressure = one_pressure prover s good;
      fills_once = all_fills_once prover s good;
    }

pub trips_counted : (prover : Prover) (s : List ℕ) → passes_fit Bidirectional (pass_count s) ≡ true → RoundTripsCounted prover s
unfolding out_pass back_pass volume_of trip_volume
trips_counted prover s fit =
    record {
      odd_out = λ trip some_trip. omega arith;
      then-back = λ trip some_trip. omega arith;
      within_passes = λ trip few. omega (arith, paired prover s fit);
      both_added = λ trip. refl;
      passes_once = all_passes_once prover s fit;
    }

-- 'the same in barrels (÷ 9702, 4 places)'
pub barrels_rounded : (base : ℕ) → RoundedTo 4 (base over 970200) (barrels_of base)
unfolding barrels_of
barrels_rounded base = to 4 base 970200 (omega arith)

-- 'the base volume is their mean, rounded. The answer is that, the same in barrels': the sum of the three, and the rounded base
pub base_rounded : (profile : Profile) (prover : Prover) (s : List ℕ) (b : BaseVolume) (used : water.Used profile prover s b)
    → RoundedOnce (sum_of (listed (water.volume_at profile prover s) 3 used.place)) 3 b.base × RoundedTo 4 (b.base over 970200) b.barrels
base_rounded profile prover s b used = (
  moved (sym used.base) (mean_rounded (water.volume_at profile prover s) 3 used.place (omega arith)),
  moved (ap barrels_of used.base ∙ sym used.barrels) (barrels_rounded b.base),
)

-- ---- a ticket

volumes_rounded : (t : Ticket) → liquid_ok t.liquid ≡ true → TicketRounded t (volumes t)
unfolding volumes measured factor gross net
volumes_rounded t ok =
    record {
      liquid = cpl_once 4 t.liquid ok;
      ticket_factor = combined_once 4 _;
      gross_standard = once _ 10000 (omega arith);
      net_volume = once _ 100000 (omega arith);
    }

pub ticket_rounded : (t : Ticket) {v : Volumes} → ticket_of t ≡ done v → TicketRounded t v
unfolding ticket_of
ticket_rounded t {v} is =
    let f = or_else (demand (ticket_ok t) 10) (demand (leb t.opening t.closing) 11) in
    let ok = demand_was (ticket_ok t) 10 (or_else_fine_first (demand (ticket_ok t) 10) _ (judged_was f (volumes t) is)) in
    subst (λ (w : Volumes). TicketRounded t w) (judged_done f (volumes t) is) (volumes_rounded t (in-range t ok).liquid)
