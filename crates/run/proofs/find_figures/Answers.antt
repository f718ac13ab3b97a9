-- `run::find_figures` meets its contract: every factor is its formula's value, and no product passes a word.
use mathlib.Core.Bool.{true}
use mathlib.Core.List.{[], ◌∷◌}
use mathlib.Core.Path.{◌≡◌, ap, ◌∙◌}
use Prim.Native.Nat.{◌≤◌}
use native.Mathlib.Omega.{arith}
use Rattle.std.proofs.Common.{rules}
use mir.Syntax.{w16}
use mir.Val.{to_z, of_z}
use mir.ValLaws.{to_z-of_z}
use Rattle.ranges.specs.Table.{pressure_ok}
use Rattle.exact.specs.Rounding.{rounded, ◌over◌}
use Rattle.factors.proofs.Squeezed.{pressure_fits}
use Rattle.factors.proofs.Values.{cts_value, cts_small, cps_value, cps_small}
use Rattle.factors.specs.Answers.{cts_of}
use Rattle.factors.specs.declared.Places.TheVariants.{Four}
use Rattle.run.proofs.Laws.{unwrapped, ctl_most, RunFits, run_fits, ProverFits, prover-fits, four_small, two_small}
use Rattle.run.specs.Figures.{steel_cts, steel_cps, corrected_by, at_prover, at_meter, figures_from}
use Rattle.run.proofs.find_figures.Goals.{After-correct-at_meter, After-correct-at_prover, After-unwrap_or-cps}
use Rattle.run.proofs.find_figures.Goals as goal

runs : (c : After-unwrap_or-cps) → RunFits c.args.run
runs c = run_fits c.args.run c.requires.1

provers : (c : After-unwrap_or-cps) → ProverFits c.args.prover
provers c = prover-fits c.args.prover c.requires.0

pressure : (c : After-unwrap_or-cps) → pressure_ok c.args.run.prover.liquid.pressure ≡ true
pressure c = pressure_fits c.args.run.prover.liquid (runs c).prover.liquid

cts-is : (c : After-unwrap_or-cps) → c.unwrap_or-cts.result ≡ steel_cts c.args.prover c.args.run
unfolding steel_cts
cts-is c =
    let a = c.args in
    let read : to_z w16 (of_z w16 a.run.prover.temperature) ≡ a.run.prover.temperature = search (rules, to_z-of_z) in
    c.unwrap_or-cts.ensures ∙ unwrapped c.cts.result
    ∙ cts_value c.cts.result Four a.prover.metal a.run.prover.temperature (c.cts.ensures ∙ ap (cts_of 4 a.prover.metal) read) (provers c).metal (runs c).prover.temperature

cts-most : (c : After-unwrap_or-cps) → c.unwrap_or-cts.result ≤ 20000
unfolding steel_cts
cts-most c = omega (arith, cts-is c, cts_small Four c.args.prover.metal c.args.run.prover.temperature (provers c).metal (runs c).prover.temperature)

cps-is : (c : After-unwrap_or-cps) → c.unwrap_or-cps.result ≡ steel_cps c.args.prover c.args.run
unfolding steel_cps
cps-is c = c.unwrap_or-cps.ensures ∙ unwrapped c.cps.result ∙ cps_value c.cps.result Four c.args.prover.pipe c.args.run.prover.liquid.pressure c.cps.ensures (provers c).pipe (pressure c)

cps-most : (c : After-unwrap_or-cps) → c.unwrap_or-cps.result ≤ 20000
unfolding steel_cps
cps-most c = omega (arith, cps-is c, cps_small Four c.args.prover.pipe c.args.run.prover.liquid.pressure (provers c).pipe (pressure c))

prover-is : (c : After-correct-at_prover) → c.unwrap_or-cts.result ≡ steel_cts c.args.prover c.args.run → c.unwrap_or-cps.result ≡ steel_cps c.args.prover c.args.run → c.correct-at_prover.result ≡ at_prover c.args.prover c.args.run
unfolding at_prover
prover-is c cts cps =
    let a = c.args in
    let cpl = c.find_cpl-cpl.ensures.0 in
    c.correct-at_prover.ensures.0 ∙ (λ i. corrected_by a.prover.base (cpl i) (cts i ∷ cps i ∷ a.run.prover.ctl ∷ cpl i ∷ []))

meter-is : (c : After-correct-at_meter) → c.correct-at_meter.result ≡ at_meter c.args.indicated c.args.run
unfolding at_meter
meter-is c =
    let a = c.args in
    let cpl = c.find_cpl-meter_cpl.ensures.0 in
    c.correct-at_meter.ensures.0 ∙ (λ i. corrected_by a.indicated (cpl i) (a.run.meter.ctl ∷ cpl i ∷ []))

pub find_cpl-cpl-requires : goal.find_cpl-cpl-requires
find_cpl-cpl-requires c = (runs (goal.at.find_cpl-cpl-requires c).After-unwrap_or-cps).prover.liquid

pub correct-at_prover-requires : goal.correct-at_prover-requires
correct-at_prover-requires c = ((provers (goal.at.correct-at_prover-requires c).After-unwrap_or-cps).base, omega arith, four_small _ _ _ _ (cts-most (goal.at.correct-at_prover-requires c).After-unwrap_or-cps) (cps-most (goal.at.correct-at_prover-requires c).After-unwrap_or-cps) (ctl_most (runs (goal.at.correct-at_prover-requires c).After-unwrap_or-cps).prover.ctl) c.find_cpl-cpl.ensures.1)

pub find_cpl-meter_cpl-requires : goal.find_cpl-meter_cpl-requires
find_cpl-meter_cpl-requires c = (runs (goal.at.find_cpl-meter_cpl-requires c).After-unwrap_or-cps).meter.liquid

pub correct-at_meter-requires : goal.correct-at_meter-requires
correct-at_meter-requires c = (c.requires.2, omega arith, two_small _ _ (ctl_most (runs (goal.at.correct-at_meter-requires c).After-unwrap_or-cps).meter.ctl) c.find_cpl-meter_cpl.ensures.1)

pub returns : goal.returns
unfolding figures_from
returns c = let cts = cts-is (goal.at.returns c).After-unwrap_or-cps in
    let cps = cps-is (goal.at.returns c).After-unwrap_or-cps in
    let prover = prover-is (goal.at.returns c).After-correct-at_prover cts cps in
    let meter = meter-is (goal.at.returns c).After-correct-at_meter in
    let factor = c.round.ensures ∙ (λ i. rounded 4 ((prover i).volume over (meter i).volume)) in
    λ i. record { indicated = c.args.indicated; cts = cts i; cps = cps i; prover = prover i; meter = meter i; factor = factor i }
