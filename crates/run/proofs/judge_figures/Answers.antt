-- `run::judge_figures` meets its contract: the indicated volume is judged before anything is made of it.
use Rattle.std.proofs.Common.{◌≡◌, ap, ◌∙◌, arith}
use Rattle.std.proofs.lemmas.Grind.{common_steps}
use Rattle.ranges.proofs.Laws.{within_high}
use Rattle.ranges.specs.Table.{volume_ok, run_factor_ok}
use Rattle.run.proofs.Laws.{run_fits}
use Rattle.run.specs.Answers.{figures_fault, figures_told}
use Rattle.run.specs.Figures.{indicated, figures_from, figures_of}
use Rattle.run.specs.declared.Figures.{Figures}
use Rattle.run.proofs.judge_figures.Goals.{After-find_figures-figures}
use Rattle.run.proofs.judge_figures.Goals as goal

figures-are : (c : After-find_figures-figures) → c.find_figures-figures.result ≡ figures_of c.args.prover c.args.k c.args.run
unfolding indicated figures_of
figures-are c = c.find_figures-figures.ensures ∙ ap (figures_from c.args.prover c.args.run) c.round-indicated.ensures

pub round-indicated-requires : goal.round-indicated-requires
round-indicated-requires c = omega (arith, run_fits c.args.run c.requires.2)

pub returns-in_err-demand : goal.returns-in_err-demand
unfolding figures_told figures_fault figures_of figures_from indicated
returns-in_err-demand c = let volume : c.is_volume.result ≡ volume_ok (indicated c.args.run.pulses c.args.k) = c.is_volume.ensures ∙ ap volume_ok c.round-indicated.ensures in
    grind (arith, common_steps, volume)

pub find_figures-figures-requires : goal.find_figures-figures-requires
unfolding volume_ok
find_figures-figures-requires c = grind (arith, common_steps, within_high)

pub returns-in_err-demand-2 : goal.returns-in_err-demand-2
unfolding figures_told figures_fault figures_of figures_from indicated
returns-in_err-demand-2 c = let figures = figures-are (goal.at.returns-in_err-demand-2 c).After-find_figures-figures in
    let factor : c.is_run_factor.result ≡ run_factor_ok (figures_of c.args.prover c.args.k c.args.run).factor = c.is_run_factor.ensures ∙ ap (λ (f : Figures). run_factor_ok f.factor) figures in
    grind (arith, common_steps, factor)

pub returns : goal.returns
unfolding figures_told figures_fault figures_of figures_from indicated
returns c = grind (arith, common_steps)
