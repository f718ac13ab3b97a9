-- `run::work_out` meets its contract: what is given is judged first, and then the figures.
use Rattle.std.proofs.Common.{◌≡◌, sym, arith}
use Rattle.std.proofs.lemmas.Grind.{common_steps}
use Rattle.refusals.specs.Answered.{fault_of, told}
use Rattle.run.proofs.Laws.{given_fits}
use Rattle.run.specs.Answers.{given_fault, figures_told, worked_of}
use Rattle.run.proofs.work_out.Goals as goal

pub returns-in_err-judge : goal.returns-in_err-judge
unfolding worked_of
returns-in_err-judge c = let given : fault_of c.judge.result ≡ given_fault c.args.prover c.args.k c.args.run c.args.at = c.judge.ensures in
    grind (arith, common_steps, given)

pub judge_figures-requires : goal.judge_figures-requires
judge_figures-requires c = given_fits _ _ _ _ (sym c.in_ok-judge.ensures)

pub returns : goal.returns
unfolding worked_of
returns c = let figures : told c.judge_figures.result ≡ figures_told c.args.prover c.args.k c.args.run c.args.at = c.judge_figures.ensures in
    grind (arith, common_steps, figures)
