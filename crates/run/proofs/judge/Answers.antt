-- `run::judge` meets its contract: 3, 4, 5.
use Rattle.std.proofs.Common.{rules}
use Rattle.run.specs.Answers.{given_fault}
use Rattle.run.proofs.judge.Goals as goal

pub returns-in_err-demand : goal.returns-in_err-demand
unfolding given_fault
returns-in_err-demand c = search rules

pub returns-in_err-demand-2 : goal.returns-in_err-demand-2
unfolding given_fault
returns-in_err-demand-2 c = search rules

pub returns : goal.returns
unfolding given_fault
returns c = search rules
