-- `draw::judging::judge_fill` meets its contract: 5 and 2 before 6.
use mathlib.Core.Path.{sym}
use Rattle.refusals.proofs.Laws.{or_else_first}
use Rattle.draw.specs.Answers.{fill_fault}
use Rattle.draw.proofs.Judged.{fault_back}
use Rattle.draw.proofs.judging.judge_fill.Goals as goal

pub returns-in_err-judge_record : goal.returns-in_err-judge_record
unfolding fill_fault
returns-in_err-judge_record c = fault_back _ _ c.from_residual.ensures.1 (or_else_first _ (sym (c.in_err-judge_record.ensures)))

pub returns : goal.returns
unfolding fill_fault
returns c = rw (← c.in_ok-judge_record.ensures, ← c.keeps_pass_rule.ensures) c.demand.ensures
