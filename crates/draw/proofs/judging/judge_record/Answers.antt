-- `draw::judging::judge_record` meets its contract: 5 before 2.
use mathlib.Core.Path.{sym}
use Rattle.refusals.proofs.Laws.{or_else_first}
use Rattle.draw.specs.Answers.{record_fault}
use Rattle.draw.proofs.Judged.{fault_back}
use Rattle.draw.proofs.judging.judge_record.Goals as goal

pub returns-in_err-demand : goal.returns-in_err-demand
unfolding record_fault
returns-in_err-demand c = rw (← c.decode.ensures, ← c.is_fill.ensures) (fault_back _ _ c.from_residual.ensures.1 (or_else_first _ (sym (c.in_err-demand.ensures))))

pub returns : goal.returns
unfolding record_fault
returns c = rw (← c.decode.ensures, ← c.is_fill.ensures, ← c.in_ok-demand.ensures, ← c.are_unnamed_zero.ensures) c.demand-2.ensures
