-- `draw::judging::judge_draw` meets its contract: 1 for the count of passes, where the records are in order.
use mathlib.Core.Path.{sym}
use Rattle.refusals.proofs.Laws.{or_else_first}
use Rattle.draw.specs.Answers.{draw_fault}
use Rattle.draw.proofs.Judged.{fault_back}
use Rattle.draw.proofs.judging.judge_draw.Goals as goal

pub returns-in_err-judge_records : goal.returns-in_err-judge_records
unfolding draw_fault
returns-in_err-judge_records c = fault_back _ _ c.from_residual.ensures.1 (or_else_first _ (sym c.in_err-judge_records.ensures))

pub returns : goal.returns
unfolding draw_fault
returns c = rw (← c.in_ok-judge_records.ensures, ← c.count_passes-passes.ensures, ← c.accepts.ensures) c.demand.ensures
