-- `draw::judging::judge_records` meets its contract: 1, 3, the records first to last.
use mathlib.Core.Path.{sym}
use Rattle.refusals.proofs.Laws.{or_else_first, demand_was}
use Rattle.octets.specs.Records.{records_in, are_records}
use Rattle.draw.specs.Answers.{fills_fault}
use Rattle.draw.proofs.Judged.{fault_back}
use Rattle.draw.proofs.Sound.{count_within}
use Rattle.draw.proofs.judging.judge_records.Goals as goal

pub returns-in_err-demand : goal.returns-in_err-demand
unfolding fills_fault are_records
returns-in_err-demand c = rw (← c.are_fills.ensures) (fault_back _ _ c.from_residual.ensures.1 (or_else_first _ (sym c.in_err-demand.ensures)))

pub returns-in_err-demand-2 : goal.returns-in_err-demand-2
unfolding fills_fault are_records
returns-in_err-demand-2 c = rw (← c.are_fills.ensures, ← c.in_ok-demand.ensures, ← c.is_metal.ensures, ← c.is_pipe.ensures) (fault_back _ _ c.from_residual-in_err-demand-2.ensures.1 (or_else_first _ (sym c.in_err-demand-2.ensures)))

pub judge_fills-requires : goal.judge_fills-requires
unfolding are_records records_in
judge_fills-requires c = (count_within c.args.s.now (demand_was _ 1 (rw (← c.are_fills.ensures) (sym c.in_ok-demand.ensures)))).1

pub returns : goal.returns
unfolding fills_fault are_records records_in
returns c = rw (← c.are_fills.ensures, ← c.in_ok-demand.ensures, ← c.is_metal.ensures, ← c.is_pipe.ensures, ← c.in_ok-demand-2.ensures) c.judge_fills.ensures
