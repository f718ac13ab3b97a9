-- `moving::judge` meets its contract: 14, 1, and then the records first to last.
use mathlib.Core.Path.{sym}
use Rattle.refusals.proofs.Laws.{or_else_first}
use Rattle.octets.specs.Records.{records_in, are_records}
use Rattle.moving.specs.Judging.{move_faults}
use Rattle.moving.proofs.Judged.{fault_back}
use Rattle.moving.proofs.Laws.{few_moved}
use Rattle.moving.proofs.judge.Goals as goal

pub returns-in_err-demand : goal.returns-in_err-demand
unfolding move_faults
returns-in_err-demand c = rw (← c.is_buffer.ensures) (fault_back _ _ c.from_residual.ensures.1 (or_else_first _ (sym (c.in_err-demand.ensures))))

pub returns-in_err-demand-2 : goal.returns-in_err-demand-2
unfolding move_faults are_records
returns-in_err-demand-2 c = rw (← c.is_buffer.ensures, ← c.in_ok-demand.ensures, ← c.size-one.ensures, ← c.are_moved.ensures) (fault_back _ _ c.from_residual-in_err-demand-2.ensures.1 (or_else_first _ (sym (c.in_err-demand-2.ensures))))

pub judge_records-requires : goal.judge_records-requires
unfolding are_records
judge_records-requires c = rw c.size-one.ensures (few_moved c.args.form c.args.records.now (rw (← c.size-one.ensures, ← c.are_moved.ensures) (sym (c.in_ok-demand-2.ensures))))

pub returns : goal.returns
unfolding move_faults are_records records_in
returns c = rw (← c.is_buffer.ensures, ← c.in_ok-demand.ensures, ← c.size-one.ensures, ← c.are_moved.ensures, ← c.in_ok-demand-2.ensures) c.judge_records.ensures
