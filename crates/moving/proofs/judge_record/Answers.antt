-- `moving::judge_record` meets its contract: 5, 2, then 36.
use mathlib.Core.Path.{sym, ap, ◌∙◌}
use Prim.Native.Nat.{◌+◌}
use Rattle.refusals.specs.Told.{demand_at}
use Rattle.refusals.proofs.Laws.{or_else_first, or_else_next}
use Rattle.run.specs.declared.Run.{Run}
use Rattle.moving.specs.Judging.{is_whole, move_fault}
use Rattle.moving.proofs.Judged.{fault_back}
use Rattle.moving.proofs.judge_record.Goals as goal

pub returns-in_err-judge_record : goal.returns-in_err-judge_record
unfolding move_fault
returns-in_err-judge_record c = fault_back _ _ c.from_residual.ensures.1 (or_else_first _ (sym (c.in_err-judge_record.ensures)))

pub returns : goal.returns
unfolding move_fault is_whole
returns c = c.demand.ensures ∙ ap (λ (run : Run). demand_at (is_whole run.pulses) 36 (c.args.i + 1)) c.decode-run.ensures ∙ sym (or_else_next _ (sym (c.in_ok-judge_record.ensures)))
