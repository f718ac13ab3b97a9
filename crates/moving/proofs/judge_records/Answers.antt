-- `moving::judge_records` meets its contract.
use mathlib.Core.Path.{sym}
use native.Mathlib.Omega.{arith}
use Rattle.octets.proofs.FirstToLast.{faults, next, scan_hit, done}
use Rattle.moving.specs.Judging.{move_fault}
use Rattle.moving.proofs.Judged.{fault_back}
use Rattle.moving.proofs.judge_records.Goals as goal

pub returns-in_err-judge_record : goal.returns-in_err-judge_record
returns-in_err-judge_record c = let a = c.args in
    fault_back _ _ c.from_residual.ensures.1 (scan_hit (move_fault a.form a.records.now) a.count c.loop-i.i (omega arith) (sym (c.in_err-judge_record.ensures)) c.loop-i.invariant)

pub loop-i-preserved : goal.loop-i-preserved
loop-i-preserved c = let a = c.args in
    next faults (move_fault a.form a.records.now) a.count c.loop-i.i (omega arith) (sym (c.in_ok-judge_record.ensures)) c.loop-i.invariant

pub returns : goal.returns
returns c = let a = c.args in
    sym (done faults (move_fault a.form a.records.now) a.count c.loop-i.i (omega arith) c.loop-i.invariant)
