-- `draw::judging::judge_fills` meets its contract.
use mathlib.Core.Path.{sym}
use native.Mathlib.Omega.{arith}
use Rattle.octets.proofs.FirstToLast.{faults, next, done, scan_hit}
use Rattle.draw.specs.Answers.{fill_fault}
use Rattle.draw.proofs.Judged.{fault_back}
use Rattle.draw.proofs.judging.judge_fills.Goals as goal

pub returns-in_err-judge_fill : goal.returns-in_err-judge_fill
returns-in_err-judge_fill c = let a = c.args in
    fault_back _ _ c.from_residual.ensures.1 (scan_hit (fill_fault a.s.now) a.fills c.loop-i.i (omega arith) (sym (c.in_err-judge_fill.ensures)) c.loop-i.invariant)

pub loop-i-preserved : goal.loop-i-preserved
loop-i-preserved c = let a = c.args in
    next faults (fill_fault a.s.now) a.fills c.loop-i.i (omega arith) (sym (c.in_ok-judge_fill.ensures)) c.loop-i.invariant

pub returns : goal.returns
returns c = let a = c.args in sym (done faults (fill_fault a.s.now) a.fills c.loop-i.i (omega arith) c.loop-i.invariant)
