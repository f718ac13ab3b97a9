-- The first fault of all is the first from record i on.
use mathlib.Core.Path.{◌≡◌}
use Prim.Native.Nat.{◌-◌}
use Rattle.octets.specs.FirstToLast.{scan}
use Rattle.draw.specs.Answers.{fill_fault}
use Rattle.draw.proofs.judging.judge_fills.Given as goal

abbrev pub invariant-loop-i : goal.invariant-loop-i
invariant-loop-i l = scan (fill_fault l.s) l.fills 0 ≡ scan (fill_fault l.s) (l.fills - l.i) l.i
