-- The first fault of all is the first from record i on.
use mathlib.Core.Path.{◌≡◌}
use Prim.Native.Nat.{◌-◌}
use Rattle.octets.specs.FirstToLast.{scan}
use Rattle.moving.specs.Judging.{move_fault}
use Rattle.moving.proofs.judge_records.Given as goal

abbrev pub invariant-loop-i : goal.invariant-loop-i
invariant-loop-i l = scan (move_fault l.form l.records) l.count 0 ≡ scan (move_fault l.form l.records) (l.count - l.i) l.i
