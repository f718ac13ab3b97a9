-- `proving::Input::judge_records` meets its contract. The loop's invariant: what is found from the first record on is what is found from record i on.
use mathlib.Core.Path.{◌≡◌}
use Prim.Native.Nat.{◌-◌}
use Rattle.octets.specs.FirstToLast.{scan}
use Rattle.proving.specs.Judging.{lent_fault}
use Rattle.proving.proofs.Input.judge_records.Given as goal

abbrev pub invariant-loop-i : goal.invariant-loop-i
invariant-loop-i l = scan (lent_fault l.self.form l.self.records.now) l.count 0 ≡ scan (lent_fault l.self.form l.self.records.now) (l.count - l.i) l.i
