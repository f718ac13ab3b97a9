-- The pass's first fill is the first from record i on.
use mathlib.Core.Path.{◌≡◌}
use Prim.Native.Nat.{◌-◌}
use Rattle.octets.specs.FirstToLast.{first_place}
use Rattle.draw.specs.Passes.{is_of}
use Rattle.draw.proofs.passing.Judged.find_pressure.Given as goal

abbrev pub invariant-loop-i : goal.invariant-loop-i
invariant-loop-i l = first_place (is_of l.self.records.now l.pass) l.fills 0 ≡ first_place (is_of l.self.records.now l.pass) (l.fills - l.i) l.i
