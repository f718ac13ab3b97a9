-- The sum and that of the fills from i on are the pass's sum.
use mathlib.Core.Path.{◌≡◌}
use Prim.Native.Nat.{◌+◌, ◌-◌, ◌*◌, ◌≤◌}
use Rattle.exact.specs.Words.{sum_of}
use Rattle.group.specs.Listed.{listed}
use Rattle.draw.specs.Passes.{drawn_for}
use Rattle.draw.proofs.passing.Judged.add_up.Given as goal

abbrev pub invariant-loop-i : goal.invariant-loop-i
invariant-loop-i l = (l.sum + sum_of (listed (drawn_for l.self.prover.metal l.self.records.now l.pass) (l.fills - l.i) l.i) ≡ sum_of (listed (drawn_for l.self.prover.metal l.self.records.now l.pass) l.fills 0)) × (l.sum ≤ 500000000 * l.i)
