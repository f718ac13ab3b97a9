-- `proving::Input::work_out_runs` meets its contract. The loop's invariant: no run before i is at fault, and the array holds the factors of those runs.
use mathlib.Core.Path.{◌≡◌}
use Prim.Native.Nat.{◌-◌}
use lib.ListN.{length}
use Rattle.octets.specs.FirstToLast.{scan}
use Rattle.proving.specs.Judging.{run_fault}
use Rattle.proving.specs.Job.{HoldsFactors}
use Rattle.proving.proofs.Input.work_out_runs.Given as goal

abbrev pub invariant-loop-i : goal.invariant-loop-i
invariant-loop-i l = record {
  fault : scan (run_fault l.self.prover l.self.k l.self.form l.self.records.now) l.count 0 ≡ scan (run_fault l.self.prover l.self.k l.self.form l.self.records.now) (l.count - l.i) l.i;
  sized : length l.values ≡ 20;
  factors : HoldsFactors l.values l.i l.self.prover l.self.k l.self.form l.self.records.now;
}
