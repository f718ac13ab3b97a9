-- `proving::Input::count_runs` meets its contract.
use mathlib.Core.Path.{ap}
use Prim.Native.Nat.{ℕ, ◌/◌}
use lib.ListN.{length}
use Rattle.octets.specs.Records.{records_in}
use Rattle.proving.proofs.Input.count_runs.Goals as goal

pub returns : goal.returns
unfolding records_in
returns c = ap (λ (n : ℕ). length c.args.self.records.now / n) c.size.ensures
