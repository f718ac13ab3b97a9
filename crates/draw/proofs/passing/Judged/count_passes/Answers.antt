-- `draw::passing::Judged::count_passes` meets its contract.
use native.Mathlib.Omega.{arith}
use Rattle.octets.specs.Records.{records_in}
use Rattle.draw.specs.Passes.{pass_count}
use Rattle.draw.proofs.Sound.{sound_of}
use Rattle.draw.proofs.passing.Judged.count_passes.Goals as goal

pub overflow_sub-last : goal.overflow_sub-last
unfolding records_in
overflow_sub-last c = omega (arith, (sound_of c.args.self.now).some_fills)

pub invariant_of-last : goal.invariant_of-last
unfolding records_in
invariant_of-last c = record { few = omega (arith, (sound_of c.args.self.now).few_fills) }

pub returns : goal.returns
unfolding pass_count records_in
returns c = c.pass.ensures
