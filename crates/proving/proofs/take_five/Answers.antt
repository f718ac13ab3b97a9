-- `proving::take_five` meets its contract.
use mathlib.Core.Path.{refl}
use Rattle.proving.specs.Job.{five_at}
use Rattle.proving.proofs.take_five.Goals as goal

pub returns : goal.returns
unfolding five_at
returns c = refl
