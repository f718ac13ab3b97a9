-- `factors::is_prover` meets its contract.
use mathlib.Core.Bool.{◌&&◌}
use Rattle.factors.specs.Prover.{prover_ok}
use Rattle.factors.proofs.is_prover.Goals as goal

pub returns : goal.returns
unfolding prover_ok
returns c = λ i. c.is_metal.ensures i && (c.is_pipe.ensures i && c.is_volume.ensures i)
