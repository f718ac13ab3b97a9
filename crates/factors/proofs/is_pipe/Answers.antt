-- `factors::is_pipe` meets its contract.
use mathlib.Core.Bool.{◌&&◌}
use Rattle.factors.specs.Prover.{pipe_ok}
use Rattle.factors.proofs.is_pipe.Goals as goal

pub returns : goal.returns
unfolding pipe_ok
returns c = λ i. c.is_diameter.ensures i && (c.is_wall.ensures i && c.is_modulus.ensures i)
