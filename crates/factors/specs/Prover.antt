-- 01, 'Units and ranges': the prover's settings.
use Rattle.std.specs.Prelude.{Bool, ◌&&◌}
use Rattle.ranges.specs.Table.{modulus_ok, diameter_ok, wall_ok, volume_ok}
use Rattle.factors.specs.Metal.{metal_ok}
use Rattle.factors.specs.declared.Pipe.{Pipe}
use Rattle.factors.specs.declared.Prover.{Prover}

-- ID, WT and E in range
unfoldable pub pipe_ok : Pipe → Bool
pipe_ok pipe = diameter_ok pipe.diameter && (wall_ok pipe.wall && modulus_ok pipe.modulus)

-- the metal, the pipe and the base volume in range, or number 3
unfoldable pub prover_ok : Prover → Bool
prover_ok prover = metal_ok prover.metal && (pipe_ok prover.pipe && volume_ok prover.base)
