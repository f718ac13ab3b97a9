-- `factors::is_liquid` meets its contract.
use mathlib.Core.Bool.{◌&&◌}
use lib.Dec.{leb}
use Rattle.factors.specs.Liquid.{liquid_ok}
use Rattle.factors.proofs.is_liquid.Goals as goal

pub returns : goal.returns
unfolding liquid_ok
returns c = let liquid = c.args.liquid in
    λ i. c.is_pressure.ensures i && (leb liquid.equilibrium liquid.pressure && c.is_compressibility.ensures i)
