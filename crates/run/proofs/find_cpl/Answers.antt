-- `run::find_cpl` meets its contract: the liquid is in range, so its CPL has a value, at most 2.
use mathlib.Core.Path.{◌∙◌}
use native.Mathlib.Omega.{arith}
use Rattle.factors.proofs.Values.{cpl_value, cpl_small}
use Rattle.factors.specs.declared.Places.TheVariants.{Four}
use Rattle.run.proofs.Laws.{unwrapped}
use Rattle.run.proofs.find_cpl.Goals as goal

pub returns : goal.returns
returns c = let is = c.unwrap_or.ensures ∙ unwrapped c.cpl.result ∙ cpl_value c.cpl.result Four c.args.liquid c.cpl.ensures c.requires in
    (is, omega (arith, is, cpl_small Four c.args.liquid c.requires))
