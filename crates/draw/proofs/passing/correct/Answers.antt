-- `draw::passing::correct` meets its contract: both factors are the paper's, and their product is not rounded.
use mathlib.Core.Path.{◌≡◌, ◌∙◌}
use native.Mathlib.Omega.{arith}
use Rattle.factors.specs.Rounded.{cps_at, cpl_at}
use Rattle.factors.specs.declared.Places.TheVariants.{Six}
use Rattle.factors.proofs.Values.{cps_value, cpl_value}
use Rattle.draw.specs.Passes.{water_at}
use Rattle.draw.proofs.Magnitudes.{water_ok, corrected_most, corrected_value}
use Rattle.draw.proofs.passing.correct.Goals.{After-value_or_zero-cpl, After-value_or_zero-cps}
use Rattle.draw.proofs.passing.correct.Goals as goal

cps-is : (c : After-value_or_zero-cps) → c.value_or_zero-cps.result ≡ cps_at 6 c.args.pipe c.args.pressure
cps-is c =
    c.value_or_zero-cps.ensures ∙ cps_value c.cps.result Six c.args.pipe c.args.pressure c.cps.ensures c.requires.0 c.requires.1

cpl-is : (c : After-value_or_zero-cpl) → c.value_or_zero-cpl.result ≡ cpl_at 6 (water_at c.args.pressure)
unfolding water_at
cpl-is c =
    c.value_or_zero-cpl.ensures ∙ cpl_value c.cpl.result Six (water_at c.args.pressure) c.cpl.ensures (water_ok c.args.pressure c.requires.1)

pub returns : goal.returns
returns c = let a = c.args in
    let is = c.round_or_zero.ensures ∙ corrected_value a.pipe a.pressure c.requires.0 c.requires.1 a.sum c.requires.2 (cps-is (goal.at.returns c).After-value_or_zero-cps) (cpl-is (goal.at.returns c).After-value_or_zero-cpl) in
    (is, omega (arith, is, corrected_most a.pipe a.pressure c.requires.0 c.requires.1 a.sum, c.requires.2))
