-- `draw::fills::is_fill` meets its contract: the machine's tests are the ranges', of signed numbers too.
use mathlib.Core.Bool.{◌&&◌}
use mathlib.Core.Path.{ap, ◌∙◌}
use native.Mathlib.Omega.{arith}
use Rattle.ranges.specs.Table.{scale_ok, draw_prover_ok, draw_measure_ok}
use Rattle.ranges.proofs.Counted.{passed_on}
use Rattle.draw.specs.Fill.{fill_ok}
use Rattle.draw.proofs.fills.is_fill.Goals as goal

pub returns : goal.returns
unfolding fill_ok
returns c = let fill = c.args.fill in
    let scaled = c.is_scale.ensures ∙ ap scale_ok (passed_on fill.scale (omega arith)) in
    let of-prover = c.is_draw_prover.ensures ∙ ap draw_prover_ok (passed_on fill.prover (omega arith)) in
    let of-measure = c.is_draw_measure.ensures ∙ ap draw_measure_ok (passed_on fill.measure (omega arith)) in
    λ i. c.is_certified.ensures i && (scaled i && (of-prover i && (of-measure i && (c.is_coefficient.ensures i && (c.is_ctdw.ensures i && c.is_pressure.ensures i)))))
