-- `draw::fills::work_out` meets its contract: each figure is the paper's, and drawn's product passes 64 bits.
use mathlib.Core.Path.{◌≡◌, ◌∙◌}
use Prim.Native.Nat.{ℕ, ◌*◌, ◌≤◌}
use native.Mathlib.Omega.{arith}
use Rattle.factors.specs.Metal.{metal_ok}
use Rattle.factors.specs.declared.Metal.TheVariants.{Certified}
use Rattle.draw.specs.Drawn.{adjusted, measure_cts, prover_cts, figures_of}
use Rattle.draw.proofs.Fields.{fields}
use Rattle.draw.proofs.Magnitudes.{cts-at, expanded_most, ccts_value, drawn_value}
use Rattle.draw.proofs.fills.work_out.Goals.{Start}
use Rattle.draw.proofs.fills.work_out.Goals as goal

expanded-fits : (c : Start) {x : ℕ} → x ≡ adjusted c.args.fill → x * c.args.fill.ctdw ≤ 102010200000000
expanded-fits c is = let a = c.args in rw is (expanded_most a.metal a.fill c.requires.0 c.requires.1)

pub overflow_mul-expanded : goal.overflow_mul-expanded
overflow_mul-expanded c = omega (arith, c.adjust-adjusted.ensures, expanded-fits (goal.at.overflow_mul-expanded c).Start c.adjust-adjusted.ensures)

pub returns : goal.returns
unfolding figures_of measure_cts prover_cts metal_ok
returns c = let fill = c.args.fill in
    let f = fields fill c.requires.1 in
    let measure = cts-at c.cts.result (Certified fill.coefficient) fill.measure (omega arith) c.value_or_zero-measure.ensures c.cts.ensures f.coefficient f.measure in
    let prover = cts-at c.cts-2.result c.args.metal fill.prover (omega arith) c.value_or_zero-prover.ensures c.cts-2.ensures c.requires.0 f.prover in
    let factor = c.round_or_zero-ccts.ensures ∙ ccts_value c.args.metal fill c.requires.0 c.requires.1 measure prover in
    let all = c.round_or_zero-drawn.ensures ∙ drawn_value c.args.metal fill c.requires.0 c.requires.1 c.adjust-adjusted.ensures factor in
    λ i. record { adjusted = c.adjust-adjusted.ensures i; measure = measure i; prover = prover i; ccts = factor i; drawn = all i }
