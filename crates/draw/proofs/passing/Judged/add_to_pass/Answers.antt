-- `draw::passing::Judged::add_to_pass` meets its contract.
use mathlib.Core.Path.{ap, ◌∙◌}
use native.Mathlib.Omega.{arith}
use Rattle.draw.specs.Fill.{fill_at, fill_ok}
use Rattle.draw.specs.Drawn.{drawn, figures_of}
use Rattle.draw.specs.declared.FillFigures.{FillFigures}
use Rattle.draw.specs.declared.FillRecord.{FillRecord}
use Rattle.draw.proofs.Magnitudes.{drawn_most}
use Rattle.draw.proofs.Filling.{adds, adds-nothing}
use Rattle.draw.proofs.Sound.{sound_of}
use Rattle.draw.proofs.passing.Judged.add_to_pass.Goals as goal

pub invariant_of-place : goal.invariant_of-place
invariant_of-place c = record { few = omega (arith, c.requires, (sound_of c.args.self.now).few_fills) }

pub work_out-requires : goal.work_out-requires
work_out-requires c = let good = sound_of c.args.self.now in (good.metal, ap fill_ok c.decode.ensures ∙ good.fill c.args.i c.requires)

pub returns-then-pass : goal.returns-then-pass
unfolding figures_of
returns-then-pass c = let a = c.args in
    let good = sound_of a.self.now in
    let drew = ap (λ (f : FillFigures). f.drawn) c.work_out.ensures ∙ ap (λ (f : FillRecord). drawn a.self.now.prover.metal f) c.decode.ensures in
    (adds a.self.now.records.now a.i c.pass.ensures a.self.now.prover.metal c.if-pass.true drew, omega (arith, drew, drawn_most a.self.now.prover.metal (fill_at a.self.now.records.now a.i) good.metal (good.fill a.i c.requires)))

pub returns : goal.returns
returns c = let a = c.args in (adds-nothing a.self.now.records.now a.i c.pass.ensures a.self.now.prover.metal a.pass c.if-pass.false, omega arith)
