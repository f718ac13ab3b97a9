-- `draw::passing::Judged::find_pass` meets its contract.
use mathlib.Core.Path.{◌∙◌}
use Rattle.draw.specs.Passes.{corrected_volume, pass_volume}
use Rattle.draw.proofs.Sound.{sound_of}
use Rattle.draw.proofs.passing.Judged.find_pass.Goals as goal

pub correct-requires : goal.correct-requires
correct-requires c = ((sound_of c.args.self.now).pipe, c.find_pressure.ensures.1, c.add_up.ensures.1)

pub returns : goal.returns
unfolding pass_volume
returns c = let pipe = c.args.self.now.prover.pipe in
    (c.correct.ensures.0 ∙ (λ i. corrected_volume pipe (c.find_pressure.ensures.0 i) (c.add_up.ensures.0 i)), c.correct.ensures.1)
