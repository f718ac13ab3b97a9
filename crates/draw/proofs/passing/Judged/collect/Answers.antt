-- `draw::passing::Judged::collect` meets its contract.
use mathlib.Core.Path.{refl, ap, ◌∙◌}
use native.Mathlib.Omega.{arith}
use Rattle.octets.specs.Records.{zeros_after}
use Rattle.group.specs.Listed.{listed}
use Rattle.draw.specs.Profile.{volume_of}
use Rattle.draw.proofs.Filling.{volumes_next}
use Rattle.draw.proofs.passing.Judged.collect.Goals as goal

pub loop-i-init : goal.loop-i-init
unfolding listed zeros_after
loop-i-init c = refl

pub loop-i-preserved : goal.loop-i-preserved
loop-i-preserved c = let of = volume_of c.args.profile c.args.self.now.prover c.args.self.now.records.now in
    volumes_next of 20 c.loop-i.i (omega (arith, c.requires)) c.loop-i.invariant (c.find_volume.ensures ∙ ap of (omega arith))
