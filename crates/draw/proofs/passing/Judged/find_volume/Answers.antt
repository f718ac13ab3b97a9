-- `draw::passing::Judged::find_volume` meets its contract: a pass, or a round trip.
use mathlib.Core.Path.{sym, ap, ◌∙◌}
use Rattle.draw.specs.Profile.{volume_of}
use Rattle.draw.specs.declared.Profile.{Profile}
use Rattle.draw.proofs.passing.Judged.find_volume.Goals as goal

pub returns-in-Unidirectional : goal.returns-in-Unidirectional
unfolding volume_of
returns-in-Unidirectional c = let a = c.args in
    c.find_pass.ensures.0 ∙ sym (ap (λ (p : Profile). volume_of p a.self.now.prover a.self.now.records.now a.number) c.in-Unidirectional.is)

pub returns-in-Bidirectional : goal.returns-in-Bidirectional
unfolding volume_of
returns-in-Bidirectional c = let a = c.args in
    c.find_trip.ensures ∙ sym (ap (λ (p : Profile). volume_of p a.self.now.prover a.self.now.records.now a.number) c.in-Bidirectional.is)
