-- `draw::profiles::first_pass` meets its contract: of a round trip the pass out.
use mathlib.Core.Path.{sym, ap}
use Rattle.draw.specs.Profile.{out_pass, first_pass}
use Rattle.draw.specs.declared.Profile.{Profile}
use Rattle.draw.proofs.profiles.first_pass.Goals as goal

pub returns-in-Unidirectional : goal.returns-in-Unidirectional
unfolding first_pass
returns-in-Unidirectional c = sym (ap (λ (p : Profile). first_pass p c.args.number) c.in-Unidirectional.is)

pub returns-in-Bidirectional : goal.returns-in-Bidirectional
unfolding first_pass out_pass
returns-in-Bidirectional c = sym (ap (λ (p : Profile). first_pass p c.args.number) c.in-Bidirectional.is)
