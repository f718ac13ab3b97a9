-- `draw::profiles::accepts` meets its contract: each profile's own rule.
use mathlib.Core.Bool.{Bool, ◌&&◌}
use mathlib.Core.Path.{sym, ap, ◌∙◌}
use Prim.Native.Nat.{◌%◌}
use lib.Dec.{eqb}
use Rattle.draw.specs.Profile.{passes_fit}
use Rattle.draw.specs.declared.Profile.{Profile}
use Rattle.draw.proofs.profiles.accepts.Goals as goal

pub returns-in-Unidirectional : goal.returns-in-Unidirectional
unfolding passes_fit
returns-in-Unidirectional c = c.are_passes.ensures ∙ sym (ap (λ (p : Profile). passes_fit p c.args.passes) c.in-Unidirectional.is)

pub returns-in-Bidirectional : goal.returns-in-Bidirectional
unfolding passes_fit
returns-in-Bidirectional c = let passes = c.args.passes in
    ap (λ (b : Bool). eqb (passes % 2) 0 && b) c.are_paired_passes.ensures ∙ sym (ap (λ (p : Profile). passes_fit p passes) c.in-Bidirectional.is)
