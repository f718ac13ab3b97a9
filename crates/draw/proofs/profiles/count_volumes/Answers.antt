-- `draw::profiles::count_volumes` meets its contract: as many as passes, or half as many.
use mathlib.Core.Path.{sym, ap, ◌∙◌}
use Prim.Native.Nat.{ℕ, ◌/◌}
use Rattle.draw.specs.Profile.{volume_count}
use Rattle.draw.specs.declared.Profile.{Profile}
use Rattle.draw.proofs.profiles.count_volumes.Goals as goal

pub returns-in-Unidirectional : goal.returns-in-Unidirectional
unfolding volume_count
returns-in-Unidirectional c = c.count_passes-passes.ensures ∙ sym (ap (λ (p : Profile). volume_count p c.args.judged.now.records.now) c.in-Unidirectional.is)

pub returns-in-Bidirectional : goal.returns-in-Bidirectional
unfolding volume_count
returns-in-Bidirectional c = ap (λ (m : ℕ). m / 2) c.count_passes-passes.ensures ∙ sym (ap (λ (p : Profile). volume_count p c.args.judged.now.records.now) c.in-Bidirectional.is)
