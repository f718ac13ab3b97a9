-- CTS of a temperature that is passed on: the machine's word gives it back.
use mathlib.Core.Path.{◌≡◌, ap, ◌∙◌}
use Prim.Native.Nat.{ℕ}
use lib.IntN.{ℤ}
use mir.Syntax.{w16}
use mir.Val.{SFits, to_z, of_z}
use mir.ValLaws.{to_z-of_z}
use Rattle.factors.specs.Answers.{cts_of}
use Rattle.factors.specs.declared.Metal.{Metal}
use Rattle.api.specs.Flat.{flat_factor}
use Rattle.api.specs.declared.corrections.EndakuroFactor.{EndakuroFactor}

pub cts_passed : (d : ℕ) (metal : Metal) (t : ℤ) {r : EndakuroFactor} → SFits w16 t → r ≡ flat_factor (cts_of d metal (to_z w16 (of_z w16 t))) → r ≡ flat_factor (cts_of d metal t)
cts_passed d metal t fits is = is ∙ ap (λ (z : ℤ). flat_factor (cts_of d metal z)) (to_z-of_z w16 t fits)
