-- A single's whole number is judged where 16 bits hold it: no range reaches further, so a range judges what is held.
use mathlib.Core.Path.{◌≡◌, refl, sym, ap, ◌∙◌}
use mathlib.Core.Bool.{Bool, true, false}
use Prim.Native.Nat.{ℕ}
use lib.IntN.{ℤ}
use lib.Ieee.{Float}
use lib.Ieee.Scale.{finite}
use Rattle.refusals.specs.Told.{fine, done, refused, demand, or_else, judged}
use Rattle.refusals.proofs.Laws.{done_one, refused_not_done, demand_was, or_else_fine_next}

-- what is refused as not finite or not held is refused so by the range
pub refused_by_range : (finite held in_range : Bool) (z : ℤ) {n at : ℕ} → (held ≡ false → in_range ≡ false)
    → judged (or_else (demand finite 12) (demand held 13)) z ≡ refused n at → judged (or_else (demand finite 12) (demand in_range 13)) z ≡ refused n at
refused_by_range false held in_range z reach is = is
refused_by_range true false in_range z reach is = ap (λ (b : Bool). judged (demand b 13) z) (reach refl) ∙ is
refused_by_range true true in_range z reach is = absurd (refused_not_done (sym is))

-- what is held is the whole number, and the range alone judges it
pub judged_by_range : (finite held : Bool) (in_range : ℤ → Bool) (z : ℤ) {w : ℤ} → judged (or_else (demand finite 12) (demand held 13)) z ≡ done w
    → judged (or_else (demand finite 12) (demand (in_range z) 13)) z ≡ judged (demand (in_range w) 13) w
judged_by_range false held in_range z is = absurd (refused_not_done is)
judged_by_range true false in_range z is = absurd (refused_not_done is)
judged_by_range true true in_range z is = ap (λ (y : ℤ). judged (demand (in_range y) 13) y) (done_one is)

-- what is judged fine is in range
pub was_in_range : (in_range : ℤ → Bool) (z : ℤ) (x : Float) → or_else (demand (finite x) 12) (demand (in_range z) 13) ≡ fine → in_range z ≡ true
was_in_range in_range z x is = demand_was (in_range z) 13 (or_else_fine_next (demand (finite x) 12) (demand (in_range z) 13) is)
