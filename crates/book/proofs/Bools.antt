-- Tests joined: what a conjunction and a disjunction tell.
use mathlib.Core.Path.{◌≡◌, refl, sym, ◌∙◌}
use mathlib.Core.Bool.{Bool, true, false, ◌&&◌, ◌||◌, not, and-false, true≢false}
use mathlib.Core.Logic.{◌⊎◌, inl, inr}

pub both_first : (a b : Bool) → (a && b) ≡ true → a ≡ true
both_first true b t = refl
both_first false b t = t

pub both_second : (a b : Bool) → (a && b) ≡ true → b ≡ true
both_second a true t = refl
both_second a false t = sym (and-false a) ∙ t

pub both_true : {a b : Bool} → a ≡ true → b ≡ true → (a && b) ≡ true
both_true {a} {b} p q = rw (p, q)

-- a test holds or fails
pub decided : (t : Bool) → (t ≡ true) ⊎ (t ≡ false)
decided true = inl refl
decided false = inr refl

pub not_of_false : {t : Bool} → t ≡ false → not t ≡ true
not_of_false p = rw p

pub neither_first : (a b : Bool) → (a || b) ≡ false → a ≡ false
neither_first true b f = f
neither_first false b f = refl

pub neither_second : (a b : Bool) → (a || b) ≡ false → b ≡ false
neither_second true b f = absurd (true≢false f)
neither_second false b f = f
