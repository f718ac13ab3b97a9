-- What 'lo to hi' tells, and what shows it: the tests as facts that arithmetic can use, and back.
use mathlib.Core.Path.{◌≡◌, refl, sym, ◌∙◌}
use mathlib.Core.Bool.{Bool, true, false, ◌&&◌, and-false}
use Prim.Native.Nat.{ℕ, ◌≤◌}
use borrow.Author.Tests.{leb-true, le-leb}
use lib.Dec.{leb}
use Rattle.ranges.specs.Within.{within}

pub both_first : (a b : Bool) → (a && b) ≡ true → a ≡ true
both_first true b t = refl
both_first false b t = t

pub both_second : (a b : Bool) → (a && b) ≡ true → b ≡ true
both_second a true t = refl
both_second a false t = sym (and-false a) ∙ t

pub both_true : {a b : Bool} → a ≡ true → b ≡ true → (a && b) ≡ true
both_true {a} {b} p q = rw (p, q)

pub within_low : (lo hi x : ℕ) → within lo hi x ≡ true → lo ≤ x
within_low lo hi x t = leb-true lo x (both_first (leb lo x) (leb x hi) t)

pub within_high : (lo hi x : ℕ) → within lo hi x ≡ true → x ≤ hi
within_high lo hi x t = leb-true x hi (both_second (leb lo x) (leb x hi) t)

pub within_true : (lo hi x : ℕ) → lo ≤ x → x ≤ hi → within lo hi x ≡ true
within_true lo hi x p q = both_true (le-leb lo x p) (le-leb x hi q)
