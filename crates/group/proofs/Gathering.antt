-- The smallest and the largest value are gathered value by value.
use mathlib.Core.Path.{◌≡◌, refl}
use mathlib.Core.List.{List, [], ◌∷◌}
use Prim.Native.Nat.{ℕ, min, max}
use native.Mathlib.Nat.{max-zero}
use native.Mathlib.Omega.{arith}
use Rattle.exact.proofs.Gathering.{Gathered}
use Rattle.group.specs.Repeatability.{smallest, largest}

smallest_joined : (x y : ℕ) (ys : List ℕ) → smallest (x ∷ (y ∷ ys)) ≡ smallest (min x y ∷ ys)
unfolding smallest
smallest_joined x y [] = refl
smallest_joined x y (z ∷ zs) = omega arith

pub smallest_gathered : Gathered smallest min
unfolding smallest
smallest_gathered = record { alone = λ x. refl; joined = smallest_joined }

pub largest_gathered : Gathered largest max
unfolding largest
largest_gathered = record { alone = λ x. max-zero x; joined = λ x y ys. omega arith }
