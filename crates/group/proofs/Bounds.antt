-- What 'smallest' and 'largest' are: one of the values, and none lies beyond it.
use mathlib.Core.Path.{◌≡◌, refl, sym, ◌∙◌}
use mathlib.Core.Logic.{by_cases}
use mathlib.Core.List.{List, [], ◌∷◌}
use Prim.Native.Nat.{ℕ, zero, suc, ◌≤◌, ◌<◌}
use native.Mathlib.Nat.{min-le_left, min-le_right, min-eq_left, min-eq_right, max-eq_left, max-eq_right}
use native.Mathlib.Decide.{dec_le}
use native.Mathlib.Omega.{arith}
use lib.ListN.{length, get_or}
use Rattle.group.specs.Repeatability.{smallest, largest}

-- v is one of the values
pub record Among (xs : List ℕ) (v : ℕ) : Type 0 where
  pub place : ℕ
  pub inside : place < length xs
  pub is : get_or xs place 0 ≡ v

-- no value is below v; none is above
abbrev pub AllAtLeast : ℕ → List ℕ → Type 0
AllAtLeast v xs = (k : ℕ) → k < length xs → v ≤ get_or xs k 0

abbrev pub AllAtMost : ℕ → List ℕ → Type 0
AllAtMost v xs = (k : ℕ) → k < length xs → get_or xs k 0 ≤ v

pub first_among : (x : ℕ) (xs : List ℕ) → Among (x ∷ xs) x
first_among x xs = record { place = 0; inside = omega arith; is = refl }

pub later_among : {xs : List ℕ} {v : ℕ} (x : ℕ) → Among xs v → Among (x ∷ xs) v
later_among x a = record { place = suc a.place; inside = omega (arith, a.inside); is = a.is }

among_same : {xs : List ℕ} {v w : ℕ} → v ≡ w → Among xs w → Among xs v
among_same e a = record { place = a.place; inside = a.inside; is = a.is ∙ sym e }

pub smallest_below : (xs : List ℕ) → AllAtLeast (smallest xs) xs
unfolding smallest
smallest_below [] k h = absurd (omega arith)
smallest_below (x ∷ []) zero h = omega arith
smallest_below (x ∷ []) (suc k) h = absurd (omega arith)
smallest_below (x ∷ (y ∷ ys)) zero h = min-le_left x (smallest (y ∷ ys))
smallest_below (x ∷ (y ∷ ys)) (suc k) h = omega (arith, smallest_below (y ∷ ys) k (omega arith), min-le_right x (smallest (y ∷ ys)))

pub largest_above : (xs : List ℕ) → AllAtMost (largest xs) xs
unfolding largest
largest_above [] k h = absurd (omega arith)
largest_above (x ∷ xs) zero h = omega arith
largest_above (x ∷ xs) (suc k) h = omega (arith, largest_above xs k (omega arith))

pub smallest_among : (xs : List ℕ) → 0 < length xs → Among xs (smallest xs)
unfolding smallest
smallest_among [] h = absurd (omega arith)
smallest_among (x ∷ []) h = first_among x []
smallest_among (x ∷ (y ∷ ys)) h =
    by_cases (dec_le x (smallest (y ∷ ys)))
    (λ le. among_same (min-eq_left le) (first_among x (y ∷ ys)))
    (λ more. among_same (min-eq_right (omega arith)) (later_among x (smallest_among (y ∷ ys) (omega arith))))

pub largest_among : (xs : List ℕ) → 0 < length xs → Among xs (largest xs)
unfolding largest
largest_among [] h = absurd (omega arith)
largest_among (x ∷ []) h = among_same (max-eq_left (omega arith)) (first_among x [])
largest_among (x ∷ (y ∷ ys)) h =
    by_cases (dec_le (largest (y ∷ ys)) x)
    (λ le. among_same (max-eq_left le) (first_among x (y ∷ ys)))
    (λ more. among_same (max-eq_right (omega arith)) (later_among x (largest_among (y ∷ ys) (omega arith))))

pub smallest_at_most_largest : (xs : List ℕ) → smallest xs ≤ largest xs
unfolding smallest largest
smallest_at_most_largest [] = omega arith
smallest_at_most_largest (x ∷ xs) =
    omega (arith, smallest_below (x ∷ xs) 0 (omega arith), largest_above (x ∷ xs) 0 (omega arith))
