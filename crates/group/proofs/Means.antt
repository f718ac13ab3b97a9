-- The rounded mean: the nearest whole number to sum / count, halves up; it lies between the smallest and the largest value, and 64 bits hold it.
use mathlib.Core.Path.{◌≡◌, refl}
use mathlib.Core.List.{List, [], ◌∷◌}
use Prim.Native.Nat.{ℕ, suc, ◌*◌, ◌≤◌, ◌<◌}
use native.Mathlib.Nat.{mul-suc}
use native.Mathlib.Omega.{arith}
use lib.ListN.{length}
use Rattle.exact.proofs.Answers.{value_below}
use Rattle.exact.proofs.Rounding.{Nearest, nearest, at_most, at_least}
use Rattle.exact.specs.Rounding.{rounded_div}
use Rattle.exact.specs.Quotient.{quotient_of, value_or_zero}
use Rattle.group.specs.Mean.{mean_of}
use Rattle.exact.specs.Words.{sum_of}
use Rattle.group.specs.Repeatability.{smallest, largest}
use Rattle.group.proofs.Bounds.{AllAtLeast, AllAtMost, smallest_below, largest_above}

pub sum_at_most : (k : ℕ) (xs : List ℕ) → AllAtMost k xs → sum_of xs ≤ k * length xs
unfolding sum_of
sum_at_most k [] all = omega arith
sum_at_most k (x ∷ xs) all =
    rw (mul-suc k (length xs)) (omega (arith, all 0 (omega arith), sum_at_most k xs (λ j h. all (suc j) (omega arith))))

pub sum_at_least : (k : ℕ) (xs : List ℕ) → AllAtLeast k xs → k * length xs ≤ sum_of xs
unfolding sum_of
sum_at_least k [] all = omega arith
sum_at_least k (x ∷ xs) all =
    rw (mul-suc k (length xs)) (omega (arith, all 0 (omega arith), sum_at_least k xs (λ j h. all (suc j) (omega arith))))

module _ (xs : List ℕ) (some_values : 0 < length xs) where
  pub mean_nearest : Nearest (sum_of xs) (length xs) (mean_of xs)
  unfolding mean_of
  mean_nearest = nearest (sum_of xs) some_values

  pub mean_at_most : (k : ℕ) → AllAtMost k xs → mean_of xs ≤ k
  unfolding mean_of
  mean_at_most k all = at_most (sum_of xs) k some_values (sum_at_most k xs all)

  pub mean_at_least : (k : ℕ) → AllAtLeast k xs → k ≤ mean_of xs
  unfolding mean_of
  mean_at_least k all = at_least (sum_of xs) k some_values (sum_at_least k xs all)

  pub mean_from_smallest : smallest xs ≤ mean_of xs
  mean_from_smallest = mean_at_least (smallest xs) (smallest_below xs)

  pub mean_to_largest : mean_of xs ≤ largest xs
  mean_to_largest = mean_at_most (largest xs) (largest_above xs)

-- a quotient of two words' sum by the count is the mean, since the mean of 64-bit values has 64 bits
pub mean_value : (xs : List ℕ) → AllAtMost 18446744073709551615 xs → value_or_zero (quotient_of (sum_of xs) (length xs)) ≡ mean_of xs
unfolding quotient_of rounded_div sum_of mean_of
mean_value [] all = refl
mean_value (x ∷ xs) all =
    value_below (sum_of (x ∷ xs)) {d = length (x ∷ xs)} (omega arith) 18446744073709551615 (sum_at_most 18446744073709551615 (x ∷ xs) all) (omega arith)
