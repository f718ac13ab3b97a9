-- The four shippers as a list of four: its items, one by one, and what the code's chains over it are.
use Rattle.std.specs.List.{sum_by, zip, list_all}
use mathlib.Core.Path.{◌≡◌, refl}
use mathlib.Core.Bool.{Bool}
use mathlib.Core.List.{List, [], ◌∷◌}
use Prim.Native.Nat.{ℕ, ◌+◌, ◌≤◌}
use native.Mathlib.Omega.{arith}
use lib.ListN.{length, get_or}
use Rattle.std.proofs.lemmas.Grind.{common_steps}
use Rattle.std.proofs.lemmas.Slice.Zip.{length-zip}
use Rattle.octets.specs.FirstToLast.{first_to_last, holds_all}

pub four_items : {A : Type 0} (none : A) (xs : List A) → length xs ≡ 4 → xs ≡ get_or xs 0 none ∷ get_or xs 1 none ∷ get_or xs 2 none ∷ get_or xs 3 none ∷ []
four_items none [] h = absurd (omega arith)
four_items none (a ∷ []) h = absurd (omega arith)
four_items none (a ∷ b ∷ []) h = absurd (omega arith)
four_items none (a ∷ b ∷ c ∷ []) h = absurd (omega arith)
four_items none (a ∷ b ∷ c ∷ d ∷ []) h = refl
four_items none (a ∷ b ∷ c ∷ d ∷ e ∷ rest) h = absurd (omega arith)

-- a sum over the items
pub sum_items : {A : Type 0} (xs : List A) → length xs ≡ 4 → (none : A) (of : A → ℕ) → sum_by of xs ≡ of (get_or xs 0 none) + (of (get_or xs 1 none) + (of (get_or xs 2 none) + of (get_or xs 3 none)))
sum_items xs h none of =
    let four : sum_by of xs ≡ sum_by of (get_or xs 0 none ∷ get_or xs 1 none ∷ get_or xs 2 none ∷ get_or xs 3 none ∷ []) = (λ i. sum_by of (four_items none xs h i)) in
    omega arith

pub length_pairs : {A : Type 0} (xs : List A) (ys : List ℕ) → length xs ≡ 4 → length ys ≡ 4 → length (zip xs ys) ≤ 4
length_pairs xs ys few many = grind (arith, common_steps, length-zip)

module _ {A : Type 0} (xs : List A) (ys : List ℕ) (few : length xs ≡ 4) (many : length ys ≡ 4) (none : A) where
  -- a test of each pair
  pub all_pairs : (test : A → ℕ → Bool) → list_all (λ (p : A × ℕ). test p.0 p.1) (zip xs ys) ≡ holds_all (λ (s : ℕ). test (get_or xs s none) (get_or ys s 0)) 4 0
  unfolding first_to_last
  all_pairs test = λ i. list_all (λ (p : A × ℕ). test p.0 p.1) (zip (four_items none xs few i) (four_items 0 ys many i))

  -- a sum over the pairs
  pub sum_pairs : (of : A → ℕ → ℕ) → sum_by (λ (p : A × ℕ). of p.0 p.1) (zip xs ys)
      ≡ of (get_or xs 0 none) (get_or ys 0 0) + (of (get_or xs 1 none) (get_or ys 1 0) + (of (get_or xs 2 none) (get_or ys 2 0) + of (get_or xs 3 none) (get_or ys 3 0)))
  sum_pairs of = let four : sum_by (λ (p : A × ℕ). of p.0 p.1) (zip xs ys) ≡ sum_by (λ (p : A × ℕ). of p.0 p.1) (zip (get_or xs 0 none ∷ get_or xs 1 none ∷ get_or xs 2 none ∷ get_or xs 3 none ∷ [])
      (get_or ys 0 0 ∷ get_or ys 1 0 ∷ get_or ys 2 0 ∷ get_or ys 3 0 ∷ [])) =
      (λ i. sum_by (λ (p : A × ℕ). of p.0 p.1) (zip (four_items none xs few i) (four_items 0 ys many i))) in omega arith
