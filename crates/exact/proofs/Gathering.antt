-- Figures of a list that a loop gathers value by value (its sum, smallest, largest): the invariant of all of them, once. With x gathered from the
-- values before place i and v the figure of all, the loop stands at `f (x ∷ drop i xs) ≡ v`.
use mathlib.Core.Path.{◌≡◌, sym, ◌∙◌, ap}
use mathlib.Core.List.{List, [], ◌∷◌}
use Prim.Native.Nat.{ℕ, ◌+◌, ◌≤◌, ◌<◌}
use native.Mathlib.Nat.{add-zero}
use native.Mathlib.Numerals.{add-one}
use native.Mathlib.Omega.{arith}
use lib.ListN.{length, get_or, drop, drop_of_length-le}
use lib.Seq.{drop-cons}
use Rattle.exact.specs.Words.{sum_of}

-- of one value it is that value, and two values may be joined first
pub record Gathered (f : List ℕ → ℕ) (join : ℕ → ℕ → ℕ) : Type 0 where
  pub alone : (x : ℕ) → f (x ∷ []) ≡ x
  pub joined : (x y : ℕ) (ys : List ℕ) → f (x ∷ (y ∷ ys)) ≡ f (join x y ∷ ys)

module _ {f : List ℕ → ℕ} {join : ℕ → ℕ → ℕ} (kind : Gathered f join) (xs : List ℕ) where
  -- the first value is gathered
  pub begun : 0 < length xs → f (get_or xs 0 0 ∷ drop 1 xs) ≡ f xs
  begun h = ap f (sym (drop-cons xs 0 0 h))

module _ {f : List ℕ → ℕ} {join : ℕ → ℕ → ℕ} (kind : Gathered f join) (xs : List ℕ) {v : ℕ} where
  -- one value more
  pub next : {x : ℕ} (i : ℕ) → i < length xs → f (x ∷ drop i xs) ≡ v → f (join x (get_or xs i 0) ∷ drop (i + 1) xs) ≡ v
  next {x} i h at =
      let rest : drop i xs ≡ get_or xs i 0 ∷ drop (i + 1) xs = rw (add-one) (drop-cons xs i 0 h) in
      sym (kind.joined x (get_or xs i 0) (drop (i + 1) xs)) ∙ ap (λ (l : List ℕ). f (x ∷ l)) (sym rest) ∙ at

  -- past the last value
  pub finished : {x : ℕ} (i : ℕ) → length xs ≤ i → f (x ∷ drop i xs) ≡ v → x ≡ v
  finished {x} i h at = sym (kind.alone x) ∙ ap (λ (l : List ℕ). f (x ∷ l)) (sym (drop_of_length-le xs h)) ∙ at

pub sum_gathered : Gathered sum_of ◌+◌
unfolding sum_of
sum_gathered = record { alone = λ x. add-zero x; joined = λ x y ys. omega arith }
