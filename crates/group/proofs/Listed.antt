-- The values of runs or passes, listed first to last, and the array that a loop fills with them.
use mathlib.Core.Path.{◌≡◌, refl, sym, ap, ◌∙◌}
use mathlib.Core.Logic.{by_cases}
use mathlib.Core.List.{List}
use Prim.Native.Nat.{ℕ, zero, suc, ◌+◌, ◌≤◌, ◌<◌}
use native.Mathlib.Decide.{dec_lt}
use native.Mathlib.Omega.{arith}
use lib.ListN.{length, get_or, set, take, length-take}
use lib.Seq.{ext_get_or, get_or-set_same, get_or-set_other, get_or-take}
use Rattle.group.specs.Listed.{listed}

-- a store at the next place keeps what was filled and adds its own
pub filled : (xs : List ℕ) (i v : ℕ) (f : ℕ → ℕ) → i < length xs → ((j : ℕ) → j < i → get_or xs j 0 ≡ f j) → v ≡ f i → (j : ℕ) → j < i + 1 → get_or (set xs i v) j 0 ≡ f j
filled xs i v f room before is j h =
    by_cases (dec_lt j i)
    (λ less. get_or-set_other xs i j v 0 (λ same. omega arith) ∙ before j less)
    (λ not-less. let same : j ≡ i = omega arith in ap (λ (m : ℕ). get_or (set xs i v) m 0) same ∙ get_or-set_same xs i v 0 room ∙ is ∙ ap f (sym same))

-- the list of values is what an array filled with them begins with
pub listed_value : (f : ℕ → ℕ) (n i j : ℕ) → j < n → get_or (listed f n i) j 0 ≡ f (i + j)
unfolding listed
listed_value f zero i j h = absurd (omega arith)
listed_value f (suc n) i zero h = ap f (omega arith)
listed_value f (suc n) i (suc j) h = listed_value f n (i + 1) j (omega arith) ∙ ap f (omega arith)

pub listed_length : (f : ℕ → ℕ) (n i : ℕ) → length (listed f n i) ≡ n
unfolding listed
listed_length f zero i = refl
listed_length f (suc n) i = ap suc (listed_length f n (i + 1))

-- an array filled so far begins with the list
pub filled_listed : (f : ℕ → ℕ) (xs : List ℕ) (n : ℕ) → n ≤ length xs → ((i : ℕ) → i < n → get_or xs i 0 ≡ f i) → take n xs ≡ listed f n 0
filled_listed f xs n room each =
    let size : length (take n xs) ≡ n = simp length-take (omega arith) in
    ext_get_or 0 (take n xs) (listed f n 0) (size ∙ sym (listed_length f n 0)) (λ i h. get_or-take n xs i 0 (omega arith) ∙ each i (omega arith) ∙ sym (listed_value f n 0 i (omega arith) ∙ ap f (omega arith)))
