-- The groups of a slice one after another, as `windows` gives them, and where the first is that passes a test.
use mathlib.Core.Path.{◌≡◌, refl, sym, ap, ◌∙◌}
use mathlib.Core.Bool.{Bool, true, false, cond, not}
use mathlib.Core.Logic.{by_cases}
use mathlib.Core.List.{List, [], ◌∷◌}
use Prim.Native.Nat.{ℕ, zero, suc, ◌+◌, ◌-◌, ◌<◌, ◌≤◌}
use native.Mathlib.Decide.{dec_lt}
use native.Mathlib.Omega.{arith}
use borrow.Author.Tests.{lt-ltb, le-ltb}
use lib.Dec.{ltb}
use lib.ListN.{length, take, drop}
use Rattle.std.specs.Prelude.{Option, Some, None}
use Rattle.std.specs.List.{position_or_len}
use Rattle.std.specs.Slice.Iter.{windows_rest, windows_size, windows_steps}
use Rattle.std.proofs.lemmas.Iterator.{YieldsList}
use Rattle.std.proofs.lemmas.Iterator.Splits.{YieldsList-from_shown_while}
use Rattle.octets.specs.FirstToLast.{first_to_last, first_place, place_if, or_next}
use Rattle.group.specs.Repeatability.{qualifies, group_at, qualifies_at, first_group}

-- the first m groups of n
pub windows_of : ℕ → ℕ → List ℕ → List (List ℕ)
windows_of zero n xs = []
windows_of (suc m) n xs = take n xs ∷ windows_of m n (drop 1 xs)

windows_length : (m n : ℕ) (xs : List ℕ) → length (windows_of m n xs) ≡ m
unfolding windows_of
windows_length zero n xs = refl
windows_length (suc m) n xs = ap suc (windows_length m n (drop 1 xs))

later : (xs : List ℕ) (j : ℕ) → drop j (drop 1 xs) ≡ drop (suc j) xs
later [] zero = refl
later [] (suc j) = refl
later (x ∷ xs) j = refl

-- the groups of all
pub groups : ℕ → List ℕ → List (List ℕ)
groups n xs = windows_of (length xs + 1 - n) n xs

none_left : (n : ℕ) (xs : List ℕ) → length xs < n → length (groups n xs) ≡ 0
unfolding groups
none_left n xs h = windows_length (length xs + 1 - n) n xs ∙ omega arith

one_more : (n : ℕ) (xs : List ℕ) → 0 < n → n ≤ length xs → groups n xs ≡ take n xs ∷ groups n (drop 1 xs)
unfolding groups windows_of
one_more n [] some h = absurd (omega arith)
one_more n (x ∷ xs) some h =
    let more : length (x ∷ xs) + 1 - n ≡ suc (length xs + 1 - n) = omega arith in
    ap (λ (m : ℕ). windows_of m n (x ∷ xs)) more

pub groups_yielded : {s : _} (n : ℕ) (xs : List ℕ) → windows_size s ≡ n → windows_rest s ≡ xs → 0 < n → YieldsList (windows_steps {A = ℕ}) (λ w. w.now) s (groups n xs)
groups_yielded {s} n xs size rest some =
    rw (← size, ← rest)
    (YieldsList-from_shown_while windows_steps (λ w. w.now) (λ t. groups (windows_size t) (windows_rest t)) (λ t. 0 < windows_size t)
    (λ t u some step. none_left (windows_size t) (windows_rest t) step.1.0)
    (λ t w u some step. (omega arith, one_more (windows_size t) (windows_rest t) some step.1.0 ∙ sym (λ i. step.1.1 i ∷ groups (step.0 i) (step.1.2 i))))
    s (omega arith))

-- the first place of m from i on, by a test of the groups at those places
place_among : ℕ → ℕ → ℕ → Option ℕ
place_among m i p = cond (ltb p m) (Some (i + p)) None

first_or_later : (b : Bool) (p m i : ℕ) → or_next (cond b (Some i) None) (place_among m (i + 1) p) ≡ place_among (suc m) i (cond (not b) (1 + p) 0)
unfolding place_among
first_or_later true p m i = rw (lt-ltb 0 (suc m) (omega arith)) (ap Some (omega arith))
first_or_later false p m i =
    by_cases (dec_lt p m)
    (λ less. rw (lt-ltb p m less, lt-ltb (1 + p) (suc m) (omega arith)) (ap Some (omega arith)))
    (λ more. rw (le-ltb p m (omega arith), le-ltb (1 + p) (suc m) (omega arith)))

module _ (test : List ℕ → Bool) (n : ℕ) (f : ℕ → Bool) where
  place_is : (m i : ℕ) (xs : List ℕ) → ((j : ℕ) → j < m → f (i + j) ≡ test (take n (drop j xs))) → first_place f m i ≡ place_among m i (position_or_len test (windows_of m n xs))
  unfolding first_to_last place_if place_among windows_of
  place_is zero i xs agree = refl
  place_is (suc m) i xs agree =
      let rest : first_place f m (i + 1) ≡ place_among m (i + 1) (position_or_len test (windows_of m n (drop 1 xs))) =
      place_is m (i + 1) (drop 1 xs) (λ j h. ap f (omega arith) ∙ agree (suc j) (omega arith) ∙ ap (λ (l : List ℕ). test (take n l)) (sym (later xs j))) in
      let here : f i ≡ test (take n xs) = ap f (omega arith) ∙ agree 0 (omega arith) in
      (λ t. or_next (cond (here t) (Some i) None) (rest t)) ∙ first_or_later (test (take n xs)) (position_or_len test (windows_of m n (drop 1 xs))) m i

pub first_position : (limit n : ℕ) (xs : List ℕ) →
    cond (ltb (position_or_len (qualifies limit) (groups n xs)) (length (groups n xs))) (Some (position_or_len (qualifies limit) (groups n xs))) None ≡ first_group limit n xs
unfolding first_group qualifies_at group_at groups place_among
first_position limit n xs =
    let p = position_or_len (qualifies limit) (groups n xs) in
    let m = length xs + 1 - n in
    rw (windows_length m n xs)
    (ap (λ (k : ℕ). cond (ltb p m) (Some k) None) (omega arith) ∙ sym (place_is (qualifies limit) n (qualifies_at limit n xs) m 0 xs (λ j h. ap (qualifies_at limit n xs) (omega arith))))
