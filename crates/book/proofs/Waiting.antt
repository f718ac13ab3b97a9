-- Laws of a line's numbers when one more waits and when one leaves: which wait, how often, and at which place.
use Rattle.std.specs.Prelude.{Some, None, ltb, slice_get}
use Rattle.std.specs.List.{list_any, position, position_or_len}
use mathlib.Core.Path.{◌≡◌, refl, sym, ap, ◌∙◌}
use mathlib.Core.Bool.{Bool, true, false, ◌&&◌, ◌||◌, not, cond, or_assoc, or-true, true≢false}
use mathlib.Core.List.{List, [], ◌∷◌, ◌++◌}
use Prim.Native.Nat.{ℕ, zero, suc, ◌+◌, ◌≤◌, ◌<◌}
use native.Mathlib.Decide.{ℕ_discrete}
use native.Mathlib.Nat.{suc-add}
use native.Mathlib.Numerals.{add-one}
use native.Mathlib.Omega.{arith}
use borrow.Author.Tests.{lt-ltb, eq-eqb, ne_eqb, eqb-true, not-true}
use lib.Dec.{eqb}
use lib.ListN.{length, take, drop, get_or, drop_of_length-le}
use lib.Seq.{length-take-le, take-suc, drop-append-le}
use Rattle.octets.specs.Lists.{is_one_of}
use Rattle.book.specs.Line.{without, are_proper}
use Rattle.book.specs.Demand3.{times}
use Rattle.book.proofs.Bools.{both_first, both_second, both_true, not_of_false, neither_first, neither_second}
use Rattle.book.proofs.Lists.{given_up}

-- one where it happens
abbrev pub once : Bool → ℕ
once happens = cond happens 1 0

eqb_sym : (x y : ℕ) → eqb x y ≡ eqb y x
eqb_sym x y = by (ℕ_discrete x y)
  where
    by : Dec (x ≡ y) → eqb x y ≡ eqb y x
    by (yes same) = eq-eqb x y same ∙ sym (eq-eqb y x (sym same))
    by (no other) = ne_eqb x y other ∙ sym (ne_eqb y x (λ e. other (sym e)))

-- what the library's search for a number tells
pub contains_tells : (x : ℕ) (xs : List ℕ) → list_any (λ (y : ℕ). eqb y x) xs ≡ is_one_of x xs
unfolding is_one_of
contains_tells x [] = refl
contains_tells x (y ∷ ys) = λ i. eqb_sym y x i || contains_tells x ys i

-- proper numbers, one at a time
pub proper_first : (y : ℕ) (ys xs : List ℕ) (nought twice : Bool) → xs ≡ y ∷ ys → eqb y 0 ≡ nought → list_any (λ (z : ℕ). eqb z y) ys ≡ twice
    → are_proper xs ≡ (not nought && (not twice && are_proper ys))
unfolding are_proper
proper_first y ys xs nought twice is first second = ap are_proper is ∙ (λ i. not (first i) && (not ((sym (contains_tells y ys) ∙ second) i) && are_proper ys))

pub proper_none : (xs : List ℕ) → length xs ≡ 0 → are_proper xs ≡ true
unfolding are_proper
proper_none [] is = refl
proper_none (y ∷ ys) is = absurd (omega arith)

-- the parts of what proper numbers tell
module _ (y : ℕ) (ys : List ℕ) (proper : are_proper (y ∷ ys) ≡ true) where
  proper_head : not (eqb y 0) ≡ true
  unfolding are_proper
  proper_head = both_first (not (eqb y 0)) _ proper

  proper_alone : is_one_of y ys ≡ false
  unfolding are_proper
  proper_alone = not-true _ (both_first (not (is_one_of y ys)) _ (both_second (not (eqb y 0)) _ proper))

  proper_rest : are_proper ys ≡ true
  unfolding are_proper
  proper_rest = both_second (not (is_one_of y ys)) _ (both_second (not (eqb y 0)) _ proper)

-- a number that stands at a place is one of them
pub among_at : (x : ℕ) (xs : List ℕ) (k : ℕ) → k < length xs → get_or xs k 0 ≡ x → is_one_of x xs ≡ true
unfolding is_one_of
among_at x [] k h is = absurd (omega arith)
among_at x (y ∷ ys) zero h is = ap (λ (t : Bool). t || is_one_of x ys) (eq-eqb x y (sym is))
among_at x (y ∷ ys) (suc k) h is = ap (λ (t : Bool). eqb x y || t) (among_at x ys k (omega arith) is) ∙ or-true (eqb x y)

-- one more
pub among_append : (x : ℕ) (xs ys : List ℕ) → is_one_of x (xs ++ ys) ≡ (is_one_of x xs || is_one_of x ys)
unfolding is_one_of
among_append x [] ys = refl
among_append x (z ∷ zs) ys = ap (λ (t : Bool). eqb x z || t) (among_append x zs ys) ∙ sym (or_assoc (eqb x z) (is_one_of x zs) (is_one_of x ys))

-- a number passed over from a place on
pub missed_start : (x : ℕ) (xs : List ℕ) (from : ℕ) → from ≤ length xs → is_one_of x (drop from (take from xs)) ≡ false
unfolding is_one_of
missed_start x xs from h =
    let short : length (take from xs) ≤ from = rw (length-take-le from xs h) (omega arith) in
    ap (is_one_of x) (drop_of_length-le (take from xs) short)

pub missed_next : (x : ℕ) (xs : List ℕ) (from i : ℕ) → from ≤ i → i < length xs → (x ≡ get_or xs i 0 → ⊥) → is_one_of x (drop from (take i xs)) ≡ false → is_one_of x (drop from (take (i + 1) xs)) ≡ false
unfolding is_one_of
missed_next x xs from i l h other new =
    let long : length (take i xs) ≡ i = length-take-le i xs (omega arith) in
    ap (λ (n : ℕ). is_one_of x (drop from (take n xs))) (add-one i) ∙ ap (λ (ys : List ℕ). is_one_of x (drop from ys)) (take-suc xs i 0 h)
    ∙ ap (is_one_of x) (drop-append-le from (take i xs) (get_or xs i 0 ∷ []) (omega arith)) ∙ among_append x (drop from (take i xs)) (get_or xs i 0 ∷ [])
    ∙ (λ j. new j || (ne_eqb x (get_or xs i 0) other j || false))

pub proper_more : (x : ℕ) (xs : List ℕ) → are_proper xs ≡ true → is_one_of x xs ≡ false → (x ≡ 0 → ⊥) → are_proper (xs ++ (x ∷ [])) ≡ true
unfolding are_proper is_one_of
proper_more x [] proper new valid = both_true (not_of_false (ne_eqb x 0 valid)) refl
proper_more x (y ∷ ys) proper new valid =
    let other : eqb y x ≡ false = eqb_sym y x ∙ neither_first (eqb x y) (is_one_of x ys) new in
    let alone : is_one_of y (ys ++ (x ∷ [])) ≡ false = among_append y ys (x ∷ []) ∙ (λ i. proper_alone y ys proper i || (other i || false)) in
    let rest = proper_more x ys (proper_rest y ys proper) (neither_second (eqb x y) (is_one_of x ys) new) valid in
    both_true (proper_head y ys proper) (both_true (not_of_false alone) rest)

pub times-append : (x : ℕ) (xs ys : List ℕ) → times x (xs ++ ys) ≡ times x xs + times x ys
unfolding times
times-append x [] ys = omega arith
times-append x (z ∷ zs) ys = let rest = times-append x zs ys in omega arith

-- how often: not at all where it is not among them, at most once among proper numbers
pub times_none : (x : ℕ) (xs : List ℕ) → is_one_of x xs ≡ false → times x xs ≡ 0
unfolding times is_one_of
times_none x [] new = refl
times_none x (z ∷ zs) new =
    λ i. once (neither_first (eqb x z) (is_one_of x zs) new i) + times_none x zs (neither_second (eqb x z) (is_one_of x zs) new) i

pub times_once : (x : ℕ) (xs : List ℕ) → are_proper xs ≡ true → times x xs ≤ 1
unfolding times
times_once x [] proper = omega arith
times_once x (z ∷ zs) proper = by (ℕ_discrete x z) (times_once x zs (proper_rest z zs proper))
  where
    by : Dec (x ≡ z) → times x zs ≤ 1 → once (eqb x z) + times x zs ≤ 1
    by (yes same) rest =
        let none : times x zs ≡ 0 = times_none x zs (ap (λ (y : ℕ). is_one_of y zs) same ∙ proper_alone z zs proper) in
        rw (eq-eqb x z same) (omega arith)
    by (no other) rest = rw (ne_eqb x z other) (omega arith)

-- one leaves
pub length_without : (x : ℕ) (xs : List ℕ) → length (without x xs) ≤ length xs
unfolding without
length_without x [] = omega arith
length_without x (z ∷ zs) = by (eqb x z) (length_without x zs)
  where
    by : (t : Bool) → length (without x zs) ≤ length zs → length (cond t zs (z ∷ without x zs)) ≤ suc (length zs)
    by true rest = omega arith
    by false rest = omega arith

among_without : (x y : ℕ) (xs : List ℕ) → is_one_of y xs ≡ false → is_one_of y (without x xs) ≡ false
unfolding without is_one_of
among_without x y [] new = refl
among_without x y (z ∷ zs) new = by (eqb x z) (among_without x y zs (neither_second (eqb y z) (is_one_of y zs) new))
  where
    by : (t : Bool) → is_one_of y (without x zs) ≡ false → is_one_of y (cond t zs (z ∷ without x zs)) ≡ false
    by true rest = neither_second (eqb y z) (is_one_of y zs) new
    by false rest = λ i. neither_first (eqb y z) (is_one_of y zs) new i || rest i

pub proper_without : (x : ℕ) (xs : List ℕ) → are_proper xs ≡ true → are_proper (without x xs) ≡ true
unfolding without are_proper
proper_without x [] proper = refl
proper_without x (z ∷ zs) proper = by (eqb x z) (proper_without x zs (proper_rest z zs proper))
  where
    by : (t : Bool) → are_proper (without x zs) ≡ true → are_proper (cond t zs (z ∷ without x zs)) ≡ true
    by true rest = proper_rest z zs proper
    by false rest = both_true (proper_head z zs proper) (both_true (not_of_false (among_without x z zs (proper_alone z zs proper))) rest)

-- the one that leaves is one fewer, and every other is as many
pub times_without : (x y : ℕ) (xs : List ℕ) → is_one_of y xs ≡ true → times x xs ≡ once (eqb x y) + times x (without y xs)
unfolding without is_one_of times
times_without x y [] waits = absurd (true≢false (sym waits))
times_without x y (z ∷ zs) waits = by (eqb y z) refl waits (times_without x y zs)
  where
    by : (t : Bool) → eqb y z ≡ t → (t || is_one_of y zs) ≡ true → (is_one_of y zs ≡ true → times x zs ≡ once (eqb x y) + times x (without y zs))
        → once (eqb x z) + times x zs ≡ once (eqb x y) + times x (cond t zs (z ∷ without y zs))
    by true is w rest = ap (λ (k : ℕ). once (eqb x k) + times x zs) (sym (eqb-true y z is))
    by false is w rest = let r = rest w in omega arith

-- the oldest leaves first
pub oldest_without : (xs : List ℕ) → 0 < length xs → without (get_or xs 0 0) xs ≡ drop 1 xs
unfolding without
oldest_without [] h = absurd (omega arith)
oldest_without (y ∷ ys) h = ap (λ (t : Bool). cond t ys (y ∷ without y ys)) (eq-eqb y y refl)

-- the first place that holds a number is the one that it gives up
pub without_at : (x : ℕ) (xs : List ℕ) (p : ℕ) → p < length xs → is_one_of x (take p xs) ≡ false → get_or xs p 0 ≡ x → given_up p xs ≡ without x xs
unfolding given_up without is_one_of
without_at x [] p h new is = absurd (omega arith)
without_at x (y ∷ ys) zero h new is = sym (ap (λ (t : Bool). cond t ys (y ∷ without x ys)) (eq-eqb x y (sym is)))
without_at x (y ∷ ys) (suc p) h new is =
    let other = neither_first (eqb x y) (is_one_of x (take p ys)) new in
    let rest = without_at x ys p (omega arith) (neither_second (eqb x y) (is_one_of x (take p ys)) new) is in
    ap (λ (n : ℕ). y ∷ take p ys ++ drop n (y ∷ ys)) (suc-add p 1) ∙ ap (λ (l : List ℕ). y ∷ l) rest
    ∙ sym (ap (λ (t : Bool). cond t ys (y ∷ without x ys)) other)

-- the first place that holds a number, or how many there are where none does
abbrev pub place_of : ℕ → List ℕ → ℕ
place_of x xs = position_or_len (λ (y : ℕ). eqb y x) xs

pub place_found : (x : ℕ) (xs : List ℕ) → is_one_of x xs ≡ true → place_of x xs < length xs
unfolding is_one_of
place_found x [] is = absurd (true≢false (sym is))
place_found x (y ∷ ys) is = by (eqb y x) refl (place_found x ys)
  where
    by : (t : Bool) → eqb y x ≡ t → (is_one_of x ys ≡ true → place_of x ys < length ys) → cond (not t) (1 + place_of x ys) 0 < suc (length ys)
    by true same rest = omega arith
    by false other rest = let further = rest (ap (λ (t : Bool). t || is_one_of x ys) (sym (eqb_sym x y ∙ other)) ∙ is) in omega arith

-- it is the one that the number gives up
pub place_gives_up : (x : ℕ) (xs : List ℕ) → is_one_of x xs ≡ true → given_up (place_of x xs) xs ≡ without x xs
unfolding given_up without is_one_of
place_gives_up x [] is = absurd (true≢false (sym is))
place_gives_up x (y ∷ ys) is = by (eqb y x) refl (place_gives_up x ys)
  where
    by : (t : Bool) → eqb y x ≡ t → (is_one_of x ys ≡ true → given_up (place_of x ys) ys ≡ without x ys)
        → given_up (cond (not t) (1 + place_of x ys) 0) (y ∷ ys) ≡ cond (eqb x y) ys (y ∷ without x ys)
    by true same rest = sym (ap (λ (t : Bool). cond t ys (y ∷ without x ys)) (eqb_sym x y ∙ same))
    by false other rest =
        let p = place_of x ys in
        let next : 1 + p ≡ suc p = omega arith in
        let further = rest (ap (λ (t : Bool). t || is_one_of x ys) (sym (eqb_sym x y ∙ other)) ∙ is) in
        ap (λ (n : ℕ). given_up n (y ∷ ys)) next ∙ ap (λ (n : ℕ). y ∷ take p ys ++ drop n (y ∷ ys)) (suc-add p 1) ∙ ap (λ (l : List ℕ). y ∷ l) further
        ∙ sym (ap (λ (t : Bool). cond t ys (y ∷ without x ys)) (eqb_sym x y ∙ other))

-- what the library's search for its place finds
pub place_is : (x : ℕ) (xs : List ℕ) → is_one_of x xs ≡ true → position (λ (y : ℕ). eqb y x) xs ≡ Some (place_of x xs)
place_is x xs is = ap (λ (t : Bool). cond t (Some (place_of x xs)) None) (lt-ltb _ _ (place_found x xs is))

-- a number stands no further back than k others
pub record Stands (x : ℕ) (xs : List ℕ) (k : ℕ) : Type 0 where
  pub place : ℕ
  pub near : place ≤ k
  pub within : place < length xs
  pub there : get_or xs place 0 ≡ x

-- where another leaves it comes no further back
pub stands_without : (x y : ℕ) (xs : List ℕ) (p : ℕ) → (x ≡ y → ⊥) → p < length xs → get_or xs p 0 ≡ x → Stands x (without y xs) p
unfolding without
stands_without x y [] p other h is = absurd (omega arith)
stands_without x y (z ∷ zs) zero other h is = by (eqb y z) refl
  where
    by : (t : Bool) → eqb y z ≡ t → Stands x (cond t zs (z ∷ without y zs)) 0
    by true same = absurd (other (sym is ∙ sym (eqb-true y z same)))
    by false same = record { place = 0; near = omega arith; within = omega arith; there = is }
stands_without x y (z ∷ zs) (suc p) other h is = by (eqb y z) (stands_without x y zs p other (omega arith) is)
  where
    by : (t : Bool) → Stands x (without y zs) p → Stands x (cond t zs (z ∷ without y zs)) (suc p)
    by true rest = record { place = p; near = omega arith; within = omega arith; there = is }
    by false rest = record { place = suc rest.place; near = omega arith; within = omega arith; there = rest.there }

-- the first of some numbers, if there is one
pub oldest : (xs : List ℕ) (n : ℕ) → Some n ≡ slice_get xs 0 → (ltb 0 (length xs) ≡ true) × (n ≡ get_or xs 0 0)
oldest [] n is = (cc, cc)
oldest (x ∷ xs) n is = (lt-ltb 0 _ (omega arith), cc)

pub nobody : (xs : List ℕ) → None ≡ slice_get xs 0 → ltb 0 (length xs) ≡ false
nobody [] is = refl
nobody (x ∷ xs) is = cc
