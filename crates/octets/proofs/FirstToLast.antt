-- The laws of 'first to last', once for every kind of search. A search for x of which the places below i have been
-- passed stands at `x ≡ first_to_last or nothing f (n - i) i`, n being one past the last place: the invariant of every loop.
use Rattle.std.specs.Prelude.{Option, None, Some}
use mathlib.Core.Path.{◌≡◌, refl, sym, ◌∙◌, ap}
use mathlib.Core.Logic.{◌⊎◌, inl, inr, ⊎_elim}
use mathlib.Core.Bool.{Bool, true, false, ◌&&◌, cond}
use Prim.Native.Nat.{ℕ, zero, suc, ◌+◌, ◌-◌, ◌≤◌, ◌<◌}
use native.Mathlib.Nat.{sub-zero, sub-eq-zero_of_le, eq-or-lt_of_le}
use native.Mathlib.Omega.{arith}
use Rattle.refusals.specs.Told.{Fault, fine, fault, or_else}
use Rattle.octets.specs.FirstToLast.{first_to_last, scan, holds_all, or_next, place_if, first_place}

-- what makes `or` a search: `nothing` passes to the next place, and anything else ends it
pub record Search {A : Type 0} (or : A → A → A) (nothing : A) : Type 0 where
  pub passes : (y : A) → or nothing y ≡ y
  pub ends : (x : A) → (x ≡ nothing) ⊎ ((y : A) → or x y ≡ x)

-- each place from i on and before k gives nothing
abbrev pub NothingBefore : {A : Type 0} → A → (ℕ → A) → ℕ → ℕ → Type 0
NothingBefore nothing f i k = (j : ℕ) → i ≤ j → j < k → f j ≡ nothing

-- x is what f gives at the least of n places from i on at which it gives anything
pub record Least {A : Type 0} (nothing : A) (f : ℕ → A) (n i : ℕ) (x : A) : Type 0 where
  pub place : ℕ
  pub from : i ≤ place
  pub below : place < i + n
  pub gives : f place ≡ x
  pub before : NothingBefore nothing f i place

module _ {A : Type 0} {or : A → A → A} {nothing : A} (kind : Search or nothing) (f : ℕ → A) where
  -- where a search from place 0 begins
  pub start : (n : ℕ) → first_to_last or nothing f n 0 ≡ first_to_last or nothing f (n - 0) 0
  start n = rw (sub-zero n)

  -- one place more
  pub step : (n i : ℕ) → i < n → first_to_last or nothing f (n - i) i ≡ or (f i) (first_to_last or nothing f (n - (i + 1)) (i + 1))
  unfolding first_to_last
  step n i h =
      let more : n - i ≡ suc (n - (i + 1)) = omega arith in
      ap (λ (m : ℕ). first_to_last or nothing f m i) more

  -- a place that gives nothing is passed
  pub next : {x : A} (n i : ℕ) → i < n → f i ≡ nothing → x ≡ first_to_last or nothing f (n - i) i → x ≡ first_to_last or nothing f (n - (i + 1)) (i + 1)
  next n i h miss at =
      at ∙ step n i h ∙ ap (λ (a : A). or a (first_to_last or nothing f (n - (i + 1)) (i + 1))) miss ∙ kind.passes (first_to_last or nothing f (n - (i + 1)) (i + 1))

  -- a place that ends the search gives what is found
  pub hit : {x : A} (n i : ℕ) → i < n → ((y : A) → or (f i) y ≡ f i) → x ≡ first_to_last or nothing f (n - i) i → x ≡ f i
  hit n i h ends at = at ∙ step n i h ∙ ends (first_to_last or nothing f (n - (i + 1)) (i + 1))

  -- past the last place nothing is found
  pub done : {x : A} (n i : ℕ) → n ≤ i → x ≡ first_to_last or nothing f (n - i) i → x ≡ nothing
  unfolding first_to_last
  done n i h at = at ∙ ap (λ (m : ℕ). first_to_last or nothing f m i) (sub-eq-zero_of_le h)

  -- places that all give nothing
  pub nowhere : (n i : ℕ) → NothingBefore nothing f i (i + n) → first_to_last or nothing f n i ≡ nothing
  unfolding first_to_last
  nowhere zero i all = refl
  nowhere (suc n) i all =
      let rest : first_to_last or nothing f n (i + 1) ≡ nothing = nowhere n (i + 1) (λ j l h. all j (omega arith) (omega arith)) in
      ap (λ (a : A). or a (first_to_last or nothing f n (i + 1))) (all i (omega arith) (omega arith)) ∙ kind.passes (first_to_last or nothing f n (i + 1)) ∙ rest

  -- functions that agree at each place find the same
  pub same : (g : ℕ → A) (n i : ℕ) → ((j : ℕ) → i ≤ j → j < i + n → f j ≡ g j) → first_to_last or nothing f n i ≡ first_to_last or nothing g n i
  unfolding first_to_last
  same g zero i agree = refl
  same g (suc n) i agree =
      let here : f i ≡ g i = agree i (omega arith) (omega arith) in
      let rest : first_to_last or nothing f n (i + 1) ≡ first_to_last or nothing g n (i + 1) = same g n (i + 1) (λ j l h. agree j (omega arith) (omega arith)) in
      λ t. or (here t) (rest t)

  -- where nothing is found, each place gives nothing
  pub empty : (n i : ℕ) → first_to_last or nothing f n i ≡ nothing → NothingBefore nothing f i (i + n)
  unfolding first_to_last
  empty zero i is j l h = absurd (omega arith)
  empty (suc n) i is j l h =
      let rest : A = first_to_last or nothing f n (i + 1) in
      ⊎_elim
      (λ (miss : f i ≡ nothing).
      let later : rest ≡ nothing = sym (kind.passes rest) ∙ ap (λ (a : A). or a rest) (sym miss) ∙ is in
      ⊎_elim
      (λ (here : i ≡ j). ap f (sym here) ∙ miss)
      (λ (past : i < j). empty n (i + 1) later j (omega arith) (omega arith))
      (eq-or-lt_of_le l))
      (λ (ends : (y : A) → or (f i) y ≡ f i).
      let here : f i ≡ nothing = sym (ends rest) ∙ is in
      sym (kind.passes (f j)) ∙ ap (λ (a : A). or a (f j)) (sym here) ∙ ends (f j) ∙ here)
      (kind.ends (f i))

  -- what is found is what the least place gives, of those that give anything
  pub least : {x : A} (n i : ℕ) → first_to_last or nothing f n i ≡ x → (x ≡ nothing → ⊥) → Least nothing f n i x
  unfolding first_to_last
  least zero i is found = absurd (found (sym is))
  least {x} (suc n) i is found =
      let rest : A = first_to_last or nothing f n (i + 1) in
      ⊎_elim
      (λ (miss : f i ≡ nothing).
      let later : rest ≡ x = sym (kind.passes rest) ∙ ap (λ (a : A). or a rest) (sym miss) ∙ is in
      let found_later : Least nothing f n (i + 1) x = least n (i + 1) later found in
      record {
        place =
            found_later.place;
        from = omega arith;
        below = omega arith;
        gives = found_later.gives;
        before = λ j l h. ⊎_elim (λ (here : i ≡ j). ap f (sym here) ∙ miss)
            (λ (past : i < j). found_later.before j (omega arith) h) (eq-or-lt_of_le l);
      })
      (λ (ends : (y : A) → or (f i) y ≡ f i).
      record { place = i; from = omega arith; below = omega arith; gives = sym (ends rest) ∙ is; before = λ j l h. absurd (omega arith) })
      (kind.ends (f i))

  -- what the least place gives is what is found
  pub found : {x : A} (n i : ℕ) → Least nothing f n i x → ((y : A) → or x y ≡ x) → first_to_last or nothing f n i ≡ x
  unfolding first_to_last
  found zero i at ends = absurd (omega arith)
  found {x} (suc n) i at ends =
      let rest : A = first_to_last or nothing f n (i + 1) in
      ⊎_elim
      (λ (here : i ≡ at.place). ap (λ (a : A). or a rest) (ap f here ∙ at.gives) ∙ ends rest)
      (λ (past : i < at.place).
      ap (λ (a : A). or a rest) (at.before i (omega arith) past) ∙ kind.passes rest ∙ found n (i + 1) (record { place = at.place; from = omega arith; below = omega arith; gives = at.gives; before = λ j l h. at.before j (omega arith) h }) ends)
      (eq-or-lt_of_le at.from)

-- ---- the first fault

fault_ends : (x : Fault) → (x ≡ fine) ⊎ ((y : Fault) → or_else x y ≡ x)
fault_ends fine = inl refl
fault_ends (fault number at) = inr (λ y. refl)

pub faults : Search or_else fine
faults = record { passes = λ y. refl; ends = fault_ends }

pub scan_hit : {x : Fault} {number at : ℕ} (f : ℕ → Fault) (n i : ℕ) → i < n → f i ≡ fault number at → x ≡ scan f (n - i) i → x ≡ fault number at
scan_hit f n i h is at = hit faults f n i h (rw is (λ y. refl)) at ∙ is

-- the fault found is the one at the least place, and every earlier place is fine
pub scan_least : {number at : ℕ} (f : ℕ → Fault) (n i : ℕ) → scan f n i ≡ fault number at → Least fine f n i (fault number at)
scan_least f n i is = least faults f n i is (λ is_fine. let z : ◌≡◌ {A = ℕ} 0 1 = cc in omega arith)

-- ---- each place passes a test

test_ends : (x : Bool) → (x ≡ true) ⊎ ((y : Bool) → (x && y) ≡ x)
test_ends true = inl refl
test_ends false = inr (λ y. refl)

pub tests : Search ◌&&◌ true
tests = record { passes = λ y. refl; ends = test_ends }

pub all_hit : {x : Bool} (test : ℕ → Bool) (n i : ℕ) → i < n → test i ≡ false → x ≡ holds_all test (n - i) i → x ≡ false
all_hit test n i h is at = hit tests test n i h (rw is (λ y. refl)) at ∙ is

-- ---- the first place that passes a test

place_ends : (x : Option ℕ) → (x ≡ None) ⊎ ((y : Option ℕ) → or_next x y ≡ x)
place_ends None = inl refl
place_ends (Some k) = inr (λ y. refl)

pub places : Search or_next None
places = record { passes = λ y. refl; ends = place_ends }

pub place_yes : (test : ℕ → Bool) (k : ℕ) → test k ≡ true → place_if test k ≡ Some k
unfolding place_if
place_yes test k is = rw is

pub place_no : (test : ℕ → Bool) (k : ℕ) → test k ≡ false → place_if test k ≡ None
unfolding place_if
place_no test k is = rw is

-- a place is given exactly by a test that holds there
given_yes : (b : Bool) (p k : ℕ) → ◌≡◌ {A = Option ℕ} (cond b (Some p) None) (Some k) → (b ≡ true) × (p ≡ k)
given_yes true p k is = (refl, (cc))
given_yes false p k is = ((cc), (cc))

given_no : (b : Bool) (p : ℕ) → ◌≡◌ {A = Option ℕ} (cond b (Some p) None) None → b ≡ false
given_no true p is = cc
given_no false p is = refl

pub place_next : {x : Option ℕ} (test : ℕ → Bool) (n i : ℕ) → i < n → test i ≡ false → x ≡ first_place test (n - i) i → x ≡ first_place test (n - (i + 1)) (i + 1)
place_next test n i h is at = next places (place_if test) n i h (place_no test i is) at

pub place_hit : {x : Option ℕ} (test : ℕ → Bool) (n i : ℕ) → i < n → test i ≡ true → x ≡ first_place test (n - i) i → x ≡ Some i
place_hit test n i h is at = hit places (place_if test) n i h (rw (place_yes test i is) (λ y. refl)) at ∙ place_yes test i is

-- k is the first of n places from i on that passes the test
pub record First (test : ℕ → Bool) (n i k : ℕ) : Type 0 where
  pub from : i ≤ k
  pub below : k < i + n
  pub passes : test k ≡ true
  pub before : (j : ℕ) → i ≤ j → j < k → test j ≡ false

pub place_first : {k : ℕ} (test : ℕ → Bool) (n i : ℕ) → first_place test n i ≡ Some k → First test n i k
unfolding place_if
place_first {k} test n i is =
    let at : Least None (place_if test) n i (Some k) = least places (place_if test) n i is (λ is_none. let z : ◌≡◌ {A = ℕ} 0 1 = cc in omega arith) in
    let here : (test at.place ≡ true) × (at.place ≡ k) = given_yes (test at.place) at.place k at.gives in
    record { from = omega arith; below = omega arith; passes = ap test (sym here.1) ∙ here.0; before = λ j l h. given_no (test j) j (at.before j l (omega arith)) }

pub first-place : {k : ℕ} (test : ℕ → Bool) (n i : ℕ) → First test n i k → first_place test n i ≡ Some k
first-place {k} test n i at =
    found places (place_if test) n i (record { place = k; from = at.from; below = at.below; gives = place_yes test k at.passes; before = λ j l h. place_no test j (at.before j l h) }) (λ y. refl)

pub place_none : (test : ℕ → Bool) (n i : ℕ) → first_place test n i ≡ None → (j : ℕ) → i ≤ j → j < i + n → test j ≡ false
unfolding place_if
place_none test n i is j l h = given_no (test j) j (empty places (place_if test) n i is j l h)
