-- The first qualifying group, once for every size n and limit: the group found lies within the values, qualifies, and is the first that
-- does; where none is found, none qualifies. And what 'qualifies' says of every two values.
use Rattle.std.specs.Prelude.{Some, None}
use mathlib.Core.Path.{◌≡◌, refl, sym, ◌∙◌, ap}
use mathlib.Core.Bool.{Bool, true, false}
use mathlib.Core.List.{List, [], ◌∷◌}
use Prim.Native.Nat.{ℕ, zero, suc, ◌+◌, ◌*◌, ◌-◌, ◌≤◌, ◌<◌}
use native.Mathlib.Nat.{mul-le-mul_left, add-sub_cancel_left}
use native.Mathlib.Omega.{arith}
use borrow.Author.Tests.{leb-true, le-leb}
use lib.Dec.{leb}
use lib.ListN.{length, get_or, take, drop, length-take, length-drop}
use lib.Seq.{take-take, take-nil, get_or-take, get_or-drop}
use Rattle.octets.specs.FirstToLast.{first_place, place_if}
use Rattle.octets.proofs.FirstToLast.{First, places, nowhere, start, place_no, place_first, place_none}
use Rattle.group.specs.Repeatability.{smallest, largest, qualifies, group_at, qualifies_at, first_group}
use Rattle.group.proofs.Bounds.{Among, smallest_below, largest_above, smallest_among, largest_among}

-- ---- a group and its values

pub group_length : (n : ℕ) (xs : List ℕ) (at : ℕ) → at + n ≤ length xs → length (group_at n xs at) ≡ n
unfolding group_at
group_length n xs at h = simp (length-take, length-drop) (omega arith)

pub group_value : (n : ℕ) (xs : List ℕ) (at j : ℕ) → j < n → get_or (group_at n xs at) j 0 ≡ get_or xs (at + j) 0
unfolding group_at
group_value n xs at j h = rw (get_or-take, get_or-drop)

-- a group's first value, and the rest of it
pub group_none : (xs : List ℕ) (at : ℕ) → group_at 0 xs at ≡ []
unfolding group_at
group_none xs at = refl

-- a part of a slice is a group
pub part_is_group : (n : ℕ) (xs : List ℕ) (at : ℕ) → take (at + n - at) (drop at xs) ≡ group_at n xs at
unfolding group_at
part_is_group n xs at = rw (add-sub_cancel_left at n)

-- the test of a part of a slice is the test at its place
pub part_qualifies : (limit n : ℕ) (xs : List ℕ) (at : ℕ) {t u : Bool} → t ≡ qualifies limit (take (at + n - at) (drop at xs)) → t ≡ u → qualifies_at limit n xs at ≡ u
unfolding qualifies_at
part_qualifies limit n xs at is told = ap (qualifies limit) (sym (part_is_group n xs at)) ∙ sym is ∙ told

-- of an array of which only the first `count` values are used
pub group_of_used : (n : ℕ) (xs : List ℕ) (at count : ℕ) → at + n ≤ count → group_at n (take count xs) at ≡ group_at n xs at
unfolding group_at
group_of_used n xs zero count h = take-take n count xs (omega arith)
group_of_used n [] (suc at) count h = rw (take-nil count)
group_of_used n (x ∷ xs) (suc at) zero h = absurd (omega arith)
group_of_used n (x ∷ xs) (suc at) (suc count) h = group_of_used n xs at count (omega arith)

-- ---- the test

pub qualifies_none : (limit : ℕ) (xs : List ℕ) → length xs ≡ 0 → qualifies limit xs ≡ false
unfolding qualifies
qualifies_none limit xs is = rw is

pub qualifies_some : (limit : ℕ) (xs : List ℕ) → 0 < length xs → qualifies limit xs ≡ leb ((largest xs - smallest xs) * 10000) (limit * smallest xs)
unfolding qualifies
qualifies_some limit xs h = rw (le-leb 1 (length xs) h)

-- every two values differ by no more than `limit` ten-thousandths of any
abbrev pub Repeats : ℕ → List ℕ → Type 0
Repeats limit xs = (j k m : ℕ) → j < length xs → k < length xs → m < length xs → (get_or xs j 0 - get_or xs k 0) * 10000 ≤ limit * get_or xs m 0

module _ (limit : ℕ) (xs : List ℕ) where
  pub qualifies_repeats : qualifies limit xs ≡ true → Repeats limit xs
  qualifies_repeats is j k m hj hk hm =
      let test : (largest xs - smallest xs) * 10000 ≤ limit * smallest xs = leb-true ((largest xs - smallest xs) * 10000) (limit * smallest xs) (sym (qualifies_some limit xs (omega arith)) ∙ is) in
      omega (arith, largest_above xs j hj, smallest_below xs k hk, mul-le-mul_left limit (smallest_below xs m hm))

  pub repeats_qualifies : 0 < length xs → Repeats limit xs → qualifies limit xs ≡ true
  repeats_qualifies h all =
      let low : Among xs (smallest xs) = smallest_among xs h in
      let high : Among xs (largest xs) = largest_among xs h in
      let test : (get_or xs high.place 0 - get_or xs low.place 0) * 10000 ≤ limit * get_or xs low.place 0 = all high.place low.place low.place high.inside low.inside low.inside in
      qualifies_some limit xs h ∙ le-leb ((largest xs - smallest xs) * 10000) (limit * smallest xs) (rw (high.is, low.is) at test)

-- ---- the first group

-- `at` is where the first qualifying group of n begins
pub record FirstGroup (limit n : ℕ) (xs : List ℕ) (at : ℕ) : Type 0 where
  pub within : at + n ≤ length xs
  pub qualified : qualifies limit (group_at n xs at) ≡ true
  pub before : (j : ℕ) → j < at → qualifies limit (group_at n xs j) ≡ false

module _ (limit n : ℕ) (xs : List ℕ) where
  pub first_found : {at : ℕ} → first_group limit n xs ≡ Some at → FirstGroup limit n xs at
  unfolding first_group qualifies_at
  first_found {at} is =
      let first : First (qualifies_at limit n xs) (length xs + 1 - n) 0 at = place_first (qualifies_at limit n xs) (length xs + 1 - n) 0 is in
      record { within = omega arith; qualified = first.passes; before = λ j h. first.before j (omega arith) h }

  pub none_found : first_group limit n xs ≡ None → (j : ℕ) → j + n ≤ length xs → qualifies limit (group_at n xs j) ≡ false
  unfolding first_group qualifies_at
  none_found is j h = place_none (qualifies_at limit n xs) (length xs + 1 - n) 0 is j (omega arith) (omega arith)

  pub found_none : ((j : ℕ) → j + n ≤ length xs → qualifies limit (group_at n xs j) ≡ false) → first_group limit n xs ≡ None
  unfolding first_group qualifies_at
  found_none all =
      nowhere places (place_if (qualifies_at limit n xs)) (length xs + 1 - n) 0 (λ j _ h. place_no (qualifies_at limit n xs) j (all j (omega arith)))

  -- no values are no group, and too few values have none
  pub none_of_no_size : n ≡ 0 → None ≡ first_group limit n xs
  none_of_no_size is = sym (found_none (λ j _. qualifies_none limit (group_at n xs j) (ap (λ (m : ℕ). length (group_at m xs j)) is ∙ ap length (group_none xs j))))

  pub none_of_too_few : length xs < n → None ≡ first_group limit n xs
  none_of_too_few h = sym (found_none (λ j fits. absurd (omega arith)))

  pub search_begins : first_group limit n xs ≡ first_place (qualifies_at limit n xs) (length xs + 1 - n - 0) 0
  unfolding first_group
  search_begins = start places (place_if (qualifies_at limit n xs)) (length xs + 1 - n)
