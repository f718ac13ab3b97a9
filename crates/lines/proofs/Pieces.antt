-- Pieces written one behind the other.
use mathlib.Core.Path.{◌≡◌, sym, ap}
use mathlib.Core.List.{List, [], ◌∷◌}
use Prim.Native.Nat.{ℕ, ◌+◌, ◌≤◌, ◌<◌}
use native.Mathlib.Numerals.{add-one}
use lib.ListN.{length, get_or, drop, drop_of_length-le}
use lib.Seq.{drop-cons}
use Rattle.octets.specs.Octets.{written_at}
use Rattle.words.specs.Written.{place_after}
use Rattle.lines.specs.Answers.{place_all, written_all, numbers_spelt}

-- pieces behind the first one
module _ (to : List ℕ) (at : ℕ) (piece : List ℕ) {rest wanted : List (List ℕ)} {next : ℕ} {left : List ℕ} (p : next ≡ place_after to at piece) (l : left ≡ written_at to at piece) (e : rest ≡ wanted) where
  pub place_behind : place_all left next rest ≡ place_all to at (piece ∷ wanted)
  unfolding place_all
  place_behind = rw (p, l, e)

  pub left_behind : written_all left next rest ≡ written_all to at (piece ∷ wanted)
  unfolding written_all
  left_behind = rw (p, l, e)

-- two pieces
module _ (to : List ℕ) (at : ℕ) (first second : List ℕ) {next : ℕ} {left : List ℕ} (p : next ≡ place_after to at first) (l : left ≡ written_at to at first) where
  pub place_two : place_after left next second ≡ place_all to at (first ∷ second ∷ [])
  unfolding place_all
  place_two = rw (p, l)

  pub left_two : written_at left next second ≡ written_all to at (first ∷ second ∷ [])
  unfolding written_all
  left_two = rw (p, l)

-- one value more of the values from i on
module _ (to : List ℕ) (at : ℕ) (ns : List ℕ) (i next : ℕ) (left : List ℕ) (h : i < length ns) (p : next ≡ place_all to at (numbers_spelt (get_or ns i 0 ∷ []))) (l : left ≡ written_all to at (numbers_spelt (get_or ns i 0 ∷ []))) where
  pub place_step : place_all left next (numbers_spelt (drop (i + 1) ns)) ≡ place_all to at (numbers_spelt (drop i ns))
  unfolding place_all written_all numbers_spelt
  place_step = rw (p, l, add-one i) (ap (λ (d : List ℕ). place_all to at (numbers_spelt d)) (sym (drop-cons ns i 0 h)))

  pub left_step : written_all left next (numbers_spelt (drop (i + 1) ns)) ≡ written_all to at (numbers_spelt (drop i ns))
  unfolding place_all written_all numbers_spelt
  left_step = rw (p, l, add-one i) (ap (λ (d : List ℕ). written_all to at (numbers_spelt d)) (sym (drop-cons ns i 0 h)))

-- no value is left
module _ (to : List ℕ) (at : ℕ) (ns : List ℕ) (i : ℕ) (h : length ns ≤ i) where
  pub place_end : place_all to at (numbers_spelt (drop i ns)) ≡ at
  unfolding place_all numbers_spelt
  place_end = rw (drop_of_length-le ns {i = i} h)

  pub left_end : written_all to at (numbers_spelt (drop i ns)) ≡ to
  unfolding written_all numbers_spelt
  left_end = rw (drop_of_length-le ns {i = i} h)
