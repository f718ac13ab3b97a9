-- The words of a line by their kinds.
use mathlib.Core.Path.{◌≡◌, refl, sym, ap}
use Rattle.std.specs.Prelude.{Option, None, Some, is_some}
use Rattle.std.specs.Option.{unwrap_or}
use Rattle.std.specs.List.{list_all, enumerate_from}
use lib.IntN.{ℤ}
use mathlib.Core.Bool.{Bool, true, false, ◌&&◌}
use mathlib.Core.List.{List, [], ◌∷◌}
use Prim.Native.Nat.{ℕ, suc, ◌+◌, ◌≤◌, ◌<◌}
use native.Mathlib.Numerals.{add-one}
use borrow.Author.Tests.{lt-leb, le-leb}
use lib.Dec.{leb}
use lib.ListN.{length, get_or, take, drop, drop_of_length-le}
use lib.Seq.{drop-cons}
use Rattle.words.specs.Words.{word_of, word_count}
use Rattle.lines.specs.Operands.{is_number, is_signed, or_zero, is_kind, are_kinds, has_form}

pub is_number_is : (number : Option ℕ) → is_some number ≡ is_number number
is_number_is None = refl
is_number_is (Some v) = refl

pub is_signed_is : (signed : Option ℤ) → is_some signed ≡ is_signed signed
is_signed_is None = refl
is_signed_is (Some v) = refl

pub or_zero_is : (number : Option ℕ) → unwrap_or number 0 ≡ or_zero number
or_zero_is None = refl
or_zero_is (Some v) = refl

abbrev pub kind_at : List ℕ → ℕ × ℕ → Bool
kind_at line p = is_kind p.1 (word_of p.0 line)

pub all_kinds : (line kinds : List ℕ) (n : ℕ) → list_all (kind_at line) (enumerate_from n kinds) ≡ are_kinds n line kinds
unfolding are_kinds
all_kinds line [] n = refl
all_kinds line (kind ∷ kinds) n = rw (add-one n) (ap (λ (rest : Bool). is_kind kind (word_of n line) && rest) (all_kinds line kinds (suc n)))

module _ (line kinds : List ℕ) (i : ℕ) where
  pub kinds_stop : i < length kinds → is_kind (get_or kinds i 0) (word_of i line) ≡ false → are_kinds i line (drop i kinds) ≡ false
  unfolding are_kinds
  kinds_stop h other = rw (drop-cons kinds i 0 h, other)

  pub kinds_step : i < length kinds → is_kind (get_or kinds i 0) (word_of i line) ≡ true → are_kinds i line (drop i kinds) ≡ are_kinds (i + 1) line (drop (i + 1) kinds)
  unfolding are_kinds
  kinds_step h is = rw (add-one i, drop-cons kinds i 0 h, is)

  pub kinds_end : length kinds ≤ i → are_kinds i line (drop i kinds) ≡ true
  unfolding are_kinds
  kinds_end h = rw (drop_of_length-le kinds {i = i} h)

-- so many words of a line, held to the kinds
module _ {count : ℕ} (least : ℕ) (line kinds : List ℕ) (e : count ≡ word_count line) where
  pub too_many : length kinds < count → false ≡ has_form least line kinds
  unfolding has_form
  too_many h = rw (sym e, lt-leb count (length kinds) h)

  pub not_too_many : count ≤ length kinds → (leb least count && are_kinds 0 line (take count kinds)) ≡ has_form least line kinds
  unfolding has_form
  not_too_many h = rw (sym e, le-leb count (length kinds) h)

  pub too_few : count ≤ length kinds → count < least → leb least count ≡ has_form least line kinds
  unfolding has_form
  too_few h few = rw (sym e, le-leb count (length kinds) h, lt-leb least count few)

  pub held : count ≤ length kinds → least ≤ count → are_kinds 0 line (take count kinds) ≡ has_form least line kinds
  unfolding has_form
  held h enough = rw (sym e, le-leb count (length kinds) h, le-leb least count enough)
