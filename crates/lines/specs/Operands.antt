-- docs/LINES.md, 'Operands': the words of a line by their place, the entry's name being word 0.
use Rattle.std.specs.Prelude.{Bool, true, false, cond, ◌&&◌, ◌||◌, List, [], ◌∷◌, ℕ, suc, eqb, leb, ℤ, length, get_or, take, Option, None, Some}
use Rattle.words.specs.Words.{word_of, word_count}
use Rattle.numerals.specs.Numbers.{number_of, signed_of}
use Rattle.hex_words.specs.Hex.{are_bytes, is_single}

abbrev pub is_number : Option ℕ → Bool
is_number None = false
is_number (Some v) = true

abbrev pub is_signed : Option ℤ → Bool
is_signed None = false
is_signed (Some v) = true

-- 'PLACES is `4` or `6`'
unfoldable pub is_places : List ℕ → Bool
is_places w = eqb (length w) 1 && (eqb (get_or w 0 0) 52 || eqb (get_or w 0 0) 54)

-- a word is of a kind, by its letter: n any, a name; b u8, h u16, w u32, d u64, s i16; p places, x bytes, f a single
unfoldable pub is_kind : ℕ → List ℕ → Bool
is_kind kind w =
    cond (eqb kind 110) true
    (cond (eqb kind 98) (is_number (number_of 255 w))
    (cond (eqb kind 104) (is_number (number_of 65535 w))
    (cond (eqb kind 119) (is_number (number_of 4294967295 w))
    (cond (eqb kind 100) (is_number (number_of 18446744073709551615 w))
    (cond (eqb kind 115) (is_signed (signed_of w))
    (cond (eqb kind 112) (is_places w)
    (cond (eqb kind 120) (are_bytes w)
    (cond (eqb kind 102) (is_single w) false))))))))

-- the words from the one numbered n on are of these kinds
unfoldable pub are_kinds : ℕ → List ℕ → List ℕ → Bool
are_kinds n line [] = true
are_kinds n line (kind ∷ kinds) = is_kind kind (word_of n line) && are_kinds (suc n) line kinds

-- each word of its kind: at least so many words, and at most as many as kinds. The least is all of them, but where a list ends the line
unfoldable pub has_form : ℕ → List ℕ → List ℕ → Bool
has_form least line kinds = leb (word_count line) (length kinds) && (leb least (word_count line) && are_kinds 0 line (take (word_count line) kinds))

abbrev pub or_zero : Option ℕ → ℕ
or_zero None = 0
or_zero (Some v) = v

-- the number that word n is, up to the most that its operand holds; 0 where it is none
unfoldable pub number_at : ℕ → ℕ → List ℕ → ℕ
number_at most n line = or_zero (number_of most (word_of n line))
