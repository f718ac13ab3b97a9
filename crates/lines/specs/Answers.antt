-- docs/LINES.md, 'Answers'. An answer is written piece by piece into a lent buffer; a piece that does not fit is not written.
use Rattle.std.specs.Prelude.{List, [], ◌∷◌, ℕ}
use Rattle.octets.specs.Octets.{written_at}
use Rattle.refusals.specs.Table.{number_of, record_of}
use Rattle.refusals.specs.declared.Refusal.{Refusal}
use Rattle.words.specs.Written.{place_after}
use Rattle.numerals.specs.Numbers.{printed}
use Rattle.hex_words.specs.Hex.{hex_word}

-- the place after all pieces, written one behind the other from a place on
unfoldable pub place_all : List ℕ → ℕ → List (List ℕ) → ℕ
place_all to at [] = at
place_all to at (piece ∷ rest) = place_all (written_at to at piece) (place_after to at piece) rest

-- the buffer after all pieces
unfoldable pub written_all : List ℕ → ℕ → List (List ℕ) → List ℕ
written_all to at [] = to
written_all to at (piece ∷ rest) = written_all (written_at to at piece) (place_after to at piece) rest

-- 'Values are separated by single spaces': each stands behind one
unfoldable pub numbers_spelt : List ℕ → List (List ℕ)
numbers_spelt [] = []
numbers_spelt (n ∷ ns) = (32 ∷ []) ∷ printed n ∷ numbers_spelt ns

-- 'no bytes is `-`'
unfoldable pub bytes_spelt : List ℕ → List (List ℕ)
bytes_spelt bytes = (32 ∷ []) ∷ hex_word bytes ∷ []

-- '`ok` and the values'
unfoldable pub ok_spelt : List ℕ → List (List ℕ)
ok_spelt ns = (111 ∷ 107 ∷ []) ∷ numbers_spelt ns

-- '`refused NUMBER RECORD`'
unfoldable pub refused_spelt : Refusal → List (List ℕ)
refused_spelt refusal = (114 ∷ 101 ∷ 102 ∷ 117 ∷ 115 ∷ 101 ∷ 100 ∷ []) ∷ numbers_spelt (number_of refusal ∷ record_of refusal ∷ [])
