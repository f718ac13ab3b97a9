-- docs/LINES.md: 'an entry's name and its operands, separated by single spaces'. A space is byte 32.
use Rattle.std.specs.Prelude.{cond, List, [], ◌∷◌, ℕ, zero, suc, ◌+◌, eqb}

-- the bytes before the first space, or all of them
unfoldable pub first_word : List ℕ → List ℕ
first_word [] = []
first_word (b ∷ s) = cond (eqb b 32) [] (b ∷ first_word s)

-- the bytes after the first space; none where there is no space
unfoldable pub after_word : List ℕ → List ℕ
after_word [] = []
after_word (b ∷ s) = cond (eqb b 32) s (after_word s)

-- the word numbered n, from 0; no bytes past the last
unfoldable pub word_of : ℕ → List ℕ → List ℕ
word_of zero s = first_word s
word_of (suc n) s = word_of n (after_word s)

-- 1 for a space and 0 for any other byte
unfoldable pub space_in : ℕ → ℕ
space_in b = cond (eqb b 32) 1 0

-- every single space separates two words
unfoldable pub word_count : List ℕ → ℕ
word_count [] = 1
word_count (b ∷ s) = space_in b + word_count s
