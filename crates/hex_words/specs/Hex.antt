-- docs/LINES.md: 'Bytes are lower-case hex, two digits each; no bytes is `-`.'
use Rattle.std.specs.Prelude.{Bool, true, cond, ◌&&◌, ◌||◌, List, [], ◌∷◌, ℕ, ◌+◌, ◌*◌, ◌-◌, ◌/◌, ◌%◌, leb, ltb, eqb, length, get_or}

-- `0` to `9`, then `a` to `f`; 16 for any other byte
unfoldable pub hex_of : ℕ → ℕ
hex_of b = cond (leb 48 b && leb b 57) (b - 48) (cond (leb 97 b && leb b 102) (b - 87) 16)

unfoldable pub are_hex : List ℕ → Bool
are_hex [] = true
are_hex (b ∷ w) = leb (hex_of b) 15 && are_hex w

unfoldable pub is_dash : List ℕ → Bool
is_dash w = eqb (length w) 1 && eqb (get_or w 0 0) 45

-- 'pairs, at least one pair, or `-` alone for no bytes'
unfoldable pub are_bytes : List ℕ → Bool
are_bytes w = is_dash w || (ltb 0 (length w) && (eqb (length w % 2) 0 && are_hex w))

-- two digits are one byte, the more significant first
unfoldable pub pair_of : ℕ → ℕ → ℕ
pair_of high low = cond (leb high 15 && leb low 15) (16 * high + low) 0

unfoldable pub pairs : List ℕ → List ℕ
pairs [] = []
pairs (a ∷ []) = []
pairs (a ∷ b ∷ w) = pair_of (hex_of a) (hex_of b) ∷ pairs w

-- the bytes that a word spells; none where it is malformed
unfoldable pub bytes_of : List ℕ → List ℕ
bytes_of w = cond (are_bytes w) (pairs w) []

-- 'Singles are their 32 bits as eight hex digits, most significant first'
unfoldable pub is_single : List ℕ → Bool
is_single w = eqb (length w) 8 && are_bytes w

-- a number by its bytes, most significant first, behind a number that stands before them
unfoldable pub most_first : ℕ → List ℕ → ℕ
most_first n [] = n
most_first n (b ∷ s) = most_first (256 * n + b) s

-- the 32 bits; 0 where the word is no single
unfoldable pub single_of : List ℕ → ℕ
single_of w = cond (is_single w) (most_first 0 (pairs w)) 0

-- a digit below 16 as its byte
unfoldable pub glyph : ℕ → ℕ
glyph d = cond (ltb d 10) (48 + d) (87 + d)

unfoldable pub hex_text : List ℕ → List ℕ
hex_text [] = []
hex_text (b ∷ s) = glyph (b / 16) ∷ glyph (b % 16) ∷ hex_text s

unfoldable pub hex_word : List ℕ → List ℕ
hex_word s = cond (eqb (length s) 0) (45 ∷ []) (hex_text s)
