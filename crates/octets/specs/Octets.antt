-- 01, 'Records': numbers in bytes, little-endian. A byte past the end of the list reads as 0.
use Rattle.std.specs.Prelude.{Bool, cond, List, [], ◌∷◌, ◌++◌, ℕ, zero, suc, ◌+◌, ◌*◌, ◌-◌, ◌/◌, ◌%◌, leb, ltb, eqb, ℤ, pos, neg_ℤ, length, get_or, take, drop}
use Rattle.octets.specs.FirstToLast.{holds_all}

-- the n bytes at a place, little-endian: the first byte, and 256 times the number that the rest make
unfoldable pub number_at : ℕ → List ℕ → ℕ → ℕ
number_at zero s at = 0
number_at (suc n) s at = get_or s at 0 + 256 * number_at n s (at + 1)

-- one byte
unfoldable pub byte_at : List ℕ → ℕ → ℕ
byte_at s at = get_or s at 0

-- two bytes: get_or s at 0 + 256 * get_or s (at + 1) 0
unfoldable pub word_at : List ℕ → ℕ → ℕ
word_at s at = number_at 2 s at

-- four bytes
unfoldable pub long_at : List ℕ → ℕ → ℕ
long_at s at = number_at 4 s at

-- eight bytes
unfoldable pub quad_at : List ℕ → ℕ → ℕ
quad_at s at = number_at 8 s at

-- a word read as signed: below 32,768 as it stands, from there on 65,536 less
unfoldable pub signed_of : ℕ → ℤ
signed_of x = cond (ltb x 32768) (pos x) (neg_ℤ (pos (65536 - x)))

-- two bytes, signed
unfoldable pub signed_at : List ℕ → ℕ → ℤ
signed_at s at = signed_of (word_at s at)

-- the byte at a place is zero
unfoldable pub is_zero_at : List ℕ → ℕ → Bool
is_zero_at s at = eqb (get_or s at 0) 0

-- 'bytes not named are zero': those from a on, up to but not including b
unfoldable pub zero_between : List ℕ → ℕ → ℕ → Bool
zero_between s a b = holds_all (is_zero_at s) (b - a) a

-- a number as n bytes, little-endian
unfoldable pub bytes_of : ℕ → ℕ → List ℕ
bytes_of zero x = []
bytes_of (suc n) x = x % 256 ∷ bytes_of n (x / 256)

-- `to` with the bytes written over it from a place on; as it was where they do not fit
unfoldable pub written_at : List ℕ → ℕ → List ℕ → List ℕ
written_at to at bytes =
    cond (leb (at + length bytes) (length to)) (take at to ++ bytes ++ drop (at + length bytes) to) to
