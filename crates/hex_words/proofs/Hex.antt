-- The laws of hex: a digit, pairs of digits by their place, and bytes that are spelt and read back.
use mathlib.Core.Path.{◌≡◌, refl, sym, ap, ◌∙◌}
use mathlib.Core.Bool.{Bool, true, false, cond, ◌&&◌}
use mathlib.Core.List.{List, [], ◌∷◌, ◌++◌}
use Prim.Native.Nat.{ℕ, zero, suc, ◌+◌, ◌*◌, ◌-◌, ◌/◌, ◌%◌, ◌≤◌, ◌<◌}
use native.Mathlib.Numerals.{add-one}
use native.Mathlib.Omega.{arith}
use borrow.Author.Tests.{lt-ltb, lt-leb, le-leb, eqb-true}
use lib.Dec.{eqb, leb}
use Rattle.std.specs.Prelude.{Some, None, is_some}
use Rattle.std.specs.List.{list_all}
use Rattle.std.specs.Int.{w32, from_be_bytes}
use lib.ListN.{length, get_or, take, drop, set, drop_of_length-le}
use lib.Seq.{drop-cons, paste, paste-suc, length-paste, take-length}
use Rattle.hex_words.specs.Hex.{hex_of, are_hex, is_dash, are_bytes, bytes_of, pair_of, pairs, is_single, most_first}
use Rattle.octets.specs.Octets.{number_at, long_at, written_at}
use Rattle.octets.proofs.Laws.{written_fits, written_whole}
use Rattle.words.specs.Written.{place_after}
use Rattle.words.proofs.Written.{place_fits}

pub hex_digit : (b : ℕ) → 48 ≤ b → b ≤ 57 → hex_of b ≡ b - 48
unfolding hex_of
hex_digit b l h = rw (le-leb 48 b l, le-leb b 57 h)

pub hex_letter : (b : ℕ) → 97 ≤ b → b ≤ 102 → hex_of b ≡ b - 87
unfolding hex_of
hex_letter b l h = rw (le-leb 48 b (omega arith), lt-leb b 57 (omega arith), le-leb 97 b l, le-leb b 102 h)

pub hex_low : (b : ℕ) → b < 48 → hex_of b ≡ 16
unfolding hex_of
hex_low b h = rw (lt-leb 48 b h, lt-leb 97 b (omega arith))

pub hex_between : (b : ℕ) → 57 < b → b < 97 → hex_of b ≡ 16
unfolding hex_of
hex_between b l h = rw (le-leb 48 b (omega arith), lt-leb b 57 l, lt-leb 97 b h)

pub hex_high : (b : ℕ) → 102 < b → hex_of b ≡ 16
unfolding hex_of
hex_high b h = rw (le-leb 48 b (omega arith), lt-leb b 57 (omega arith), le-leb 97 b (omega arith), lt-leb b 102 h)

pub all_step : (w : List ℕ) (i : ℕ) → i < length w → hex_of (get_or w i 0) ≤ 15 → are_hex (drop i w) ≡ are_hex (drop (i + 1) w)
unfolding are_hex
all_step w i h is = rw (add-one i, drop-cons w i 0 h, le-leb (hex_of (get_or w i 0)) 15 is)

pub all-stop : (w : List ℕ) (i : ℕ) → i < length w → 15 < hex_of (get_or w i 0) → are_hex (drop i w) ≡ false
unfolding are_hex
all-stop w i h other = rw (drop-cons w i 0 h, lt-leb (hex_of (get_or w i 0)) 15 other)

pub all_end : (w : List ℕ) (i : ℕ) → length w ≤ i → are_hex (drop i w) ≡ true
unfolding are_hex
all_end w i h = rw (drop_of_length-le w {i = i} h)

abbrev pub is_digit : ℕ → Bool
is_digit b = leb (hex_of b) 15

pub is_some_if : (t : Bool) (d : ℕ) → is_some (cond t (Some d) None) ≡ t
is_some_if true d = refl
is_some_if false d = refl

pub all_digits : (w : List ℕ) → list_all is_digit w ≡ are_hex w
unfolding are_hex
all_digits [] = refl
all_digits (b ∷ w) = ap (λ (rest : Bool). is_digit b && rest) (all_digits w)

pub both_true : (a : Bool) {b : Bool} → b ≡ true → a ≡ (a && b)
both_true true e = sym e
both_true false e = refl

-- of digits the count decides
pub even_is : (w : List ℕ) → is_dash w ≡ false → 0 < length w → are_hex w ≡ true → eqb (length w % 2) 0 ≡ are_bytes w
unfolding are_bytes
even_is w dash some hex = rw (dash, lt-ltb 0 (length w) some) (both_true (eqb (length w % 2) 0) hex)

-- a byte for every two digits
pub pairs_length : (w : List ℕ) → length (pairs w) ≡ length w / 2
unfolding pairs
pairs_length [] = refl
pairs_length (a ∷ []) = refl
pairs_length (a ∷ b ∷ w) = let ih : length (pairs w) ≡ length w / 2 = pairs_length w in omega arith

pub pairs_at : (w : List ℕ) (i : ℕ) → 2 * i + 1 < length w → get_or (pairs w) i 0 ≡ pair_of (hex_of (get_or w (2 * i) 0)) (hex_of (get_or w (2 * i + 1) 0))
unfolding pairs
pairs_at [] i h = absurd (omega arith)
pairs_at (a ∷ []) i h = absurd (omega arith)
pairs_at (a ∷ b ∷ w) zero h = refl
pairs_at (a ∷ b ∷ w) (suc i) h =
    let e : 2 * suc i ≡ suc (suc (2 * i)) = omega arith in
    let o : 2 * suc i + 1 ≡ suc (suc (2 * i + 1)) = omega arith in
    pairs_at w i (omega arith) ∙ ap (λ (k : ℕ). pair_of (hex_of (get_or (a ∷ b ∷ w) k 0)) (hex_of (get_or w (2 * i + 1) 0))) (sym e) ∙ ap (λ (k : ℕ). pair_of (hex_of (get_or (a ∷ b ∷ w) (2 * suc i) 0)) (hex_of (get_or (a ∷ b ∷ w) k 0))) (sym o)

pub bytes_none : (w : List ℕ) → are_bytes w ≡ false → bytes_of w ≡ []
unfolding bytes_of
bytes_none w h = rw h

pub bytes_some : (w : List ℕ) → are_bytes w ≡ true → bytes_of w ≡ pairs w
unfolding bytes_of
bytes_some w h = rw h

pub place_none : (to : List ℕ) → place_after to 0 [] ≡ 0
place_none to = place_fits to 0 [] (omega arith)

pub written_none : (to : List ℕ) → written_at to 0 [] ≡ to
written_none to = written_fits to 0 [] (omega arith)

-- one pair more stands in its place
pub one_pair : (to w now_is : List ℕ) (i x : ℕ) → length (pairs w) ≤ length to → i < length (pairs w) → now_is ≡ paste to 0 (pairs w) i → x ≡ get_or (pairs w) i 0 → set now_is i x ≡ paste to 0 (pairs w) (i + 1)
one_pair to w now_is i x room h is e =
    let z : i ≡ 0 + i = omega arith in
    ap (λ (y : ℕ). set now_is i y) e ∙ ap (λ (l : List ℕ). set l i (get_or (pairs w) i 0)) is ∙ ap (λ (k : ℕ). set (paste to 0 (pairs w) i) k (get_or (pairs w) i 0)) z
    ∙ paste-suc to 0 (pairs w) i 0 (omega arith) h
    ∙ ap (λ (k : ℕ). paste to 0 (pairs w) k) (sym (add-one i))

pub all_pairs : (to w now_is : List ℕ) (i : ℕ) → length (pairs w) ≤ length to → i ≡ length (pairs w) → now_is ≡ paste to 0 (pairs w) i → now_is ≡ written_at to 0 (pairs w)
all_pairs to w now_is i room h is =
    is ∙ ap (λ (k : ℕ). paste to 0 (pairs w) k) h ∙ ap (λ (l : List ℕ). take 0 to ++ l ++ drop (0 + length (pairs w)) to) (take-length (pairs w)) ∙ sym (written_fits to 0 (pairs w) (omega arith))

pub as_long : (to w now_is : List ℕ) (i : ℕ) → length (pairs w) ≤ length to → i ≤ length (pairs w) → now_is ≡ paste to 0 (pairs w) i → length now_is ≡ length to
as_long to w now_is i room h is = ap length is ∙ length-paste to 0 (pairs w) i (omega arith) h

-- four bytes, most significant first, read turned round
turned : (s : List ℕ) → length s ≡ 4 → long_at (get_or s 3 0 ∷ get_or s 2 0 ∷ get_or s 1 0 ∷ get_or s 0 0 ∷ []) 0 ≡ most_first 0 s
unfolding long_at number_at most_first
turned [] is = absurd (omega arith)
turned (a ∷ []) is = absurd (omega arith)
turned (a ∷ b ∷ []) is = absurd (omega arith)
turned (a ∷ b ∷ c ∷ []) is = absurd (omega arith)
turned (a ∷ b ∷ c ∷ d ∷ []) is = omega arith
turned (a ∷ b ∷ c ∷ d ∷ e ∷ s) is = absurd (omega arith)

-- and joined
joined : (s : List ℕ) → length s ≡ 4 → from_be_bytes w32 s ≡ most_first 0 s
unfolding most_first
joined [] is = absurd (omega arith)
joined (a ∷ []) is = absurd (omega arith)
joined (a ∷ b ∷ []) is = absurd (omega arith)
joined (a ∷ b ∷ c ∷ []) is = absurd (omega arith)
joined (a ∷ b ∷ c ∷ d ∷ []) is = omega arith
joined (a ∷ b ∷ c ∷ d ∷ e ∷ s) is = absurd (omega arith)

both : (a b : Bool) → (a && b) ≡ true → (a ≡ true) × (b ≡ true)
both true b is = (refl, is)
both false b is = (is, cc)

-- a single has eight digits, which are four bytes
module _ (w : List ℕ) (is : is_single w ≡ true) where
  eight : length w ≡ 8
  unfolding is_single
  eight = eqb-true (length w) 8 (both (eqb (length w) 8) (are_bytes w) is).0

  spelt : are_bytes w ≡ true
  unfolding is_single
  spelt = (both (eqb (length w) 8) (are_bytes w) is).1

  four : length (pairs w) ≡ 4
  four = pairs_length w ∙ ap (λ (n : ℕ). n / 2) eight

  pub single_bytes : written_at (0 ∷ 0 ∷ 0 ∷ 0 ∷ []) 0 (bytes_of w) ≡ pairs w
  single_bytes = ap (written_at (0 ∷ 0 ∷ 0 ∷ 0 ∷ []) 0) (bytes_some w spelt) ∙ written_whole (0 ∷ 0 ∷ 0 ∷ 0 ∷ []) (pairs w) four

  pub most-first : long_at (get_or (pairs w) 3 0 ∷ get_or (pairs w) 2 0 ∷ get_or (pairs w) 1 0 ∷ get_or (pairs w) 0 0 ∷ []) 0 ≡ most_first 0 (pairs w)
  most-first = turned (pairs w) four

  pub most_joined : from_be_bytes w32 (pairs w) ≡ most_first 0 (pairs w)
  most_joined = joined (pairs w) four
