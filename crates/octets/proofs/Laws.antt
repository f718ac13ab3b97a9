-- The laws of numbers in bytes, once over the count of bytes.
use mathlib.Core.Path.{◌≡◌, refl, sym, ◌∙◌, ap}
use mathlib.Core.Bool.{true}
use mathlib.Core.List.{List, [], ◌∷◌, ◌++◌, append_assoc, append-nil}
use Prim.Native.Nat.{ℕ, zero, suc, ◌+◌, ◌*◌, ◌-◌, ◌/◌, ◌%◌, ◌^◌, ◌≤◌, ◌<◌}
use native.Mathlib.Nat.{add_assoc, add-zero, zero-add, pow-succ', div-div-eq-div-mul}
use Rattle.std.specs.Int.{w16, w32, w64, from_le_bytes, bytes_low_first}
use native.Mathlib.Numerals.{add-one}
use native.Mathlib.Omega.{arith}
use borrow.Author.Tests.{lt-ltb, le-ltb, le-leb, lt-leb, eqb-true, eq-eqb}
use lib.IntN.{pos, negsuc}
use lib.ListN.{length, get_or, take, drop, replicate, length-append, length-drop, length-replicate, get_or-replicate, take-append-drop, drop_of_length-le, get_or-eq_default}
use lib.Seq.{get_or-append_seam, append_snoc, drop-cons, drop-drop, take_at, drop_at, length-take-le, get_or-take, get_or-drop, ext_get_or}
use Rattle.octets.specs.Octets.{number_at, byte_at, word_at, long_at, quad_at, signed_of, is_zero_at, zero_between, bytes_of, written_at}
use Rattle.octets.proofs.FirstToLast.{tests, empty, nowhere}

-- a list of bytes
abbrev pub Bytes : List ℕ → Type 0
Bytes s = (k : ℕ) → get_or s k 0 < 256

-- past the end every number is 0
pub number_past : (n : ℕ) (s : List ℕ) (at : ℕ) → length s ≤ at → number_at n s at ≡ 0
unfolding number_at
number_past zero s at h = refl
number_past (suc n) s at h =
    let first : get_or s at 0 ≡ 0 = get_or-eq_default s 0 h in
    let rest : number_at n s (at + 1) ≡ 0 = number_past n s (at + 1) (omega arith) in
    omega arith

-- n bytes make a number below 256 ^ n
pub number_below : (n : ℕ) (s : List ℕ) (at : ℕ) → Bytes s → number_at n s at < 256 ^ n
unfolding number_at
number_below zero s at small = omega arith
number_below (suc n) s at small =
    let first : get_or s at 0 < 256 = small at in
    let rest : number_at n s (at + 1) < 256 ^ n = number_below n s (at + 1) small in
    omega (arith, pow-succ' 256 n)

-- two bytes, written out
pub word-is : (s : List ℕ) (at : ℕ) → word_at s at ≡ byte_at s at + 256 * byte_at s (at + 1)
unfolding word_at byte_at number_at
word-is s at = omega arith

-- four bytes are two words
pub long_is : (s : List ℕ) (at : ℕ) → long_at s at ≡ word_at s at + 65536 * word_at s (at + 2)
unfolding word_at long_at number_at
long_is s at = rw (add_assoc at 1 1) (omega arith)

-- eight bytes are two fours
pub quad_is : (s : List ℕ) (at : ℕ) → quad_at s at ≡ long_at s at + 4294967296 * long_at s (at + 4)
unfolding quad_at long_at number_at
quad_is s at =
    let four : at + 1 + 1 + 1 + 1 ≡ at + 4 = omega arith in
    rw four (omega arith)

-- the same bytes make the same number
pub number_same : (n : ℕ) (s t : List ℕ) (a b : ℕ) → ((j : ℕ) → j < n → get_or s (a + j) 0 ≡ get_or t (b + j) 0) → number_at n s a ≡ number_at n t b
unfolding number_at
number_same zero s t a b each = refl
number_same (suc n) s t a b each =
    let first : get_or s a 0 ≡ get_or t b 0 = simp add-zero at (each 0 (omega arith)) in
    let rest : number_at n s (a + 1) ≡ number_at n t (b + 1) = number_same n s t (a + 1) (b + 1) (λ j h. (λ i. get_or s (over a j i) 0) ∙ each (1 + j) (omega arith) ∙ sym (λ i. get_or t (over b j i) 0)) in
    λ i. first i + 256 * rest i
  where
    over : (x j : ℕ) → x + 1 + j ≡ x + (1 + j)
    over x j = add_assoc x 1 j

-- the same, where they are the first of a list
pub number_moved : (n : ℕ) (bytes s : List ℕ) (at : ℕ) → ((j : ℕ) → j < n → get_or bytes j 0 ≡ get_or s (at + j) 0) → number_at n bytes 0 ≡ number_at n s at
number_moved n bytes s at each = number_same n bytes s 0 at (λ j h. ap (λ (k : ℕ). get_or bytes k 0) (zero-add j) ∙ each j h)

-- the number that two, four or eight bytes spell
pub spelled_2 : (bytes : List ℕ) → from_le_bytes w16 bytes ≡ number_at 2 bytes 0
unfolding number_at
spelled_2 bytes = omega arith

pub spelled_4 : (bytes : List ℕ) → from_le_bytes w32 bytes ≡ number_at 4 bytes 0
unfolding number_at
spelled_4 bytes = omega arith

pub spelled_8 : (bytes : List ℕ) → from_le_bytes w64 bytes ≡ number_at 8 bytes 0
unfolding number_at
spelled_8 bytes = omega arith

-- reading what was written returns it
pub read_written : (a t : List ℕ) (n x : ℕ) → x < 256 ^ n → number_at n (a ++ bytes_of n x ++ t) (length a) ≡ x
unfolding number_at bytes_of
read_written a t zero x h = omega arith
read_written a t (suc n) x h =
    let b : ℕ = x % 256 in
    let rest : List ℕ = bytes_of n (x / 256) in
    let here : List ℕ = a ++ (b ∷ []) in
    let same : a ++ (b ∷ rest) ++ t ≡ here ++ rest ++ t = ap (λ (l : List ℕ). l ++ t) (sym (append_snoc a b rest)) in
    let longer : length a + 1 ≡ length here = sym (length-append a (b ∷ [])) in
    let first : get_or (a ++ (b ∷ rest) ++ t) (length a) 0 ≡ b = rw append_assoc (get_or-append_seam a b (rest ++ t) 0) in
    let later : number_at n (here ++ rest ++ t) (length here) ≡ x / 256 = read_written here t n (x / 256) (omega (arith, pow-succ' 256 n)) in
    let moved : number_at n (a ++ (b ∷ rest) ++ t) (length a + 1) ≡ x / 256 = (λ i. number_at n (same i) (longer i)) ∙ later in
    omega arith

-- the same, where a part of the list is known to be the number's bytes
pub read_part : (n x : ℕ) (s : List ℕ) (at : ℕ) → x < 256 ^ n → at ≤ length s → take n (drop at s) ≡ bytes_of n x → number_at n s at ≡ x
read_part n x s at h l part =
    let rest : List ℕ = drop n (drop at s) in
    let split : take at s ++ bytes_of n x ++ rest ≡ s = append_assoc (take at s) (bytes_of n x) rest ∙ ap (λ (p : List ℕ). take at s ++ (p ++ rest)) (sym part)
    ∙ ap (λ (p : List ℕ). take at s ++ p) (take-append-drop n (drop at s)) ∙ take-append-drop at s in
    let place : length (take at s) ≡ at = length-take-le at s l in
    sym (λ i. number_at n (split i) (place i)) ∙ read_written (take at s) rest n x h

-- the bytes of a number that was read are the bytes read
pub bytes_read : (n : ℕ) (s : List ℕ) (at : ℕ) → Bytes s → at + n ≤ length s → bytes_of n (number_at n s at) ≡ take n (drop at s)
unfolding number_at bytes_of
bytes_read zero s at small h = refl
bytes_read (suc n) s at small h =
    let b : ℕ = get_or s at 0 in
    let r : ℕ = number_at n s (at + 1) in
    let low : b < 256 = small at in
    let first : (b + 256 * r) % 256 ≡ b = omega arith in
    let rest : (b + 256 * r) / 256 ≡ r = omega arith in
    let later : bytes_of n r ≡ take n (drop (at + 1) s) = bytes_read n s (at + 1) small (omega arith) in
    let here : drop at s ≡ b ∷ drop (suc at) s = drop-cons s at 0 (omega arith) in
    rw (first, rest, here, later, add-one)

-- a number's bytes from byte i on, the lowest first
lowest-from : (i n x : ℕ) → bytes_low_first i n x ≡ bytes_of n (x / 256 ^ i)
unfolding bytes_of
lowest-from i zero x = refl
lowest-from zero (suc n) x =
    let whole : x ≡ x / 1 = omega arith in
    λ t. whole t % 256 ∷ (lowest-from 1 n x ∙ ap (λ (y : ℕ). bytes_of n (y / 256)) whole) t
lowest-from (suc i) (suc n) x =
    let next : 256 ^ suc (suc i) ≡ 256 ^ suc i * 256 = omega (arith, pow-succ' 256 (suc i)) in
    ap (λ (l : List ℕ). x / 256 ^ suc i % 256 ∷ l) (lowest-from (suc (suc i)) n x ∙ ap (λ (d : ℕ). bytes_of n (x / d)) next ∙ ap (bytes_of n) (sym (div-div-eq-div-mul x (256 ^ suc i) 256)))

pub lowest_first : (n x : ℕ) → bytes_low_first 0 n x ≡ bytes_of n x
lowest_first n x = let whole : x / 1 ≡ x = omega arith in lowest-from 0 n x ∙ ap (bytes_of n) whole

pub length_bytes : (n x : ℕ) → length (bytes_of n x) ≡ n
unfolding bytes_of
length_bytes zero x = refl
length_bytes (suc n) x = ap suc (length_bytes n (x / 256))

-- a signed word by its sign
pub signed_low : (x : ℕ) → x < 32768 → signed_of x ≡ pos x
unfolding signed_of
signed_low x h = rw (lt-ltb x 32768 h)

pub signed_high : (x : ℕ) → 32768 ≤ x → x < 65536 → signed_of x ≡ negsuc (65535 - x)
unfolding signed_of
signed_high x h l =
    let more : 65536 - x ≡ suc (65535 - x) = omega arith in
    rw (le-ltb x 32768 h, more)

-- 'bytes from a to b are zero', byte by byte
pub zero_each : (s : List ℕ) (a b : ℕ) → zero_between s a b ≡ true → (k : ℕ) → a ≤ k → k < b → get_or s k 0 ≡ 0
unfolding zero_between is_zero_at
zero_each s a b all k l h = eqb-true (get_or s k 0) 0 (empty tests (is_zero_at s) (b - a) a all k l (omega arith))

pub zero_all : (s : List ℕ) (a b : ℕ) → ((k : ℕ) → a ≤ k → k < b → get_or s k 0 ≡ 0) → zero_between s a b ≡ true
unfolding zero_between is_zero_at
zero_all s a b each = nowhere tests (is_zero_at s) (b - a) a (λ k l h. eq-eqb (get_or s k 0) 0 (each k l (omega arith)))

-- zero bytes as a part of the list
pub zero_part : (s : List ℕ) (a n : ℕ) → a + n ≤ length s → zero_between s a (a + n) ≡ true → take n (drop a s) ≡ replicate n 0
zero_part s a n h zeros =
    let long : length (take n (drop a s)) ≡ n = length-take-le n (drop a s) (simp length-drop (omega arith)) in
    ext_get_or 0 (take n (drop a s)) (replicate n 0) (long ∙ sym (length-replicate n 0))
    (λ i l.
    let below : i < n = omega arith in
    get_or-take n (drop a s) i 0 below ∙ get_or-drop a s i 0 ∙ zero_each s a (a + n) zeros (a + i) (omega arith) (omega arith) ∙ sym (get_or-replicate n i 0 0 below))

-- bytes that fit are written, and others are not
pub written_fits : (to : List ℕ) (at : ℕ) (bytes : List ℕ) → at + length bytes ≤ length to → written_at to at bytes ≡ take at to ++ bytes ++ drop (at + length bytes) to
unfolding written_at
written_fits to at bytes h = rw (le-leb (at + length bytes) (length to) h)

pub written_not : (to : List ℕ) (at : ℕ) (bytes : List ℕ) → length to < at + length bytes → written_at to at bytes ≡ to
unfolding written_at
written_not to at bytes h = rw (lt-leb (at + length bytes) (length to) h)

-- as many bytes as there are take the place of all
pub written_whole : (to bytes : List ℕ) → length bytes ≡ length to → written_at to 0 bytes ≡ bytes
written_whole to bytes h =
    let past : length to ≤ 0 + length bytes = omega arith in
    written_fits to 0 bytes (omega arith) ∙ ap (λ (l : List ℕ). bytes ++ l) (drop_of_length-le to past) ∙ append-nil bytes

-- bytes written behind bytes are both written at once
pub written_both : (to : List ℕ) (at : ℕ) (first next : List ℕ) → at + length first + length next ≤ length to
    → written_at (written_at to at first) (at + length first) next ≡ written_at to at (first ++ next)
written_both to at first next room =
    let front : List ℕ = take at to ++ first in
    let end : ℕ = at + length first in
    let whole : List ℕ = front ++ drop end to in
    let fronted : length front ≡ end = length-append (take at to) first ∙ ap (λ (n : ℕ). n + length first) (length-take-le at to (omega arith)) in
    let both : end + length next ≡ at + length (first ++ next) = add_assoc at (length first) (length next) ∙ sym (ap (λ (n : ℕ). at + n) (length-append first next)) in
    let long : length whole ≡ length to = length-append front (drop end to) ∙ (λ i. fronted i + length-drop end to i) ∙ omega arith in
    let rest : drop (end + length next) whole ≡ drop (end + length next) to = sym (drop-drop (length next) end whole) ∙ ap (drop (length next)) (drop_at front (drop end to) end fronted) ∙ drop-drop (length next) end to in
    ap (λ (l : List ℕ). written_at l end next) (written_fits to at first (omega arith))
    ∙ written_fits whole end next (omega (arith, long))
    ∙ (λ i. take_at front (drop end to) end fronted i ++ next ++ rest i)
    ∙ (λ i. append_assoc (take at to) first next i ++ drop (both i) to)
    ∙ sym (written_fits to at (first ++ next) (omega (arith, both)))

-- no byte is added or lost by writing bytes that fit
pub written_length : (to : List ℕ) (at : ℕ) (bytes : List ℕ) → at + length bytes ≤ length to → length (written_at to at bytes) ≡ length to
written_length to at bytes room =
    ap length (written_fits to at bytes room) ∙ length-append (take at to ++ bytes) (drop (at + length bytes) to)
    ∙ (λ i. (length-append (take at to) bytes ∙ ap (λ (n : ℕ). n + length bytes) (length-take-le at to (omega arith))) i + length-drop (at + length bytes) to i)
    ∙ omega arith

-- nothing written leaves all as it was
pub written_none : (to : List ℕ) → written_at to 0 [] ≡ to
written_none to = written_fits to 0 [] (omega arith)
