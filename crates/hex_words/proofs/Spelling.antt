-- Bytes as text: where each digit stands, and that bytes that are spelt read back as themselves.
use mathlib.Core.Path.{◌≡◌, refl, sym, ap, ◌∙◌}
use mathlib.Core.List.{List, [], ◌∷◌, ◌++◌}
use Prim.Native.Nat.{ℕ, zero, suc, ◌+◌, ◌*◌, ◌-◌, ◌/◌, ◌%◌, ◌≤◌, ◌<◌}
use mathlib.Core.Bool.{cond}
use lib.Dec.{ltb}
use native.Mathlib.Omega.{arith}
use native.Mathlib.Nat.{lt_of_not-le}
use native.Mathlib.Decide.{dec_lt}
use borrow.Author.Tests.{lt-ltb, le-ltb, le-leb, eq-eqb, ne_eqb}
use lib.ListN.{length, get_or, take, drop, set}
use lib.Seq.{paste, paste-suc, take-length}
use Rattle.octets.specs.Octets.{written_at}
use Rattle.octets.proofs.Laws.{written_fits}
use Rattle.hex_words.specs.Hex.{hex_of, pair_of, pairs, glyph, hex_text, hex_word}
use Rattle.hex_words.proofs.Hex.{hex_digit, hex_letter}

pub text_length : (s : List ℕ) → length (hex_text s) ≡ 2 * length s
unfolding hex_text
text_length [] = refl
text_length (b ∷ s) = let ih : length (hex_text s) ≡ 2 * length s = text_length s in omega arith

pub text_high : (s : List ℕ) (i : ℕ) → i < length s → get_or (hex_text s) (2 * i) 0 ≡ glyph (get_or s i 0 / 16)
unfolding hex_text
text_high [] i h = absurd (omega arith)
text_high (b ∷ s) zero h = refl
text_high (b ∷ s) (suc i) h =
    let e : 2 * suc i ≡ suc (suc (2 * i)) = omega arith in
    rw e (text_high s i (omega arith))

pub text_low : (s : List ℕ) (i : ℕ) → i < length s → get_or (hex_text s) (2 * i + 1) 0 ≡ glyph (get_or s i 0 % 16)
unfolding hex_text
text_low [] i h = absurd (omega arith)
text_low (b ∷ s) zero h = refl
text_low (b ∷ s) (suc i) h =
    let e : 2 * suc i + 1 ≡ suc (suc (2 * i + 1)) = omega arith in
    rw e (text_low s i (omega arith))

pub two_more : (to t now_is : List ℕ) (at i high low : ℕ) → at + length t ≤ length to → 2 * i + 1 < length t → now_is ≡ paste to at t (2 * i) → high ≡ get_or t (2 * i) 0 → low ≡ get_or t (2 * i + 1) 0
    → set (set now_is (at + 2 * i) high) (at + 2 * i + 1) low ≡ paste to at t (2 * (i + 1))
two_more to t now_is at i high low room h is hi lo =
    let k = 2 * i in
    let next : at + k + 1 ≡ at + suc k = omega arith in
    let odd : k + 1 ≡ suc k = omega arith in
    let end : suc (suc k) ≡ 2 * (i + 1) = omega arith in
    ap (λ (y : ℕ). set (set now_is (at + k) high) (at + k + 1) y) (lo ∙ ap (λ (j : ℕ). get_or t j 0) odd)
    ∙ ap (λ (y : ℕ). set (set now_is (at + k) y) (at + k + 1) (get_or t (suc k) 0)) hi
    ∙ ap (λ (l : List ℕ). set (set l (at + k) (get_or t k 0)) (at + k + 1) (get_or t (suc k) 0)) is
    ∙ ap (λ (l : List ℕ). set l (at + k + 1) (get_or t (suc k) 0)) (paste-suc to at t k 0 (omega arith) (omega arith))
    ∙ ap (λ (j : ℕ). set (paste to at t (suc k)) j (get_or t (suc k) 0)) next
    ∙ paste-suc to at t (suc k) 0 (omega arith) (omega arith)
    ∙ ap (paste to at t) end

pub all_text : (to t now_is : List ℕ) (at i : ℕ) → at + length t ≤ length to → i ≡ length t → now_is ≡ paste to at t i → now_is ≡ written_at to at t
all_text to t now_is at i room h is =
    is ∙ ap (paste to at t) h ∙ ap (λ (l : List ℕ). take at to ++ l ++ drop (at + length t) to) (take-length t) ∙ sym (written_fits to at t room)

not-below : {n m : ℕ} → (n < m → ⊥) → m ≤ n
not-below {n} {m} h = let l : m < suc n = lt_of_not-le h in omega arith

digit_back : (d : ℕ) → d < 16 → hex_of (glyph d) ≡ d
unfolding glyph
digit_back d h = by (dec_lt d 10)
  where
    by : Dec (d < 10) → hex_of (cond (ltb d 10) (48 + d) (87 + d)) ≡ d
    by (yes low) = let e : 48 + d - 48 ≡ d = omega arith in rw (lt-ltb d 10 low) (hex_digit (48 + d) (omega arith) (omega arith) ∙ e)
    by (no high) = let l : 10 ≤ d = not-below high in let e : 87 + d - 87 ≡ d = omega arith in rw (le-ltb d 10 l) (hex_letter (87 + d) (omega arith) (omega arith) ∙ e)

pair_back : (b : ℕ) → b < 256 → pair_of (hex_of (glyph (b / 16))) (hex_of (glyph (b % 16))) ≡ b
unfolding pair_of
pair_back b h =
    let e : 16 * (b / 16) + b % 16 ≡ b = omega arith in
    rw (digit_back (b / 16) (omega arith), digit_back (b % 16) (omega arith), le-leb (b / 16) 15 (omega arith), le-leb (b % 16) 15 (omega arith)) e

-- bytes that are spelt read back as themselves
pub spelt_back : (s : List ℕ) → ((i : ℕ) → i < length s → get_or s i 0 < 256) → pairs (hex_text s) ≡ s
unfolding pairs hex_text
spelt_back [] h = refl
spelt_back (b ∷ s) h =
    (λ j. pair_back b (h 0 (omega arith)) j ∷ spelt_back s (λ i l. h (suc i) (omega arith)) j)

pub dash_word : (s : List ℕ) → length s ≡ 0 → hex_word s ≡ 45 ∷ []
unfolding hex_word
dash_word s h = rw (eq-eqb (length s) 0 h)

pub text_word : (s : List ℕ) → (length s ≡ 0 → ⊥) → hex_word s ≡ hex_text s
unfolding hex_word
text_word s h = rw (ne_eqb (length s) 0 h)
