-- The words of a line are the parts between its spaces; and the laws of words: one byte more, the end, and what a word's length says.
use mathlib.Core.Path.{◌≡◌, refl, sym, ap, ◌∙◌}
use mathlib.Core.Bool.{Bool, true, false, cond}
use mathlib.Core.List.{List, [], ◌∷◌}
use Prim.Native.Nat.{ℕ, zero, suc, ◌+◌, ◌-◌, ◌≤◌, ◌<◌}
use native.Mathlib.Numerals.{add-one}
use native.Mathlib.Omega.{arith}
use borrow.Author.Tests.{eq-eqb, ne_eqb}
use lib.Dec.{eqb}
use lib.ListN.{length, get_or, take, drop, drop_of_length-le}
use lib.Seq.{drop-cons, drop-drop}
use Rattle.std.specs.List.{slice_split, onto_first, count_by}
use Rattle.std.proofs.lemmas.List.Sums.{sum_by-cons}
use Rattle.words.specs.Words.{first_word, after_word, word_of, space_in, word_count}

abbrev pub is_space : ℕ → Bool
is_space b = eqb b 32

first_onto : (b : ℕ) (parts : List (List ℕ)) → get_or (onto_first b parts) 0 [] ≡ b ∷ get_or parts 0 []
first_onto b [] = refl
first_onto b (part ∷ parts) = refl

rest_onto : (b : ℕ) (parts : List (List ℕ)) (n : ℕ) → get_or (onto_first b parts) (suc n) [] ≡ get_or parts (suc n) []
rest_onto b [] n = refl
rest_onto b (part ∷ parts) n = refl

none_left : (n : ℕ) → word_of n [] ≡ []
unfolding word_of first_word after_word
none_left zero = refl
none_left (suc n) = none_left n

-- the word that a byte begins, and the words behind it
first_pick : (q : Bool) (b : ℕ) (t : List ℕ) → get_or (slice_split is_space t) 0 [] ≡ first_word t
    → get_or (cond q ([] ∷ slice_split is_space t) (onto_first b (slice_split is_space t))) 0 [] ≡ cond q [] (b ∷ first_word t)
first_pick true b t ih = refl
first_pick false b t ih = first_onto b (slice_split is_space t) ∙ ap (λ (w : List ℕ). b ∷ w) ih

rest_pick : (q : Bool) (b : ℕ) (t : List ℕ) (n : ℕ) → get_or (slice_split is_space t) n [] ≡ word_of n t → get_or (slice_split is_space t) (suc n) [] ≡ word_of n (after_word t)
    → get_or (cond q ([] ∷ slice_split is_space t) (onto_first b (slice_split is_space t))) (suc n) [] ≡ word_of n (cond q t (after_word t))
rest_pick true b t n here behind = here
rest_pick false b t n here behind = rest_onto b (slice_split is_space t) n ∙ behind

pub word_is : (s : List ℕ) (n : ℕ) → get_or (slice_split is_space s) n [] ≡ word_of n s
unfolding word_of first_word after_word
word_is [] zero = refl
word_is [] (suc n) = sym (none_left n)
word_is (b ∷ t) zero = first_pick (eqb b 32) b t (word_is t zero)
word_is (b ∷ t) (suc n) = rest_pick (eqb b 32) b t n (word_is t n) (word_is t (suc n))

pub count_is : (s : List ℕ) → count_by is_space s + 1 ≡ word_count s
unfolding word_count space_in
count_is [] = refl
count_is (b ∷ s) = let ih = count_is s in omega (arith, sum_by-cons (λ x. cond (is_space x) 1 0) b s)

pub first_space : (s : List ℕ) (i : ℕ) → i < length s → get_or s i 0 ≡ 32 → first_word (drop i s) ≡ []
unfolding first_word
first_space s i h is = rw (drop-cons s i 0 h, eq-eqb (get_or s i 0) 32 is)

pub first_other : (s : List ℕ) (i : ℕ) → i < length s → (get_or s i 0 ≡ 32 → ⊥) → first_word (drop i s) ≡ get_or s i 0 ∷ first_word (drop (i + 1) s)
unfolding first_word
first_other s i h other = rw (add-one i, drop-cons s i 0 h, ne_eqb (get_or s i 0) 32 other)

pub first_end : (s : List ℕ) (i : ℕ) → length s ≤ i → first_word (drop i s) ≡ []
unfolding first_word
first_end s i h = rw (drop_of_length-le s {i = i} h)

after_pick : (q : Bool) (b : ℕ) (t : List ℕ) → after_word t ≡ drop (length (first_word t) + 1) t → cond q t (after_word t) ≡ drop (length (cond q [] (b ∷ first_word t)) + 1) (b ∷ t)
after_pick true b t ih = refl
after_pick false b t ih = rw (add-one (suc (length (first_word t)))) (ih ∙ ap (λ (k : ℕ). drop k t) (add-one (length (first_word t))))

pub after_is : (t : List ℕ) → after_word t ≡ drop (length (first_word t) + 1) t
unfolding first_word after_word
after_is [] = refl
after_is (b ∷ t) = after_pick (eqb b 32) b t (after_is t)

-- past the word that begins at a place
pub passed : (s : List ℕ) (from end : ℕ) → end ≡ from + length (first_word (drop from s)) → drop (end + 1) s ≡ after_word (drop from s)
passed s from end is =
    let k = length (first_word (drop from s)) in
    let e : end + 1 ≡ from + (k + 1) = omega arith in
    rw e (sym (drop-drop (k + 1) from s)) ∙ sym (after_is (drop from s))

pub passed_last : (s : List ℕ) (from end : ℕ) → end ≡ from + length (first_word (drop from s)) → length s ≤ end → drop end s ≡ after_word (drop from s)
passed_last s from end is h =
    drop_of_length-le s {i = end} h ∙ sym (drop_of_length-le s {i = end + 1} (omega arith)) ∙ passed s from end is

take_pick : (q : Bool) (b : ℕ) (t : List ℕ) → take (length (first_word t)) t ≡ first_word t → take (length (cond q [] (b ∷ first_word t))) (b ∷ t) ≡ cond q [] (b ∷ first_word t)
take_pick true b t ih = refl
take_pick false b t ih = ap (λ (l : List ℕ). b ∷ l) ih

pub taken : (t : List ℕ) → take (length (first_word t)) t ≡ first_word t
unfolding first_word
taken [] = refl
taken (b ∷ t) = take_pick (eqb b 32) b t (taken t)

-- the words of a line begin at its start
pub word_start : (n : ℕ) (s : List ℕ) → word_of n s ≡ word_of (n - 0) (drop 0 s)
word_start n s = let e : n - 0 ≡ n = omega arith in rw e

pub word_step : (n i : ℕ) (t : List ℕ) → i < n → word_of (n - i) t ≡ word_of (n - (i + 1)) (after_word t)
unfolding word_of
word_step n i t h = let e : n - i ≡ suc (n - (i + 1)) = omega arith in rw e

pub word_last : (n i : ℕ) (t : List ℕ) → n ≤ i → word_of (n - i) t ≡ first_word t
unfolding word_of
word_last n i t h = let e : n - i ≡ 0 = omega arith in rw e

pub count_step : (s : List ℕ) (i : ℕ) → i < length s → word_count (drop i s) ≡ space_in (get_or s i 0) + word_count (drop (i + 1) s)
unfolding word_count
count_step s i h = rw (add-one i, drop-cons s i 0 h)

pub count_end : (s : List ℕ) (i : ℕ) → length s ≤ i → word_count (drop i s) ≡ 1
unfolding word_count
count_end s i h = rw (drop_of_length-le s {i = i} h)
