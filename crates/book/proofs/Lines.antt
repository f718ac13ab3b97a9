-- Laws of a line's record: a line with its unused places zero is the line of what waits in it, and stays so when
-- one more waits and when a place is given up; and what the place of a number tells.
use mathlib.Core.Path.{◌≡◌, refl, sym, ap, ◌∙◌}
use mathlib.Core.Bool.{Bool, true, false, ◌&&◌}
use mathlib.Core.Logic.{by_cases}
use mathlib.Core.List.{List, [], ◌∷◌, ◌++◌, append_assoc}
use Prim.Native.Nat.{ℕ, zero, suc, ◌+◌, ◌-◌, ◌≤◌, ◌<◌}
use native.Mathlib.Decide.{dec_lt}
use native.Mathlib.Numerals.{add-one}
use native.Mathlib.Omega.{arith}
use borrow.Author.Tests.{lt-ltb, le-ltb}
use lib.Dec.{ltb, eqb}
use lib.ListN.{length, take, drop, get_or, set, replicate, length-append, length-take, length-drop, drop_of_length-le, take-append-drop, replicate-append-replicate}
use lib.Seq.{length-take-le, set_at, drop-cons, take-suc, take_all, take-take, get_or-take, get_or-drop}
use Rattle.std.specs.List.{list_all, copy_within}
use Rattle.std.proofs.lemmas.List.Edits.{paste_all}
use Rattle.octets.specs.FirstToLast.{first_to_last, holds_all}
use Rattle.octets.specs.Lists.{is_one_of}
use Rattle.octets.specs.Octets.{is_zero_at, zero_between}
use Rattle.octets.proofs.Laws.{zero_part}
use Rattle.book.specs.Line.{waiting, line_of, without}
use Rattle.book.specs.declared.Line.{Line}
use Rattle.book.proofs.Lists.{given_up, length_given_up, given_up_append}
use Rattle.book.proofs.Waiting.{among_at, without_at}

-- a list of waiting numbers and zeros behind them, sixteen in all
padded : List ℕ → List ℕ
padded xs = xs ++ replicate (16 - length xs) 0

line_of_padded : (xs : List ℕ) → ◌≡◌ {A = Line} (record { numbers = padded xs; count = length xs }) (line_of xs)
unfolding padded line_of
line_of_padded xs = refl

-- the count is how many wait
pub waiting_count : (line : Line) → line.count ≤ 16 → length line.numbers ≡ 16 → length (waiting line) ≡ line.count
unfolding waiting
waiting_count line few wide = length-take-le line.count line.numbers (omega arith)

-- no more wait than there are places
pub waiting_most : (line : Line) → length line.numbers ≡ 16 → length (waiting line) ≤ 16
unfolding waiting
waiting_most line wide = simp length-take (omega arith)

-- the numbers from a place on are zero
pub zeros_from : (s : List ℕ) (n a : ℕ) → length s - a ≡ n → list_all (λ (x : ℕ). eqb x 0) (drop a s) ≡ holds_all (is_zero_at s) n a
unfolding first_to_last is_zero_at
zeros_from s zero a h = ap (list_all (λ (x : ℕ). eqb x 0)) (drop_of_length-le s (omega arith))
zeros_from s (suc n) a h =
    ap (list_all (λ (x : ℕ). eqb x 0)) (drop-cons s a 0 (omega arith)) ∙ ap (λ (k : ℕ). eqb (get_or s a 0) 0 && list_all (λ (x : ℕ). eqb x 0) (drop k s)) (sym (add-one a))
    ∙ ap (λ (t : Bool). eqb (get_or s a 0) 0 && t) (zeros_from s n (a + 1) (omega arith))

-- the place of a number tells whether it waits, and is the one that it gives up
abbrev Placed : Line → ℕ → ℕ → ℕ → Type 0
Placed line from x r = (from ≤ r) × (r ≤ line.count) × (is_one_of x (drop from (take r line.numbers)) ≡ false) × (r < line.count → get_or line.numbers r 0 ≡ x)

module _ (line : Line) (few : line.count ≤ 16) (wide : length line.numbers ≡ 16) (from x r : ℕ) (placed : Placed line from x r) where
  there : r < line.count → get_or (waiting line) r 0 ≡ x
  unfolding waiting
  there h = get_or-take line.count line.numbers r 0 h ∙ placed.3 h

  found : r < line.count → is_one_of x (drop from (waiting line)) ≡ true
  found h =
      let many = waiting_count line few wide in
      let front = placed.0 in
      let at : from + (r - from) ≡ r = omega arith in
      among_at x (drop from (waiting line)) (r - from) (simp length-drop (omega arith))
      (get_or-drop from (waiting line) (r - from) 0 ∙ ap (λ (n : ℕ). get_or (waiting line) n 0) at ∙ there h)

  missed : line.count ≤ r → is_one_of x (drop from (waiting line)) ≡ false
  unfolding waiting
  missed h =
      let most = placed.1 in
      let end : line.count ≡ r = omega arith in
      ap (λ (n : ℕ). is_one_of x (drop from (take n line.numbers))) end ∙ placed.2

  pub place_tells : ltb r line.count ≡ is_one_of x (drop from (waiting line))
  place_tells =
      by_cases (dec_lt r line.count) (λ h. lt-ltb _ _ h ∙ sym (found h)) (λ not. let past : line.count ≤ r = omega arith in le-ltb _ _ past ∙ sym (missed past))

-- what is left when a number's place is given up is what is left without the number
pub place_given_up : (line : Line) (x r : ℕ) → line.count ≤ 16 → length line.numbers ≡ 16 → r < line.count → is_one_of x (take r line.numbers) ≡ false
    → get_or line.numbers r 0 ≡ x → given_up r (waiting line) ≡ without x (waiting line)
unfolding waiting
place_given_up line x r few wide h new is =
    let many = waiting_count line few wide in
    without_at x (waiting line) r (omega arith) (ap (is_one_of x) (take-take r line.count line.numbers (omega arith)) ∙ new) (get_or-take line.count line.numbers r 0 h ∙ is)

-- a line that has its unused places zero
module _ (line : Line) (few : line.count ≤ 16) (wide : length line.numbers ≡ 16) (unused : zero_between line.numbers line.count 16 ≡ true) where
  numbers_padded : line.numbers ≡ padded (waiting line)
  unfolding padded waiting
  numbers_padded =
      let n = line.count in
      let s = line.numbers in
      let many : length (take n s) ≡ n = length-take-le n s (omega arith) in
      let all : n + (16 - n) ≡ 16 = omega arith in
      let zeros : take (16 - n) (drop n s) ≡ replicate (16 - n) 0 = zero_part s n (16 - n) (omega arith) (ap (zero_between s n) all ∙ unused) in
      let rest : drop n s ≡ replicate (16 - n) 0 = sym (take_all (16 - n) (drop n s) (simp length-drop (omega arith))) ∙ zeros in
      sym (take-append-drop n s) ∙ ap (λ (tail : List ℕ). take n s ++ tail) (rest ∙ ap (λ (k : ℕ). replicate (16 - k) 0) (sym many))

  -- it is the line of what waits in it
  pub line_back : line ≡ line_of (waiting line)
  line_back = (λ i. record { numbers = numbers_padded i; count = sym (waiting_count line few wide) i }) ∙ line_of_padded (waiting line)

lengthened : (xs : List ℕ) (x : ℕ) → length xs < 16 → set (padded xs) (length xs) x ≡ padded (xs ++ (x ∷ []))
unfolding padded
lengthened xs x few =
    let one : 16 - length xs ≡ suc (15 - length xs) = omega arith in
    let left : 15 - length xs ≡ 16 - length (xs ++ (x ∷ [])) = simp length-append (omega arith) in
    ap (λ (n : ℕ). set (xs ++ replicate n 0) (length xs) x) one ∙ set_at xs 0 (replicate (15 - length xs) 0) x (length xs) refl
    ∙ sym (append_assoc xs (x ∷ []) _) ∙ ap (λ (n : ℕ). xs ++ (x ∷ []) ++ replicate n 0) left

-- one more waits behind the others
pub line_lengthened : (line : Line) (x : ℕ) → line.count < 16 → length line.numbers ≡ 16 → zero_between line.numbers line.count 16 ≡ true
    → ◌≡◌ {A = Line} (record { numbers = set line.numbers line.count x; count = line.count + 1 }) (line_of (waiting line ++ (x ∷ [])))
line_lengthened line x few wide unused =
    let w = waiting line in
    let many : length w ≡ line.count = waiting_count line (omega arith) wide in
    let numbers : set line.numbers line.count x ≡ padded (w ++ (x ∷ [])) =
    ap (λ (ns : List ℕ). set ns line.count x) (numbers_padded line (omega arith) wide unused) ∙ ap (λ (n : ℕ). set (padded w) n x) (sym many) ∙ lengthened w x (omega arith) in
    let count : line.count + 1 ≡ length (w ++ (x ∷ [])) = simp length-append (omega arith) in
    ◌∙◌ {A = Line} (λ i. record { numbers = numbers i; count = count i }) (line_of_padded (w ++ (x ∷ [])))

-- a list copied into zeros, one place at a time
pub copied_next : (xs : List ℕ) (i v : ℕ) → i < 16 → i < length xs → v ≡ get_or xs i 0 → set (take i xs ++ replicate (16 - i) 0) i v ≡ take (i + 1) xs ++ replicate (16 - (i + 1)) 0
copied_next xs i v few here same =
    let one : 16 - i ≡ suc (16 - (i + 1)) = omega arith in
    ap (λ (n : ℕ). set (take i xs ++ replicate n 0) i v) one ∙ set_at (take i xs) 0 (replicate (16 - (i + 1)) 0) v i (length-take-le i xs (omega arith))
    ∙ sym (append_assoc (take i xs) (v ∷ []) _)
    ∙ ap (λ (ys : List ℕ). ys ++ replicate (16 - (i + 1)) 0) (ap (λ (y : ℕ). take i xs ++ (y ∷ [])) same ∙ sym (take-suc xs i 0 here) ∙ ap (λ (n : ℕ). take n xs) (sym (add-one i)))

-- a place is given up: those behind it have moved up, and a zero has come in
pub line_shortened : (line : Line) (at : ℕ) → line.count ≤ 16 → at < line.count → length line.numbers ≡ 16 → zero_between line.numbers line.count 16 ≡ true
    → ◌≡◌ {A = Line} (record { numbers = take 15 (given_up at line.numbers) ++ replicate 1 0; count = line.count - 1 }) (line_of (given_up at (waiting line)))
unfolding padded
line_shortened line at few here wide unused =
    let w = waiting line in
    let many : length w ≡ line.count = waiting_count line few wide in
    let fewer : length (given_up at w) + 1 ≡ length w = length_given_up at w (omega arith) in
    let fifteen : length (given_up at line.numbers) + 1 ≡ length line.numbers = length_given_up at line.numbers (omega arith) in
    let kept : given_up at line.numbers ≡ given_up at w ++ replicate (16 - length w) 0 =
    ap (given_up at) (numbers_padded line few wide unused) ∙ given_up_padded w at (omega arith) in
    let numbers : take 15 (given_up at line.numbers) ++ replicate 1 0 ≡ padded (given_up at w) =
    ap (λ (xs : List ℕ). xs ++ replicate 1 0) (take_all 15 _ (omega arith) ∙ kept) ∙ one_zero_more (given_up at w) (16 - length w) (omega arith) in
    let count : line.count - 1 ≡ length (given_up at w) = omega arith in
    ◌∙◌ {A = Line} (λ i. record { numbers = numbers i; count = count i }) (line_of_padded (given_up at w))
  where
    given_up_padded : (xs : List ℕ) (at : ℕ) → at < length xs → given_up at (padded xs) ≡ given_up at xs ++ replicate (16 - length xs) 0
    given_up_padded xs at h = given_up_append at xs (replicate (16 - length xs) 0) h

    one_zero_more : (xs : List ℕ) (n : ℕ) → n + 1 ≡ 16 - length xs → xs ++ replicate n 0 ++ replicate 1 0 ≡ padded xs
    one_zero_more xs n h = append_assoc xs (replicate n 0) (replicate 1 0) ∙ ap (λ (zs : List ℕ). xs ++ zs) (replicate-append-replicate n 1 0 ∙ ap (λ (k : ℕ). replicate k 0) h)

-- those behind a place moved up by one, and a zero put in the last place
moved_up : (xs : List ℕ) (at : ℕ) → length xs ≡ 16 → at < 16 → set (copy_within xs (at + 1) (length xs) at) 15 0 ≡ given_up at xs ++ (0 ∷ [])
unfolding given_up
moved_up xs at wide h =
    let fifteen : length (given_up at xs) + 1 ≡ length xs = length_given_up at xs (omega arith) in
    let many : length xs - (at + 1) ≡ length (drop (at + 1) xs) = simp length-drop in
    let moved : copy_within xs (at + 1) (length xs) at ≡ take at xs ++ (drop (at + 1) xs ++ drop (at + (length xs - (at + 1))) xs) = paste_all xs at (drop (at + 1) xs) (length xs - (at + 1)) many in
    let place : at + (length xs - (at + 1)) ≡ 15 = omega arith in
    let none : drop 16 xs ≡ [] = drop_of_length-le xs {i = 16} (omega arith) in
    let last : drop (at + (length xs - (at + 1))) xs ≡ get_or xs 15 0 ∷ [] =
    ap (λ (n : ℕ). drop n xs) place ∙ drop-cons xs 15 0 (omega arith) ∙ ap (λ (ys : List ℕ). get_or xs 15 0 ∷ ys) none in
    ap (λ (ys : List ℕ). set ys 15 0)
    (moved ∙ ap (λ (ys : List ℕ). take at xs ++ (drop (at + 1) xs ++ ys)) last ∙ sym (append_assoc (take at xs) (drop (at + 1) xs) (get_or xs 15 0 ∷ [])))
    ∙ set_at (given_up at xs) (get_or xs 15 0) [] 0 15 (omega arith)

-- the same of the list in which those behind the place were moved up within it
pub line_moved_up : (line : Line) (at : ℕ) → line.count ≤ 16 → at < line.count → length line.numbers ≡ 16 → zero_between line.numbers line.count 16 ≡ true
    → ◌≡◌ {A = Line} (record { numbers = set (copy_within line.numbers (at + 1) (length line.numbers) at) 15 0; count = line.count - 1 }) (line_of (given_up at (waiting line)))
line_moved_up line at few here wide unused =
    let fifteen : length (given_up at line.numbers) + 1 ≡ length line.numbers = length_given_up at line.numbers (omega arith) in
    let numbers : set (copy_within line.numbers (at + 1) (length line.numbers) at) 15 0 ≡ take 15 (given_up at line.numbers) ++ replicate 1 0 =
    moved_up line.numbers at wide (omega arith) ∙ ap (λ (xs : List ℕ). xs ++ replicate 1 0) (sym (take_all 15 (given_up at line.numbers) (omega arith))) in
    ◌∙◌ {A = Line} (λ i. record { numbers = numbers i; count = line.count - 1 }) (line_shortened line at few here wide unused)
