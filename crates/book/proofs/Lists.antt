-- Laws of lists that the code of a line goes by: what is left when a place is given up, and proper numbers from a place on.
use mathlib.Core.Path.{◌≡◌, sym, ap, ◌∙◌}
use mathlib.Core.Bool.{true, ◌&&◌, not}
use mathlib.Core.List.{List, ◌++◌, append_assoc}
use Prim.Native.Nat.{ℕ, ◌+◌, ◌-◌, ◌≤◌, ◌<◌}
use native.Mathlib.Numerals.{add-one}
use native.Mathlib.Omega.{arith}
use lib.Dec.{eqb}
use lib.ListN.{length, take, drop, get_or, length-append, length-drop, get_or-append}
use lib.Seq.{drop-cons, take-append-le, drop-append-le, get_or-drop, get_or-take, get_or-append-add, length-take-le, drop-length}
use Rattle.octets.specs.Lists.{is_one_of}
use Rattle.book.specs.Line.{are_proper}

-- all but the one at a place, in their order
unfoldable pub given_up : ℕ → List ℕ → List ℕ
given_up at numbers = take at numbers ++ drop (at + 1) numbers

-- those that are left when a place is given up: one fewer, each before the place where it was, each behind it one place further on
pub length_given_up : (at : ℕ) (xs : List ℕ) → at < length xs → length (given_up at xs) + 1 ≡ length xs
unfolding given_up
length_given_up at xs h =
    let front : length (take at xs) ≡ at = length-take-le at xs (omega arith) in
    simp (length-append, length-drop) (omega arith)

pub given_up_before : (at : ℕ) (xs : List ℕ) (i : ℕ) → at ≤ length xs → i < at → get_or xs i 0 ≡ get_or (given_up at xs) i 0
unfolding given_up
given_up_before at xs i l h =
    let short : i < length (take at xs) = rw (length-take-le at xs l) h in
    sym (get_or-append (take at xs) (drop (at + 1) xs) 0 i short ∙ get_or-take at xs i 0 h)

pub given_up_behind : (at : ℕ) (xs : List ℕ) (i : ℕ) → at ≤ length xs → at ≤ i → get_or xs (i + 1) 0 ≡ get_or (given_up at xs) i 0
unfolding given_up
given_up_behind at xs i l h =
    let there : i ≡ length (take at xs) + (i - at) = rw (length-take-le at xs l) (omega arith) in
    let same : at + 1 + (i - at) ≡ i + 1 = omega arith in
    sym
    (ap (λ (k : ℕ). get_or (take at xs ++ drop (at + 1) xs) k 0) there
    ∙ get_or-append-add (take at xs) (drop (at + 1) xs) (i - at) 0
    ∙ get_or-drop (at + 1) xs (i - at) 0
    ∙ ap (λ (k : ℕ). get_or xs k 0) same)

pub given_up_append : (at : ℕ) (xs ys : List ℕ) → at < length xs → given_up at (xs ++ ys) ≡ given_up at xs ++ ys
unfolding given_up
given_up_append at xs ys h =
    let front : at ≤ length xs = omega arith in
    let back : at + 1 ≤ length xs = omega arith in
    rw (take-append-le at xs ys front, drop-append-le (at + 1) xs ys back) (sym (append_assoc (take at xs) (drop (at + 1) xs) ys))

-- proper numbers from a place on, one place at a time
pub proper_step : (xs : List ℕ) (i : ℕ) → i < length xs
    → are_proper (drop i xs) ≡ (not (eqb (get_or xs i 0) 0) && (not (is_one_of (get_or xs i 0) (drop (i + 1) xs)) && are_proper (drop (i + 1) xs)))
unfolding are_proper
proper_step xs i h = rw (add-one i, drop-cons xs i 0 h)

pub proper_done : (xs : List ℕ) (i : ℕ) → length xs ≡ i → are_proper (drop i xs) ≡ true
unfolding are_proper
proper_done xs i h = rw (← h, drop-length)
