-- A printed number: the digits that `io` spells are the definition's, and they read back as the number.
use Rattle.std.specs.Prelude.{Option, None, Some}
use mathlib.Core.Path.{◌≡◌, refl, ap, ◌∙◌}
use mathlib.Core.Bool.{Bool, true, false, cond, and-false}
use mathlib.Core.List.{List, [], ◌∷◌, ◌++◌}
use Prim.Native.Nat.{ℕ, zero, suc, ◌+◌, ◌*◌, ◌-◌, ◌/◌, ◌%◌, ◌^◌, ◌≤◌, ◌<◌}
use native.Mathlib.Omega.{arith}
use native.Mathlib.Nat.{pow-suc, one-le-pow, pow-le-pow_right, lt_of_not-le}
use native.Mathlib.Decide.{dec_lt}
use borrow.Author.Tests.{le-leb, lt-ltb, le-ltb, ne_eqb}
use lib.Dec.{leb, ltb}
use lib.ListN.{length, get_or, length-append, get_or-append}
use Rattle.io.specs.Digits.{last_digits, IsDigitCount}
use Rattle.numerals.specs.Numbers.{digit_of, go_on, digits_to, printed, is_ill_led, whole_of, number_of, up_to}
use Rattle.numerals.proofs.Numbers.{well_led, small_enough}

pub fewest : (k r n : ℕ) → IsDigitCount 10 1 n r → r ≤ k → last_digits 10 r n ≡ digits_to k n
unfolding digits_to
fewest k zero n f h = absurd (omega (arith, f.0))
fewest zero (suc r) n f h = absurd (omega arith)
fewest (suc k) (suc zero) n f h =
    let low : n < 10 = omega (arith, f.1) in
    let e : n % 10 ≡ n = omega arith in
    rw (e, lt-ltb n 10 low)
fewest (suc k) (suc (suc r)) n f h =
    let one : suc (suc r) - 1 ≡ suc r = omega arith in
    let less : suc r - 1 ≡ r = omega arith in
    let least : 10 ^ suc r ≤ n = rw one at (f.2 (omega arith)) in
    let down : 10 ^ suc r ≡ 10 ^ r * 10 = pow-suc 10 r in
    let up : 10 ^ suc (suc r) ≡ 10 ^ suc r * 10 = pow-suc 10 (suc r) in
    let some_at_least : 1 ≤ 10 ^ r = one-le-pow r 10 (omega arith) in
    let top : n < 10 ^ suc (suc r) = f.1 in
    let high : 10 ≤ n = omega arith in
    let rest : IsDigitCount 10 1 (n / 10) (suc r) = (omega arith, omega arith, λ _. rw less (omega arith)) in
    rw (le-ltb n 10 high, lt-ltb (n % 10) 10 (omega arith))
    (ap (λ (l : List ℕ). l ++ ((48 + n % 10) ∷ [])) (fewest k (suc r) (n / 10) rest (omega arith)))

abbrev then_on : Option ℕ → List ℕ → Option ℕ
then_on None w = None
then_on (Some v) w = go_on v w

pick_on : (q : Bool) (x : Option ℕ) (w : List ℕ) → cond q (then_on x w) None ≡ then_on (cond q x None) w
pick_on true x w = refl
pick_on false x w = refl

go_append : (v : ℕ) (w u : List ℕ) → go_on v (w ++ u) ≡ then_on (go_on v w) u
unfolding go_on
go_append v [] u = refl
go_append v (b ∷ w) u = rw (go_append (10 * v + digit_of b) w u) (pick_on (leb (digit_of b) 9) (go_on (10 * v + digit_of b) w) u)

digit_back : (d : ℕ) → d ≤ 9 → digit_of (48 + d) ≡ d
unfolding digit_of
digit_back d h = let e : 48 + d - 48 ≡ d = omega arith in rw (le-leb 48 (48 + d) (omega arith), le-leb (48 + d) 57 (omega arith)) e

last_digit : (v d : ℕ) → d ≤ 9 → go_on v ((48 + d) ∷ []) ≡ Some (10 * v + d)
unfolding go_on
last_digit v d h = rw (digit_back d h, le-leb d 9 h)

not-below : {n m : ℕ} → (n < m → ⊥) → m ≤ n
not-below {n} {m} h = let l : m < suc n = lt_of_not-le h in omega arith

go_none : go_on 0 [] ≡ Some 0
unfolding go_on
go_none = refl

-- the digits of a number go on from nothing to the number
pub digits_back : (k n : ℕ) → n < 10 ^ k → go_on 0 (digits_to k n) ≡ Some n
unfolding digits_to
digits_back zero n h = let e : 0 ≡ n = omega arith in go_none ∙ ap Some e
digits_back (suc k) n h = by (dec_lt n 10) (digits_back k (n / 10))
  where
    by : Dec (n < 10) → (n / 10 < 10 ^ k → go_on 0 (digits_to k (n / 10)) ≡ Some (n / 10)) → go_on 0 (cond (ltb n 10) ((48 + n) ∷ []) (digits_to k (n / 10) ++ ((48 + n % 10) ∷ []))) ≡ Some n
    by (yes low) back =
        let e : 10 * 0 + n ≡ n = omega arith in
        rw (lt-ltb n 10 low) (last_digit 0 n (omega arith) ∙ ap Some e)
    by (no high) back =
        let up : 10 ^ suc k ≡ 10 ^ k * 10 = pow-suc 10 k in
        let e : 10 * (n / 10) + n % 10 ≡ n = omega arith in
        let least : 10 ≤ n = not-below high in
        rw (le-ltb n 10 least)
        (go_append 0 (digits_to k (n / 10)) ((48 + n % 10) ∷ []) ∙ ap (λ (x : Option ℕ). then_on x ((48 + n % 10) ∷ [])) (back (omega arith)) ∙ last_digit (n / 10) (n % 10) (omega arith) ∙ ap Some e)

twenty : (r n : ℕ) → IsDigitCount 10 1 n r → n < 10 ^ 20 → r ≤ 20
twenty r n f h = by (dec_lt 20 r)
  where
    by : Dec (20 < r) → r ≤ 20
    by (yes long) =
        let p : 10 ^ 20 ≤ 10 ^ (r - 1) = pow-le-pow_right {n = 10} (omega arith) {i = 20} {j = r - 1} (omega arith) in
        let q : 10 ^ (r - 1) ≤ n = f.2 (omega arith) in
        absurd (omega arith)
    by (no short) = not-below short

-- 64 bits: what `io` spells is what is printed
pub spelt : (r n : ℕ) → IsDigitCount 10 1 n r → n < 10 ^ 20 → last_digits 10 r n ≡ printed n
unfolding printed
spelt r n f h = fewest 20 r n f (twenty r n f h)

-- the first digit of a number that is not zero is not zero
first_digit : (k n : ℕ) → n < 10 ^ k → 0 < n → (48 < get_or (digits_to k n) 0 0) × (0 < length (digits_to k n))
unfolding digits_to
first_digit zero n h p = absurd (omega arith)
first_digit (suc k) n h p = by (dec_lt n 10) (first_digit k (n / 10))
  where
    by : Dec (n < 10) → (n / 10 < 10 ^ k → 0 < n / 10 → (48 < get_or (digits_to k (n / 10)) 0 0) × (0 < length (digits_to k (n / 10))))
        → (48 < get_or (cond (ltb n 10) ((48 + n) ∷ []) (digits_to k (n / 10) ++ ((48 + n % 10) ∷ []))) 0 0) × (0 < length (cond (ltb n 10) ((48 + n) ∷ []) (digits_to k (n / 10) ++ ((48 + n % 10) ∷ []))))
    by (yes low) first = rw (lt-ltb n 10 low) (omega arith)
    by (no high) first =
        let up : 10 ^ suc k ≡ 10 ^ k * 10 = pow-suc 10 k in
        let least : 10 ≤ n = not-below high in
        let f = first (omega arith) (omega arith) in
        let w = digits_to k (n / 10) in
        let u = (48 + n % 10) ∷ [] in
        rw (le-ltb n 10 least)
        (omega (arith, get_or-append w u 0 0 f.1, f.0), omega (arith, length-append w u, f.1))

zero_spelt : is_ill_led (printed 0) ≡ false
unfolding printed is_ill_led digits_to
zero_spelt = refl

well_spelt : (n : ℕ) → n < 10 ^ 20 → is_ill_led (printed n) ≡ false
unfolding printed is_ill_led
well_spelt zero h = zero_spelt
well_spelt (suc n) h =
    let f = first_digit 20 (suc n) h (omega arith) in
    let w = digits_to 20 (suc n) in
    rw (ne_eqb (length w) 0 (λ e. omega (arith, f.1)), ne_eqb (get_or w 0 0) 48 (λ e. omega (arith, f.0))) (and-false (ltb 1 (length w)))

-- a printed number reads back as itself
pub reads_back : (n : ℕ) → n < 10 ^ 20 → whole_of (printed n) ≡ Some n
unfolding printed
reads_back n h = well_led (printed n) (well_spelt n h) ∙ digits_back 20 n h

-- and so does one that its operand holds
pub operand_back : (most n : ℕ) → n < 10 ^ 20 → n ≤ most → number_of most (printed n) ≡ Some n
unfolding number_of
operand_back most n h l = ap (up_to most) (reads_back n h) ∙ small_enough most n l
