-- The laws of numbers: a digit, one digit more, and the most that an operand holds.
use Rattle.std.specs.Prelude.{Some, None, Option}
use mathlib.Core.Path.{sym, ◌≡◌, refl, ap, ◌∙◌}
use mathlib.Core.Bool.{Bool, true, false, cond}
use mathlib.Core.List.{List, [], ◌∷◌}
use Prim.Native.Nat.{ℕ, suc, ◌+◌, ◌*◌, ◌-◌, ◌≤◌, ◌<◌}
use native.Mathlib.Numerals.{add-one}
use native.Mathlib.Omega.{arith}
use borrow.Author.Tests.{lt-ltb, lt-leb, le-leb, leb-true, eq-eqb, ne_eqb}
use lib.Dec.{leb, eqb}
use Rattle.std.specs.List.{starts_with}
use Rattle.std.proofs.lemmas.Bool.Decides.{nat_tests}
use mir.Syntax.{w16}
use mir.Val.{to_z}
use lib.ListN.{length, get_or, take, drop, length-drop, drop_of_length-le}
use lib.Seq.{drop-cons, take-length}
use Rattle.numerals.specs.Numbers.{digit_of, go_on, is_ill_led, whole_of, up_to, number_of, signed_of, negated, as_it_is}

pub digit_is : (b : ℕ) → 48 ≤ b → b ≤ 57 → digit_of b ≡ b - 48
unfolding digit_of
digit_is b l h = rw (le-leb 48 b l, le-leb b 57 h)

pub digit_low : (b : ℕ) → b < 48 → digit_of b ≡ 10
unfolding digit_of
digit_low b h = rw (lt-leb 48 b h)

pub digit_high : (b : ℕ) → 57 < b → digit_of b ≡ 10
unfolding digit_of
digit_high b h = rw (le-leb 48 b (omega arith), lt-leb b 57 h)

pub no_digit : (v : ℕ) (w : List ℕ) (i : ℕ) → i < length w → 9 < digit_of (get_or w i 0) → go_on v (drop i w) ≡ None
unfolding go_on
no_digit v w i h none_is = rw (drop-cons w i 0 h, lt-leb (digit_of (get_or w i 0)) 9 none_is)

pub one_digit : (v : ℕ) (w : List ℕ) (i : ℕ) → i < length w → digit_of (get_or w i 0) ≤ 9 → go_on v (drop i w) ≡ go_on (10 * v + digit_of (get_or w i 0)) (drop (i + 1) w)
unfolding go_on
one_digit v w i h is = rw (add-one i, drop-cons w i 0 h, le-leb (digit_of (get_or w i 0)) 9 is)

none_pick : (q : Bool) (d : ℕ) (x : Option ℕ) → cond q (Some d) None ≡ None → cond q x None ≡ None
none_pick true d x e = let z : ◌≡◌ {A = ℕ} 0 1 = cc in absurd (omega arith)
none_pick false d x e = refl

some_pick : (q : Bool) (n d : ℕ) (x : ℕ → Option ℕ) → cond q (Some n) None ≡ Some d → cond q (x n) None ≡ x d
some_pick true n d x e = let same : n ≡ d = cc in ap x same
some_pick false n d x e = let z : ◌≡◌ {A = ℕ} 0 1 = cc in absurd (omega arith)

-- the same of a digit as it is read
pub digit_missing : (v : ℕ) (w : List ℕ) (i : ℕ) → i < length w → up_to 9 (Some (digit_of (get_or w i 0))) ≡ None → go_on v (drop i w) ≡ None
unfolding go_on up_to
digit_missing v w i h none_is = rw (drop-cons w i 0 h) (none_pick (leb (digit_of (get_or w i 0)) 9) (digit_of (get_or w i 0)) _ none_is)

pub digit_read : (v d : ℕ) (w : List ℕ) (i : ℕ) → i < length w → up_to 9 (Some (digit_of (get_or w i 0))) ≡ Some d → go_on v (drop i w) ≡ go_on (10 * v + d) (drop (i + 1) w)
unfolding go_on up_to
digit_read v d w i h is = rw (add-one i, drop-cons w i 0 h) (some_pick (leb (digit_of (get_or w i 0)) 9) (digit_of (get_or w i 0)) d (λ (n : ℕ). go_on (10 * v + n) (drop (suc i) w)) is)

pub no_more : (v : ℕ) (w : List ℕ) (i : ℕ) → length w ≤ i → go_on v (drop i w) ≡ Some v
unfolding go_on
no_more v w i h = rw (drop_of_length-le w {i = i} h)

large_pick : (most : ℕ) (q : Bool) (x : Option ℕ) → up_to most x ≡ None → up_to most (cond q x None) ≡ None
unfolding up_to
large_pick most true x ih = ih
large_pick most false x ih = refl

-- digits behind a number do not make it smaller
pub too_large : (most v : ℕ) (w : List ℕ) → most < v → up_to most (go_on v w) ≡ None
unfolding go_on up_to
too_large most v [] h = rw (lt-leb v most h)
too_large most v (b ∷ w) h = large_pick most (leb (digit_of b) 9) _ (too_large most (10 * v + digit_of b) w (omega arith))

pub small_enough : (most v : ℕ) → v ≤ most → up_to most (Some v) ≡ Some v
unfolding up_to
small_enough most v h = rw (le-leb v most h)

pub none_up_to : (most : ℕ) → up_to most None ≡ None
unfolding up_to
none_up_to most = refl

pub ill : (most : ℕ) (w : List ℕ) → is_ill_led w ≡ true → number_of most w ≡ None
unfolding number_of whole_of up_to
ill most w h = rw h

pub well_led : (w : List ℕ) → is_ill_led w ≡ false → whole_of w ≡ go_on 0 w
unfolding whole_of
well_led w h = rw h

pub begun : (most : ℕ) (w : List ℕ) → is_ill_led w ≡ false → number_of most w ≡ up_to most (go_on 0 w)
unfolding number_of
begun most w h = ap (up_to most) (well_led w h)

-- a parsed number fits its operand
fits_pick : (most u v : ℕ) (q : Bool) → leb u most ≡ q → cond q (Some u) None ≡ Some v → v ≤ most
fits_pick most u v true t h = let e : u ≡ v = cc in omega (arith, leb-true u most t)
fits_pick most u v false t h = let z : ◌≡◌ {A = ℕ} 0 1 = cc in absurd (omega arith)

fits_up_to : (most v : ℕ) (x : Option ℕ) → up_to most x ≡ Some v → v ≤ most
unfolding up_to
fits_up_to most v None h = let z : ◌≡◌ {A = ℕ} 0 1 = cc in absurd (omega arith)
fits_up_to most v (Some u) h = fits_pick most u v (leb u most) refl h

pub number_fits : (most v : ℕ) (w : List ℕ) → number_of most w ≡ Some v → v ≤ most
unfolding number_of
number_fits most v w h = fits_up_to most v (whole_of w) h

pub taken_signed : (w : List ℕ) → get_or w 0 0 ≡ 45 → signed_of w ≡ negated (number_of 32768 (drop 1 w))
unfolding signed_of
taken_signed w h = rw (eq-eqb (get_or w 0 0) 45 h)

pub left_signed : (w : List ℕ) → (get_or w 0 0 ≡ 45 → ⊥) → signed_of w ≡ as_it_is (number_of 32767 w)
unfolding signed_of
left_signed w h = rw (ne_eqb (get_or w 0 0) 45 h)

dash_is : (w : List ℕ) → starts_with eqb w (45 ∷ []) ≡ eqb (get_or w 0 0) 45
dash_is [] = refl
dash_is (b ∷ w) = grind (arith, nat_tests)

-- what stands behind the first byte
rest_is : (w : List ℕ) → take (length w - 1) (drop 1 w) ≡ drop 1 w
rest_is w = let e : length w - 1 ≡ length (drop 1 w) = omega (arith, length-drop 1 w) in rw e (take-length (drop 1 w))

pub dash_taken : (w : List ℕ) → starts_with eqb w (45 ∷ []) ≡ true → signed_of w ≡ negated (number_of 32768 (take (length w - 1) (drop 1 w)))
unfolding signed_of
dash_taken w h = rw (sym (dash_is w) ∙ h, rest_is w)

pub dash_left : (w : List ℕ) → starts_with eqb w (45 ∷ []) ≡ false → signed_of w ≡ as_it_is (number_of 32767 w)
unfolding signed_of
dash_left w h = rw (sym (dash_is w) ∙ h)

pub held_is : (n : ℕ) → n ≤ 32767 → Some (to_z w16 n) ≡ as_it_is (Some n)
unfolding as_it_is
held_is n l = rw (lt-ltb n 32768 (omega arith))

-- what a reader's goals want, of a number and of one with a sign
pub ruleset read = (ill, begun, digit_missing, none_up_to, no_more, small_enough)

pub ruleset signed = (number_fits, dash_left, held_is)
