-- What number a single's bits stand for, by its field of 8.
use mathlib.Core.Path.{◌≡◌, refl, sym, ap, ◌∙◌}
use mathlib.Core.Bool.{Bool, true, false, cond}
use mathlib.Core.Logic.{by_cases}
use Prim.Native.Nat.{ℕ, zero, suc, ◌+◌, ◌*◌, ◌/◌, ◌%◌, ◌^◌, ◌<◌}
use native.Mathlib.Nat.{mod-lt, le_of_suc-le-suc, le_antisymm, lt_of_not-le}
use native.Mathlib.Decide.{dec_le}
use native.Mathlib.Omega.{arith}
use borrow.Author.Tests.{ne_eqb, lt-ltb, le-ltb}
use lib.Dec.{leb, ltb, eqb, lit<}
use lib.Ieee.{Float, nan, inf, fin, binary32, of_fields, of_bits}
use lib.Ieee.Exact.{HasValue, odd_sign}
use lib.Ieee.Scale.{finite}
use lib.Pow.{field}

-- the field of 8, the 23 digits, and the side of zero
abbrev pub field_of : ℕ → ℕ
field_of b = b / 8388608 % 256

abbrev pub digits_of : ℕ → ℕ
digits_of b = b % 8388608

abbrev pub below_of : ℕ → Bool
below_of b = leb 2147483648 b

-- the digits with a 1 before them, unless the field is 0; and how often they are doubled, one time fewer than the field says
abbrev pub led : ℕ → ℕ → ℕ
led zero digits = digits
led (suc f) digits = 8388608 + digits

abbrev pub doubled : ℕ → ℕ
doubled zero = 0
doubled (suc f) = f

by_fields : (b : ℕ) → of_bits binary32 b ≡ of_fields binary32 (below_of b) (field_of b) (digits_of b)
unfolding of_bits
by_fields b = ap (λ (f : ℕ). of_fields binary32 (below_of b) f (digits_of b)) (field b 8 23)

-- field 255: an infinity or a NaN
either_not_finite : (s b : Bool) → finite (cond b (inf s) nan) ≡ false
either_not_finite s true = refl
either_not_finite s false = refl

field_ones : (b : ℕ) → field_of b ≡ 255 → finite (of_bits binary32 b) ≡ false
unfolding of_fields
field_ones b h = ap finite (by_fields b ∙ ap (λ (f : ℕ). of_fields binary32 (below_of b) f (digits_of b)) h) ∙ either_not_finite (below_of b) (eqb (digits_of b) 0)

-- any other: led · 2^doubled of the smallest single, 2^-149
valued : (s : Bool) (f t : ℕ) → f < 255 → HasValue (of_fields binary32 s f t) s (led f t * 2 ^ doubled f) (2 ^ 149)
unfolding of_fields
valued s zero t h = odd_sign 24 s t 0 149
valued s (suc f) t h = rw (ne_eqb (suc f) 255 (λ e. omega arith)) (odd_sign 24 s (8388608 + t) f 149)

pub value_of_bits : (b : ℕ) → field_of b < 255 → HasValue (of_bits binary32 b) (below_of b) (led (field_of b) (digits_of b) * 2 ^ doubled (field_of b)) (2 ^ 149)
value_of_bits b h = rw (by_fields b) (valued (below_of b) (field_of b) (digits_of b) h)

value_finite : (x : Float) (s : Bool) (a c : ℕ) → HasValue x s a c → finite x ≡ true
value_finite nan s a c v = absurd v
value_finite (inf t) s a c v = absurd v
value_finite (fin t m e) s a c v = refl

field_finite : (b : ℕ) → field_of b < 255 → finite (of_bits binary32 b) ≡ true
field_finite b h = value_finite (of_bits binary32 b) (below_of b) (led (field_of b) (digits_of b) * 2 ^ doubled (field_of b)) (2 ^ 149) (value_of_bits b h)

pub finite_by_field : (b : ℕ) → ltb (field_of b) 255 ≡ finite (of_bits binary32 b)
finite_by_field b =
    by_cases (dec_le 255 (field_of b))
    (λ ones. le-ltb (field_of b) 255 ones ∙ sym (field_ones b (le_antisymm (le_of_suc-le-suc {m = 255} (mod-lt (b / 8388608) (lit< tt))) ones)))
    (λ less. lt-ltb (field_of b) 255 (lt_of_not-le less) ∙ sym (field_finite b (lt_of_not-le less)))
