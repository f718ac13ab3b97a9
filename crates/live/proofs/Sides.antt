-- Laws of whole numbers by their side of zero and their size.
use mathlib.Core.Path.{◌≡◌, refl, sym, ap, ◌∙◌}
use mathlib.Core.Bool.{Bool, true, false}
use mathlib.Core.Logic.{by_cases}
use Prim.Native.Nat.{ℕ, zero, suc, ◌+◌, ◌-◌, ◌*◌, ◌≤◌, ◌<◌}
use native.Mathlib.Nat.{mul-zero, zero-mul, lt_of_not-le}
use native.Mathlib.Decide.{dec_le}
use native.Mathlib.Omega.{arith}
use borrow.Author.Tests.{lt-ltb, le-ltb}
use lib.IntN.{ℤ, pos, negsuc, neg_ℤ, nat_abs, ◌+ℤ◌, ◌-ℤ◌, ◌*ℤ◌, neg_ℤ-neg_ℤ, neg_ℤ-+ℤ}
use Rattle.live.specs.Exact.{sided}

pub size_sided : (s : Bool) (n : ℕ) → nat_abs (sided s n) ≡ n
size_sided false n = refl
size_sided true zero = refl
size_sided true (suc n) = refl

pub times_sided : (k : ℕ) (s : Bool) (n : ℕ) → pos k *ℤ sided s n ≡ sided s (k * n)
times_sided k false n = refl
times_sided k true zero = rw mul-zero
times_sided k true (suc n) = refl

-- a - b is on zero's upper side for a b that is not above a, and else it is b - a below
pub add_reaching : (a b : ℕ) → b ≤ a → pos a +ℤ sided true b ≡ sided false (a - b)
add_reaching a zero h = ap pos (omega arith)
add_reaching a (suc b) h = rw (le-ltb a (suc b) h)

pub add_passing : (a b : ℕ) → a < b → pos a +ℤ sided true b ≡ sided true (b - a)
add_passing a zero h = absurd (omega arith)
add_passing a (suc b) h = rw (lt-ltb a (suc b) h, more)
  where
    more : suc b - a ≡ suc (suc b - suc a)
    more = omega arith

-- the other side of zero: the size stays, and a product and a difference change over with it
pub size_opposite : (z : ℤ) → nat_abs (neg_ℤ z) ≡ nat_abs z
size_opposite (pos zero) = refl
size_opposite (pos (suc n)) = refl
size_opposite (negsuc n) = refl

pub times_opposite : (z : ℤ) (d : ℕ) → neg_ℤ z *ℤ pos d ≡ neg_ℤ (z *ℤ pos d)
times_opposite (pos zero) d = rw zero-mul
times_opposite (pos (suc n)) d = refl
times_opposite (negsuc n) d = sym (neg_ℤ-neg_ℤ (pos (suc n * d)))

pub apart_opposite : (n z : ℤ) (d : ℕ) → nat_abs (neg_ℤ n -ℤ neg_ℤ z *ℤ pos d) ≡ nat_abs (n -ℤ z *ℤ pos d)
apart_opposite n z d =
    ap (λ (y : ℤ). nat_abs (neg_ℤ n -ℤ y)) (times_opposite z d)
    ∙ ap nat_abs (sym (neg_ℤ-+ℤ n (neg_ℤ (z *ℤ pos d))))
    ∙ size_opposite (n -ℤ z *ℤ pos d)

-- how far two numbers are apart
abbrev pub gap : ℕ → ℕ → ℕ
gap a b = a - b + (b - a)

pub apart : (a b : ℕ) → nat_abs (pos a -ℤ pos b) ≡ gap a b
apart a b =
    by_cases (dec_le b a)
    (λ r. ap nat_abs (add_reaching a b r) ∙ omega arith)
    (λ r. ap nat_abs (add_passing a b (lt_of_not-le r)) ∙ size_sided true (b - a) ∙ omega (arith, lt_of_not-le r))
