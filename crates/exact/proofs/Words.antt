-- The two words of a number, and the number of two words.
use mathlib.Core.Path.{◌≡◌, sym, ◌∙◌}
use mathlib.Core.Logic.{by_cases}
use Prim.Native.Nat.{ℕ, ◌+◌, ◌*◌, ◌^◌, ◌<◌}
use native.Mathlib.Nat.{div-add-mod'}
use native.Mathlib.Decide.{dec_lt, dec_le}
use native.Mathlib.Omega.{arith}
use borrow.Author.Tests.{le-leb, lt-leb, lt-ltb, le-ltb}
use lib.Arith.{digits_div, digits_mod}
use lib.Dec.{leb, ltb}
use Rattle.exact.specs.Words.{value_of, wide_of}
use Rattle.exact.specs.declared.Wide.{Wide}

-- no number has two pairs of words
pub words_one : (hi : ℕ) {lo : ℕ} → lo < 2 ^ 64 → wide_of (hi * 2 ^ 64 + lo) ≡ record { hi = hi; lo = lo }
unfolding wide_of
words_one hi h = λ i. record { hi = digits_div hi h i; lo = digits_mod hi h i }

pub value_wide : (n : ℕ) → value_of (wide_of n) ≡ n
unfolding value_of wide_of
value_wide n = div-add-mod' n (2 ^ 64)

-- two words are those of the number that they stand for
pub words_of : (w : Wide) → w.lo < 2 ^ 64 → w ≡ wide_of (value_of w)
unfolding value_of
words_of w h = sym (words_one w.hi h)

-- the upper words decide which of two numbers is larger, and the lower ones where those are equal
module _ (h h' l l' : ℕ) where
  pub lower : h ≡ h' → leb l l' ≡ leb (h * 2 ^ 64 + l) (h' * 2 ^ 64 + l')
  lower same =
      by_cases (dec_le l l')
      (λ le. le-leb l l' le ∙ sym (le-leb (h * 2 ^ 64 + l) (h' * 2 ^ 64 + l') (omega arith)))
      (λ more. lt-leb l l' (omega arith) ∙ sym (lt-leb (h * 2 ^ 64 + l) (h' * 2 ^ 64 + l') (omega arith)))

  pub upper : (h ≡ h' → ⊥) → l < 2 ^ 64 → l' < 2 ^ 64 → ltb h h' ≡ leb (h * 2 ^ 64 + l) (h' * 2 ^ 64 + l')
  upper differ fits fits' =
      by_cases (dec_lt h h')
      (λ less. lt-ltb h h' less ∙ sym (le-leb (h * 2 ^ 64 + l) (h' * 2 ^ 64 + l') (omega arith)))
      (λ more. le-ltb h h' (omega arith) ∙ sym (lt-leb (h * 2 ^ 64 + l) (h' * 2 ^ 64 + l') (omega arith)))
