-- Dividend and divisor multiplied by the same number: the dividend's words, and quotient and rest of what was there before.
use mathlib.Core.Path.{◌≡◌, sym, ap, ◌∙◌, subst}
use Prim.Native.Nat.{ℕ, ◌+◌, ◌*◌, ◌/◌, ◌%◌, ◌^◌, ◌<◌, ◌≤◌}
use native.Mathlib.Nat.{add-mul, mul_assoc, mul_comm, mul_right_comm, lt_of_mul-lt-mul_right, mul-lt-mul_of_pos_right, div-lt_iff_lt-mul, mul-add-div_right, mul-div_cancel, div-add-mod'}
use native.Mathlib.Omega.{arith}
use lib.Arith.{digits_lt}
use Rattle.exact.specs.Words.{wide_of}
use Rattle.exact.specs.declared.Wide.{Wide}

-- what brings a divisor to 2^63 or more is not zero
pub scale_some : (d p : ℕ) → 2 ^ 63 ≤ d * p → 0 < p
scale_some d p top = lt_of_mul-lt-mul_right d {m = 0} {n = p} (omega (arith, mul_comm p d))

-- a dividend of the words h and l times p, word by word: W is the word
module _ (W h l p : ℕ) where
  word_by_word : (h * p + l * p / W) * W + l * p % W ≡ (h * W + l) * p
  word_by_word =
      let upper : (h * p + l * p / W) * W ≡ h * W * p + l * p / W * W = add-mul (h * p) (l * p / W) W ∙ ap (λ (m : ℕ). m + l * p / W * W) (mul_right_comm h p W) in
      let lower : l * p / W * W + l * p % W ≡ l * p = div-add-mod' (l * p) W in
      let whole : (h * W + l) * p ≡ h * W * p + l * p = add-mul (h * W) l p in
      omega arith

  upper_below : {d : ℕ} → 0 < p → h < d → l < W → h * p + l * p / W < d * p
  upper_below some less word =
      let carried : l * p < p * W = rw (mul_comm p W) (mul-lt-mul_of_pos_right word some) in
      digits_lt {q = h} {r = l * p / W} {c = p} less ((div-lt_iff_lt-mul {k = W} {x = l * p} {y = p} (omega arith)).1 carried)

module _ (h l p : ℕ) {low : Wide} (words : low ≡ wide_of (l * p)) where
  pub scaled : (h * p + low.hi) * 2 ^ 64 + (low.lo / 4294967296 * 4294967296 + low.lo % 4294967296) ≡ (h * 2 ^ 64 + l) * p
  unfolding wide_of
  scaled = ap (λ (m : ℕ). (h * p + low.hi) * 2 ^ 64 + m) (div-add-mod' low.lo 4294967296) ∙ ap (λ (w : Wide). (h * p + w.hi) * 2 ^ 64 + w.lo) words ∙ word_by_word (2 ^ 64) h l p

  pub scaled_below : {d : ℕ} → 0 < p → h < d → l < 2 ^ 64 → h * p + low.hi < d * p
  unfolding wide_of
  scaled_below {d} some less word = subst (λ (w : Wide). h * p + w.hi < d * p) (sym words) (upper_below (2 ^ 64) h l p some less word)

-- and back: quotient and rest of the dividend itself
module _ (n d q r : ℕ) {p : ℕ} (some : 0 < p) where
  pub scaled_back : q * (d * p) + r ≡ n * p → q * d + r / p ≡ n
  scaled_back whole = sym (mul-add-div_right some (q * d) r) ∙ ap (λ (m : ℕ). (m + r) / p) (mul_assoc q d p) ∙ ap (λ (m : ℕ). m / p) whole ∙ mul-div_cancel n some

  pub rest_back : r < d * p → r / p < d
  rest_back less = (div-lt_iff_lt-mul {k = p} {x = r} {y = d} some).1 less
