-- Long division in digits of 32 bits by a divisor whose uppermost bit is set: the estimate of a digit, what it can be off by, and two digits one after the
-- other.
use mathlib.Core.Path.{◌≡◌, sym, ap, ◌∙◌}
use Prim.Native.Nat.{ℕ, ◌+◌, ◌*◌, ◌-◌, ◌/◌, ◌%◌, ◌^◌, ◌<◌, ◌≤◌}
use native.Mathlib.Nat.{add-mul, mul_assoc, mul_right_comm, sub-add_cancel, mul-le-mul, mod-lt, lt_of_mul-lt-mul_right, div-lt_iff_lt-mul, div-add-mod'}
use native.Mathlib.Omega.{arith}
use Rattle.exact.proofs.Columns.{sorted}

-- One digit of the quotient, for the dividend n * 2^32 + x: n is the rest so far, and x the digit that it takes. n by the divisor's upper digit is the estimate;
-- what that division leaves is kept, with x behind it; what the estimate times the divisor's lower digit comes to is asked of it.
abbrev pub estimate : ℕ → ℕ → ℕ
estimate d n = n / (d / 4294967296)

abbrev pub kept : ℕ → ℕ → ℕ → ℕ
kept d n x = n % (d / 4294967296) * 4294967296 + x

abbrev pub asked : ℕ → ℕ → ℕ
asked d n = estimate d n * (d % 4294967296)

module _ (B u l e r x : ℕ) where
  -- for a divisor of the digits u and l
  in-digits : e * (u * B + l) + (r * B + x) ≡ (e * u + r) * B + x + e * l
  in-digits = simp sorted

module _ (d n : ℕ) where
  -- so the estimate is the digit where no more is asked than kept, and too large by as much as is lacking elsewhere
  pub balanced : (x : ℕ) → estimate d n * d + kept d n x ≡ n * 4294967296 + x + asked d n
  balanced x =
      let u = d / 4294967296 in
      ap (λ (m : ℕ). n / u * m + kept d n x) (sym (div-add-mod' d 4294967296)) ∙ in-digits 4294967296 u (d % 4294967296) (n / u) (n % u) x
      ∙ ap (λ (m : ℕ). m * 4294967296 + x + asked d n) (div-add-mod' n u)

  module _ (top : 2 ^ 63 ≤ d) (fits : d < 2 ^ 64) (small : n < d) where
    -- the first bound: an estimate is at most 2^32 + 1, and so what it asks for is a word
    pub estimate_at_most : estimate d n ≤ 4294967297
    estimate_at_most =
        let below : n / (d / 4294967296) < 4294967298 = (div-lt_iff_lt-mul {k = d / 4294967296} {x = n} {y = 4294967298} (omega arith)).1 (omega arith) in
        omega arith

    pub asked_fits : asked d n < 2 ^ 64
    asked_fits =
        let lower : d % 4294967296 ≤ 4294967295 = omega arith in
        omega (arith, mul-le-mul {n₂ = 4294967297} {m₂ = 4294967295} estimate_at_most lower)

    pub kept_below : {x : ℕ} → x < 4294967296 → kept d n x < d
    kept_below h =
        let left : n % (d / 4294967296) < d / 4294967296 = mod-lt n (omega arith) in
        omega arith

-- the second bound: an estimate that asks for too much lacks the divisor at most twice, since what it lacks is a word
pub twice_at_most : {d lack : ℕ} → 2 ^ 63 ≤ d → lack < 2 ^ 64 → lack ≤ 2 * d
twice_at_most top fits = omega arith

module _ (e d : ℕ) {lack : ℕ} (some : lack ≤ e * d) where
  -- lacking more than k times the divisor, the estimate is above k
  pub above : (k : ℕ) → k * d < lack → k < e
  above k more = lt_of_mul-lt-mul_right d (omega arith)

-- k less in the quotient is k times the divisor more in the rest
pub corrected : (e d k : ℕ) → k ≤ e → (e - k) * d + k * d ≡ e * d
corrected e d k le = sym (add-mul (e - k) k d) ∙ ap (λ (m : ℕ). m * d) (sub-add_cancel le)

-- a quotient and a rest below the divisor: the quotient is a digit
pub is_digit : (q r : ℕ) {d n x : ℕ} → n < d → x < 4294967296 → q * d + r ≡ n * 4294967296 + x → r < d → (q * d + r ≡ n * 4294967296 + x) × (r < d) × (q < 4294967296)
is_digit q r {d} small digit whole less = (whole, less, lt_of_mul-lt-mul_right d {m = q} {n = 4294967296} (omega arith))

-- two digits, one after the other
module _ (B d n x₁ x₀ q₁ r₁ q₀ r₀ : ℕ) where
  pub two_digits : q₁ * d + r₁ ≡ n * B + x₁ → q₀ * d + r₀ ≡ r₁ * B + x₀ → (q₁ * B + q₀) * d + r₀ ≡ n * (B * B) + (x₁ * B + x₀)
  two_digits first second =
      let carried : q₁ * d * B + r₁ * B ≡ n * B * B + x₁ * B = sym (add-mul (q₁ * d) r₁ B) ∙ ap (λ (m : ℕ). m * B) first ∙ add-mul (n * B) x₁ B in
      let left : (q₁ * B + q₀) * d ≡ q₁ * d * B + q₀ * d = add-mul (q₁ * B) q₀ d ∙ ap (λ (m : ℕ). m + q₀ * d) (mul_right_comm q₁ B d) in
      let right : n * (B * B) ≡ n * B * B = sym (mul_assoc n B B) in
      omega arith
