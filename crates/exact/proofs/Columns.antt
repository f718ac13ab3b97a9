-- Multiplying two numbers of two digits each in any base B, column by column with carries; and in base 2^32, that no column passes a word, and the two words.
use mathlib.Core.Path.{◌≡◌, sym, ap, ◌∙◌}
use Prim.Native.Nat.{ℕ, ◌+◌, ◌*◌, ◌/◌, ◌%◌, ◌^◌, ◌<◌, ◌≤◌}
use native.Mathlib.Nat.{add_assoc, add_comm, add_left_comm, mul_assoc, mul_comm, mul_left_comm, mul-add, add-mul, mul-le-mul, div-add-mod'}
use native.Mathlib.Omega.{arith}
use lib.Arith.{digits_div, digits_mod}

pub ruleset sorted = (mul-add, add-mul, mul_assoc, mul_comm, mul_left_comm, add_assoc, add_comm, add_left_comm)

module _ (B a₀ a₁ b₀ b₁ : ℕ) where
  spread : (a₁ * B + a₀) * (b₁ * B + b₀) ≡ a₁ * b₁ * (B * B) + a₁ * b₀ * B + a₀ * b₁ * B + a₀ * b₀
  spread = simp sorted

  low_carried : (q r : ℕ) → a₁ * b₁ * (B * B) + a₁ * b₀ * B + a₀ * b₁ * B + (q * B + r) ≡ a₁ * b₁ * (B * B) + (a₁ * b₀ + q) * B + a₀ * b₁ * B + r
  low_carried q r = simp sorted

  middle_carried : (q r r₀ : ℕ) → a₁ * b₁ * (B * B) + (q * B + r) * B + a₀ * b₁ * B + r₀ ≡ a₁ * b₁ * (B * B) + q * (B * B) + (r + a₀ * b₁) * B + r₀
  middle_carried q r r₀ = simp sorted

  next_carried : (q q₁ r₁ r₀ : ℕ) → a₁ * b₁ * (B * B) + q * (B * B) + (q₁ * B + r₁) * B + r₀ ≡ (a₁ * b₁ + q + q₁) * (B * B) + (r₁ * B + r₀)
  next_carried q q₁ r₁ r₀ = simp sorted

  -- with the carry and the digit of each column, the product's upper and lower two digits
  by_columns : (q₀ r₀ q r q₁ r₁ : ℕ) → a₀ * b₀ ≡ q₀ * B + r₀ → a₁ * b₀ + q₀ ≡ q * B + r → r + a₀ * b₁ ≡ q₁ * B + r₁ → (a₁ * B + a₀) * (b₁ * B + b₀) ≡ (a₁ * b₁ + q + q₁) * (B * B) + (r₁ * B + r₀)
  by_columns q₀ r₀ q r q₁ r₁ e₀ e e₁ =
      spread ∙ ap (λ (x : ℕ). a₁ * b₁ * (B * B) + a₁ * b₀ * B + a₀ * b₁ * B + x) e₀
      ∙ low_carried q₀ r₀ ∙ ap (λ (x : ℕ). a₁ * b₁ * (B * B) + x * B + a₀ * b₁ * B + r₀) e
      ∙ middle_carried q r r₀ ∙ ap (λ (x : ℕ). a₁ * b₁ * (B * B) + q * (B * B) + x * B + r₀) e₁
      ∙ next_carried q q₁ r₁ r₀

-- the product of two digits, and a column's sums
digits : {x y : ℕ} → x < 4294967296 → y < 4294967296 → x * y ≤ 18446744065119617025
digits hx hy = mul-le-mul {n₂ = 4294967295} {m₂ = 4294967295} (omega arith) (omega arith)

carried : (p q : ℕ) → p ≤ 18446744065119617025 → q < 2 ^ 64 → p + q / 4294967296 < 2 ^ 64
carried p q hp hq = omega arith

carried_twice : (p q r : ℕ) → p ≤ 18446744065119617025 → q < 2 ^ 64 → r < 2 ^ 64 → p + q / 4294967296 + r / 4294967296 < 2 ^ 64
carried_twice p q r hp hq hr = omega arith

high : {x : ℕ} → x < 2 ^ 64 → x / 4294967296 < 4294967296
high h = omega arith

low : (x : ℕ) → x % 4294967296 < 4294967296
low x = omega arith

module _ (a b : ℕ) (fa : a < 2 ^ 64) (fb : b < 2 ^ 64) where
  pub low_fits : a % 4294967296 * (b % 4294967296) < 2 ^ 64
  low_fits = omega (arith, digits (low a) (low b))

  pub middle_fits : a / 4294967296 * (b % 4294967296) + a % 4294967296 * (b % 4294967296) / 4294967296 < 2 ^ 64
  middle_fits = carried _ _ (digits (high fa) (low b)) low_fits

  pub next_fits : (m : ℕ) → m % 4294967296 + a % 4294967296 * (b / 4294967296) < 2 ^ 64
  next_fits m = omega (arith, digits (low a) (high fb))

  pub upper_fits : (m n : ℕ) → m < 2 ^ 64 → n < 2 ^ 64 → a / 4294967296 * (b / 4294967296) + m / 4294967296 + n / 4294967296 < 2 ^ 64
  upper_fits m n = carried_twice _ m n (digits (high fa) (high fb))

-- the columns' sums, as the code has them
abbrev pub Sums : ℕ → ℕ → ℕ → ℕ → ℕ → Type 0
Sums a b low middle next = (low ≡ a % 4294967296 * (b % 4294967296)) × (middle ≡ a / 4294967296 * (b % 4294967296) + low / 4294967296) × (next ≡ middle % 4294967296 + a % 4294967296 * (b / 4294967296))

module _ (a b low middle next : ℕ) (sums : Sums a b low middle next) where
  both_words : a * b ≡ (a / 4294967296 * (b / 4294967296) + middle / 4294967296 + next / 4294967296) * 2 ^ 64 + (next % 4294967296 * 4294967296 + low % 4294967296)
  both_words =
      sym (λ i. div-add-mod' a 4294967296 i * div-add-mod' b 4294967296 i)
      ∙ by_columns 4294967296 (a % 4294967296) (a / 4294967296) (b % 4294967296) (b / 4294967296) (low / 4294967296) (low % 4294967296) (middle / 4294967296) (middle % 4294967296) (next / 4294967296)
      (next % 4294967296) (sym (div-add-mod' low 4294967296 ∙ sums.0)) (sym (div-add-mod' middle 4294967296 ∙ sums.1)) (sym (div-add-mod' next 4294967296 ∙ sums.2))

  pub upper_word : a / 4294967296 * (b / 4294967296) + middle / 4294967296 + next / 4294967296 ≡ a * b / 2 ^ 64
  upper_word = sym (ap (λ (n : ℕ). n / 2 ^ 64) both_words ∙ digits_div (a / 4294967296 * (b / 4294967296) + middle / 4294967296 + next / 4294967296) (omega arith))

  pub lower_word : next % 4294967296 * 4294967296 + low % 4294967296 ≡ a * b % 2 ^ 64
  lower_word = sym (ap (λ (n : ℕ). n % 2 ^ 64) both_words ∙ digits_mod (a / 4294967296 * (b / 4294967296) + middle / 4294967296 + next / 4294967296) (omega arith))
