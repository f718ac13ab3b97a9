-- The rounding law, once over the places d: `rounded d (num over den)` is the whole number of 10^-d nearest to num / den, halves up; no
-- other whole number is; it goes by the fraction's value alone, and it is monotone in it.
use mathlib.Core.Path.{◌≡◌, sym, ap, ◌∙◌}
use Prim.Native.Nat.{ℕ, ◌+◌, ◌*◌, ◌/◌, ◌^◌, ◌<◌, ◌≤◌}
use native.Mathlib.Nat.{mul_assoc, mul_comm, mul_left_comm, add-mul, one-mul, div-mul-le_self, lt-div-mul-add, div-eq_of_lt-le, lt_of_mul-lt-mul_right, mul-le-mul_right, mul-lt-mul_of_pos_right, mul_right_comm, le_antisymm, le_of_eq, mul-div-mul_right}
use native.Mathlib.Omega.{arith}
use Rattle.exact.specs.Rounding.{rounded_div, ◌over◌, rounded}

-- q is the whole number nearest to n / d, and the upper one where two are as near: q - 1/2 ≤ n / d < q + 1/2
pub record Nearest (n d q : ℕ) : Type 0 where
  pub low : 2 * (q * d) ≤ 2 * n + d
  pub high : 2 * n < 2 * (q * d) + d

two_out : (q d : ℕ) → q * (2 * d) ≡ 2 * (q * d)
two_out q d = mul_left_comm q 2 d

pub nearest : (n : ℕ) {d : ℕ} → 0 < d → Nearest n d (rounded_div n d)
unfolding rounded_div
nearest n {d} h =
    let q = (2 * n + d) / (2 * d) in
    let below : q * (2 * d) ≤ 2 * n + d = div-mul-le_self (2 * n + d) (2 * d) in
    let above : 2 * n + d < q * (2 * d) + 2 * d = lt-div-mul-add {a = 2 * n + d} {b = 2 * d} (omega arith) in
    let out : q * (2 * d) ≡ 2 * (q * d) = two_out q d in
    record { low = omega arith; high = omega arith }

pub nearest_only : {n d q : ℕ} → Nearest n d q → rounded_div n d ≡ q
unfolding rounded_div
nearest_only {n} {d} {q} near =
    let out : q * (2 * d) ≡ 2 * (q * d) = two_out q d in
    let up : (q + 1) * (2 * d) ≡ q * (2 * d) + 2 * d = add-mul q 1 (2 * d) ∙ ap (λ (m : ℕ). q * (2 * d) + m) (omega arith) in
    div-eq_of_lt-le (2 * d) (omega (arith, near.low)) (omega (arith, near.high))

-- no other whole number is
pub nearest_one : {n d q p : ℕ} → Nearest n d q → Nearest n d p → q ≡ p
nearest_one a b = sym (nearest_only a) ∙ nearest_only b

-- a larger fraction is not rounded to a smaller number: n / d ≤ m / e
pub rounded_up : {n d m e q p : ℕ} → Nearest n d q → Nearest m e p → 0 < d → 0 < e → n * e ≤ m * d → q ≤ p
rounded_up {n} {d} {m} {e} {q} {p} a b hd he le =
    let low : 2 * (q * (d * e)) ≤ 2 * (n * e) + d * e = simp (add-mul, mul_assoc) at (mul-le-mul_right e a.low) in
    let high : 2 * (m * d) < 2 * (p * (d * e)) + d * e = simp (add-mul, mul_assoc, mul_comm e d) at (mul-lt-mul_of_pos_right {k = d} b.high hd) in
    let out : (p + 1) * (d * e) ≡ p * (d * e) + d * e = add-mul p 1 (d * e) ∙ ap (λ (x : ℕ). p * (d * e) + x) (one-mul (d * e)) in
    let less : q < p + 1 = lt_of_mul-lt-mul_right (d * e) (omega arith) in
    omega arith

-- every quotient's whole part and rest decide: up where the rest is half the divisor or more
pub keeps : (q : ℕ) {r d : ℕ} → r < d → r + r < d → rounded_div (q * d + r) d ≡ q
keeps q {r} {d} h half = nearest_only (record { low = omega arith; high = omega arith })

pub goes_up : (q : ℕ) {r d : ℕ} → r < d → d ≤ r + r → rounded_div (q * d + r) d ≡ q + 1
goes_up q {r} {d} h half =
    let more : (q + 1) * d ≡ q * d + d = add-mul q 1 d ∙ ap (λ (m : ℕ). q * d + m) (omega arith) in
    nearest_only (record { low = omega arith; high = omega arith })

-- what a quotient's bounds say of it
pub at_most : (n k : ℕ) {d : ℕ} → 0 < d → n ≤ k * d → rounded_div n d ≤ k
at_most n k {d} h le = rounded_up {m = k} {e = 1} (nearest n h) (record { low = omega arith; high = omega arith }) h (omega arith) (omega arith)

pub at_least : (n k : ℕ) {d : ℕ} → 0 < d → k * d ≤ n → k ≤ rounded_div n d
at_least n k {d} h le = rounded_up {n = k} {d = 1} (record { low = omega arith; high = omega arith }) (nearest n h) (omega arith) h (omega arith)

-- a factor of both may be cancelled
pub cancelled : (n d : ℕ) {c : ℕ} → 0 < c → rounded_div (n * c) (d * c) ≡ rounded_div n d
unfolding rounded_div
cancelled n d {c} h = ap (λ (m : ℕ). m / (2 * (d * c))) (ap (λ (m : ℕ). m + d * c) (sym (mul_assoc 2 n c)) ∙ sym (add-mul (2 * n) d c)) ∙ ap (λ (m : ℕ). (2 * n + d) * c / m) (sym (mul_assoc 2 d c)) ∙ mul-div-mul_right (2 * n + d) (2 * d) h

module _ (d num den : ℕ) where
  -- the whole number of 10^-d nearest to num / den, halves up
  pub rounded_nearest : 0 < den → Nearest (num * 10 ^ d) den (rounded d (num over den))
  unfolding rounded
  rounded_nearest h = nearest (num * 10 ^ d) h

  -- and no other
  pub rounded_only : {q : ℕ} → Nearest (num * 10 ^ d) den q → rounded d (num over den) ≡ q
  unfolding rounded
  rounded_only near = nearest_only near

  pub rounded_monotone : (num' den' : ℕ) → 0 < den → 0 < den' → num * den' ≤ num' * den → rounded d (num over den) ≤ rounded d (num' over den')
  unfolding rounded
  rounded_monotone num' den' h h' le =
      let more : num * 10 ^ d * den' ≤ num' * 10 ^ d * den = rw (mul_right_comm num (10 ^ d) den', mul_right_comm num' (10 ^ d) den) (mul-le-mul_right (10 ^ d) le) in
      rounded_up (nearest (num * 10 ^ d) h) (nearest (num' * 10 ^ d) h') h h' more

-- a fraction's value decides, however it is written
pub rounded_value : (d num den num' den' : ℕ) → 0 < den → 0 < den' → num * den' ≡ num' * den → rounded d (num over den) ≡ rounded d (num' over den')
rounded_value d num den num' den' h h' same = le_antisymm (rounded_monotone d num den num' den' h h' (le_of_eq same)) (rounded_monotone d num' den' num den h' h (le_of_eq (sym same)))
