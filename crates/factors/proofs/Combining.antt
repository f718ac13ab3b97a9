-- The combined factor by two products of two factors and one division.
use Rattle.std.specs.Prelude.{Ok, Err}
use mathlib.Core.Path.{◌≡◌, refl, sym, ap, ◌∙◌}
use mathlib.Core.Bool.{Bool, true, false, cond}
use mathlib.Core.List.{List, [], ◌∷◌}
use Prim.Native.Nat.{ℕ, zero, suc, ◌*◌, ◌^◌, ◌<◌, ◌≤◌}
use native.Mathlib.Nat.{mul-one, one-mul, mul_assoc, mul-le-mul, pow-zero, pow-suc}
use native.Mathlib.Omega.{arith}
use borrow.Author.Tests.{le-leb, lt-leb, lt-ltb, ne_eqb}
use lib.Dec.{ltb}
use lib.ListN.{length, get_or}
use Rattle.exact.specs.Rounding.{rounded_div, rounded, ◌over◌}
use Rattle.exact.specs.Quotient.{quotient_of}
use Rattle.exact.proofs.Answers.{with_error}
use Rattle.exact.proofs.Rounding.{cancelled, rounded_only}
use Rattle.factors.specs.Fractions.{product_of, combined}
use Rattle.factors.specs.Rounded.{combined_at}
use Rattle.factors.specs.Answers.{held, combined_of}
use Rattle.factors.specs.declared.CombineError.TheVariants.{TooMany, TooLarge}
use Rattle.exact.specs.declared.QuotientError.TheVariants as quotient

-- an element that is there, whatever stands for one that is not
pub there : (xs : List ℕ) (i a b : ℕ) → i < length xs → get_or xs i a ≡ get_or xs i b
there [] i a b h = absurd (omega arith)
there (x ∷ xs) zero a b h = refl
there (x ∷ xs) (suc i) a b h = there xs i a b (omega arith)

pub by_pairs : (fs : List ℕ) → length fs ≤ 4 → product_of fs ≡ get_or fs 0 1 * get_or fs 1 1 * (get_or fs 2 1 * get_or fs 3 1)
by_pairs [] h = refl
by_pairs (a ∷ []) h = simp mul-one
by_pairs (a ∷ b ∷ []) h = simp mul-one
by_pairs (a ∷ b ∷ c ∷ []) h = simp (mul-one, mul_assoc)
by_pairs (a ∷ b ∷ c ∷ d ∷ []) h = simp (mul-one, mul_assoc)
by_pairs (a ∷ b ∷ c ∷ d ∷ e ∷ fs) h = absurd (omega arith)

small_held : {n : ℕ} → n < 2 ^ 64 → held n ≡ Ok n
unfolding held
small_held {n} h = rw (lt-ltb n (2 ^ 64) h)

quotient_held : (n : ℕ) {d : ℕ} → 0 < d → with_error TooLarge (quotient_of n d) ≡ held (rounded_div n d)
unfolding quotient_of held
quotient_held n {d} h =
    let q = rounded_div n d in
    ap (λ (b : Bool). with_error TooLarge (cond b (Err quotient.ZeroDivisor) (cond (ltb q (2 ^ 64)) (Ok q) (Err quotient.TooLarge)))) (ne_eqb d 0 (λ z. omega arith)) ∙ by (ltb q (2 ^ 64)) q
  where
    by : (b : Bool) (q : ℕ) → with_error TooLarge (cond b (Ok q) (Err quotient.TooLarge)) ≡ cond b (Ok q) (Err TooLarge)
    by true q = refl
    by false q = refl

pub too_many : (d : ℕ) (fs : List ℕ) → 4 < length fs → (Err TooMany) ≡ combined_of d fs
unfolding combined_of
too_many d fs h = rw (lt-leb (length fs) 4 h)

few_enough : (d : ℕ) (fs : List ℕ) → length fs ≤ 4 → combined_of d fs ≡ held (combined_at d fs)
unfolding combined_of
few_enough d fs h = rw (le-leb (length fs) 4 h)

-- no factor at all is one
pub none_combined : (d : ℕ) (fs : List ℕ) → length fs ≡ 0 → 10 ^ d < 2 ^ 64 → Ok (10 ^ d) ≡ combined_of d fs
unfolding combined_at combined
none_combined d [] none small =
    let one : rounded d (1 over (10 ^ d) ^ 0) ≡ 10 ^ d = ap (λ (m : ℕ). rounded d (1 over m)) (pow-zero (10 ^ d)) ∙ rounded_only d 1 1 (record { low = omega arith; high = omega arith }) in
    sym (few_enough d [] (omega arith) ∙ ap held one ∙ small_held small)
none_combined d (f ∷ fs) none small = absurd (omega arith)

-- one division of the product, with the units that all but one of the factors bring
pub by_division : (d : ℕ) (fs : List ℕ) (units : ℕ) → length fs ≤ 4 → units * 10 ^ d ≡ (10 ^ d) ^ length fs → 0 < units → 0 < 10 ^ d → with_error TooLarge (quotient_of (get_or fs 0 1 * get_or fs 1 1 * (get_or fs 2 1 * get_or fs 3 1)) units) ≡ combined_of d fs
unfolding combined_at combined rounded
by_division d fs units few scaled some one =
    quotient_held (get_or fs 0 1 * get_or fs 1 1 * (get_or fs 2 1 * get_or fs 3 1)) some
    ∙ ap held (sym (ap (λ (m : ℕ). rounded_div (product_of fs * 10 ^ d) m) (sym scaled) ∙ cancelled (product_of fs) units one ∙ ap (λ (m : ℕ). rounded_div m units) (by_pairs fs few)))
    ∙ sym (few_enough d fs few)

-- the units of so many factors, from one factor's unit u: its powers, as they are multiplied out
module _ {u one : ℕ} (is : one ≡ u) {count : ℕ} where
  pub units_of_one : count ≡ 1 → 1 * u ≡ u ^ count
  units_of_one n = rw (n, pow-suc u 0, pow-zero u)

  pub units_of_two : count ≡ 2 → one * u ≡ u ^ count
  units_of_two n = rw (is, n, pow-suc u 1, pow-suc u 0, pow-zero u, one-mul u)

  pub units_of_three : count ≡ 3 → one * one * u ≡ u ^ count
  units_of_three n = rw (is, n, pow-suc u 2, pow-suc u 1, pow-suc u 0, pow-zero u, one-mul u)

  pub units_of_four : count ≡ 4 → one * one * one * u ≡ u ^ count
  units_of_four n = rw (is, n, pow-suc u 3, pow-suc u 2, pow-suc u 1, pow-suc u 0, pow-zero u, one-mul u)

-- up to a million a unit
module _ {u : ℕ} (large : u ≤ 1000000) where
  pub square_small : u * u ≤ 1000000000000
  square_small = mul-le-mul {n₂ = 1000000} {m₂ = 1000000} large large

  pub cube_small : u * u * u ≤ 1000000000000000000
  cube_small = mul-le-mul {n₂ = 1000000000000} {m₂ = 1000000} square_small large
