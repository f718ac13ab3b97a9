-- The nearest half degree: within the ranges asked, and by the count from -100.0 °F, which is itself on a half degree.
use mathlib.Core.Path.{◌≡◌, refl, sym, ap, ◌∙◌}
use mathlib.Core.Bool.{true, and-true}
use mathlib.Core.Logic.{by_cases}
use Prim.Native.Nat.{ℕ, zero, suc, ◌+◌, ◌*◌, ◌-◌, ◌/◌, ◌%◌, ◌≤◌}
use native.Mathlib.Decide.{ℕ_discrete}
use native.Mathlib.Omega.{arith}
use borrow.Author.Tests.{leb-true, le-leb, eq-eqb, ne_eqb}
use lib.Dec.{leb, eqb}
use lib.IntN.{ℤ, pos, negsuc, neg_ℤ, nat_abs}
use Rattle.exact.specs.Rounding.{rounded_div}
use Rattle.ranges.specs.Table.{temperature_ok, gravity_ok}
use Rattle.ranges.proofs.Laws.{within_high, within_true}
use Rattle.ranges.proofs.Counted.{below}
use Rattle.lookup.specs.HalfDegree.{half_degree, half_degree_signed, on_half_degree, on_half_degree_signed}
use Rattle.lookup.proofs.Counted.{counted, counted_below, not_far}

-- as the code has it: 2 are added, and the rest is dropped
pub half_by_two : (n : ℕ) → (n + 2) / 5 * 5 ≡ half_degree n
unfolding half_degree rounded_div
half_by_two n = omega arith

-- the range asked is not left
pub gravity_stays : (g : ℕ) → gravity_ok g ≡ true → gravity_ok (half_degree g) ≡ true
unfolding gravity_ok
gravity_stays g ok = within_true 0 900 (half_degree g) (omega arith) (omega (arith, within_high 0 900 g ok, half_by_two g))

below_stays : (m : ℕ) → m ≤ 200 → temperature_ok (neg_ℤ (pos m)) ≡ true
unfolding temperature_ok
below_stays zero h = refl
below_stays (suc m) h = and-true (leb m 199) ∙ le-leb m 199 (omega arith)

pub temperature_stays : (t : ℤ) → temperature_ok t ≡ true → temperature_ok (half_degree_signed t) ≡ true
unfolding half_degree_signed temperature_ok
temperature_stays (pos n) ok = le-leb (half_degree n) 2000 (omega (arith, leb-true n 2000 ok, half_by_two n))
temperature_stays (negsuc k) ok = below_stays (half_degree (suc k)) (omega (arith, not_far k ok, half_by_two (suc k)))

-- the half degree of a temperature, by its count
size_counted : (m : ℕ) → m ≤ 1000 → counted (neg_ℤ (pos m)) ≡ 1000 - m
size_counted zero h = omega arith
size_counted (suc m) h = ap nat_abs (below 1000 (suc m) h)

pub half_counted : (t : ℤ) → temperature_ok t ≡ true → counted (half_degree_signed t) ≡ half_degree (counted t)
unfolding half_degree_signed
half_counted (pos n) ok = omega (arith, half_by_two n, half_by_two (n + 1000))
half_counted (negsuc k) ok =
    let small = not_far k ok in
    let half : half_degree (suc k) ≤ 200 = omega (arith, small, half_by_two (suc k)) in
    size_counted (half_degree (suc k)) (omega arith) ∙ omega (arith, small, half_by_two (suc k), half_by_two (counted (negsuc k)), counted_below k small)

-- whether it is on one, by the same count
pub on_half_counted : (t : ℤ) → temperature_ok t ≡ true → eqb (counted t % 5) 0 ≡ on_half_degree_signed t
unfolding on_half_degree_signed on_half_degree
on_half_counted (pos n) ok = let same : (n + 1000) % 5 ≡ n % 5 = omega arith in ap (λ (r : ℕ). eqb r 0) same
on_half_counted (negsuc k) ok =
    let is = counted_below k (not_far k ok) in
    let small = not_far k ok in
    by_cases (ℕ_discrete (suc k % 5) 0)
    (λ on. eq-eqb (counted (negsuc k) % 5) 0 (omega (arith, is, small, on)) ∙ sym (eq-eqb (suc k % 5) 0 on))
    (λ off. ne_eqb (counted (negsuc k) % 5) 0 (λ on. off (omega (arith, is, small, on))) ∙ sym (ne_eqb (suc k % 5) 0 off))
