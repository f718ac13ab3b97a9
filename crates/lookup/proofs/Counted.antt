-- A temperature in range, counted from -100.0 °F: how large the count is, that it is one temperature's, and that it rises with it.
use mathlib.Core.Path.{◌≡◌, sym, ap, ◌∙◌}
use mathlib.Core.Bool.{true, and-true}
use mathlib.Core.Logic.{by_cases}
use Prim.Native.Nat.{ℕ, suc, ◌+◌, ◌-◌, ◌<◌, ◌≤◌}
use native.Mathlib.Decide.{dec_lt}
use native.Mathlib.Omega.{arith}
use borrow.Author.Tests.{leb-true, lt-ltb, le-ltb}
use lib.Dec.{leb, ltb}
use lib.IntN.{ℤ, pos, negsuc, nat_abs, ◌+ℤ◌, ◌-ℤ◌, +ℤ-neg_ℤ_cancel}
use lib.Signed.{lt_z}
use Rattle.ranges.specs.Table.{temperature_ok}
use Rattle.ranges.proofs.Counted.{below, warm}

abbrev pub counted : ℤ → ℕ
counted t = nat_abs (t +ℤ pos 1000)

-- below zero, down to -20.0 °F
pub not_far : (k : ℕ) → temperature_ok (negsuc k) ≡ true → k ≤ 199
unfolding temperature_ok
not_far k ok = leb-true k 199 (sym (and-true (leb k 199)) ∙ ok)

pub counted_below : (k : ℕ) → k ≤ 199 → counted (negsuc k) ≡ 1000 - suc k
counted_below k h = ap nat_abs (below 1000 (suc k) (omega arith))

pub counted_least : (t : ℤ) → temperature_ok t ≡ true → 800 ≤ counted t
counted_least t ok = let w = warm t ok in omega (arith, ap nat_abs w.is, w.low)

pub counted_most : (t : ℤ) → temperature_ok t ≡ true → counted t ≤ 3000
counted_most t ok = let w = warm t ok in omega (arith, ap nat_abs w.is, w.high)

-- the same count is the same temperature
pub one_count : {t u : ℤ} → temperature_ok t ≡ true → temperature_ok u ≡ true → counted t ≡ counted u → t ≡ u
one_count {t} {u} t-ok u-ok same =
    let w = warm t t-ok in
    let v = warm u u-ok in
    let above : w.above ≡ v.above = sym (ap nat_abs w.is) ∙ same ∙ ap nat_abs v.is in
    sym (+ℤ-neg_ℤ_cancel t (pos 1000)) ∙ ap (λ (z : ℤ). z -ℤ pos 1000) (w.is ∙ ap pos above ∙ sym v.is) ∙ +ℤ-neg_ℤ_cancel u (pos 1000)

-- tests of numbers that stand in the same order
pub same_test : (a b c d : ℕ) → (a < b → c < d) → (b ≤ a → d ≤ c) → ltb a b ≡ ltb c d
same_test a b c d up down = by_cases (dec_lt a b) (λ h. lt-ltb a b h ∙ sym (lt-ltb c d (up h))) (λ h. let le : b ≤ a = omega arith in le-ltb a b le ∙ sym (le-ltb c d (down le)))

-- colder is counted less
pub colder : (t u : ℤ) → temperature_ok t ≡ true → temperature_ok u ≡ true → ltb (counted t) (counted u) ≡ lt_z t u
colder (pos m) (pos n) t-ok u-ok = same_test (m + 1000) (n + 1000) m n (λ h. omega arith) (λ h. omega arith)
colder (pos m) (negsuc n) t-ok u-ok = le-ltb (m + 1000) (counted (negsuc n)) (omega (arith, counted_below n (not_far n u-ok)))
colder (negsuc m) (pos n) t-ok u-ok = lt-ltb (counted (negsuc m)) (n + 1000) (omega (arith, counted_below m (not_far m t-ok)))
colder (negsuc m) (negsuc n) t-ok u-ok =
    let m_small = not_far m t-ok in
    let n_small = not_far n u-ok in
    same_test (counted (negsuc m)) (counted (negsuc n)) n m (λ h. omega (arith, counted_below m m_small, counted_below n n_small)) (λ h. omega (arith, counted_below m m_small, counted_below n n_small))
