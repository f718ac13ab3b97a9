-- A pair as one number: it rises exactly where the paper's order does, and no two pairs share one.
use Rattle.std.specs.Prelude.{None, Some}
use mathlib.Core.Path.{◌≡◌, refl, sym, ◌∙◌}
use mathlib.Core.Bool.{Bool, true, false}
use mathlib.Core.Logic.{by_cases}
use Prim.Native.Nat.{ℕ, ◌+◌, ◌*◌, ◌<◌}
use native.Mathlib.Decide.{dec_lt, ℕ_discrete}
use native.Mathlib.Omega.{arith}
use borrow.Author.Tests.{lt-ltb, le-ltb, eq-eqb, ne_eqb}
use lib.Dec.{ltb}
use lib.IntN.{ℤ}
use Rattle.ranges.specs.Table.{temperature_ok, gravity_ok}
use Rattle.ranges.proofs.Laws.{both_first}
use Rattle.lookup.specs.HalfDegree.{half_degree, half_degree_signed}
use Rattle.lookup.specs.Table.{follows}
use Rattle.lookup.specs.Pair.{asked_ok}
use Rattle.lookup.specs.Rank.{rank_of, rank_asked, rank_if}
use Rattle.lookup.specs.declared.Entry.{Entry}
use Rattle.lookup.proofs.Counted.{counted, counted_least, counted_most, one_count, same_test, colder}
use Rattle.lookup.proofs.HalfDegree.{temperature_stays}

pub rank_above_zero : (t : ℤ) (g : ℕ) → temperature_ok t ≡ true → 0 < rank_of t g
unfolding rank_of
rank_above_zero t g ok = omega (arith, counted_least t ok)

-- no two pairs share a number
pub rank_one : {t u : ℤ} {g f : ℕ} → temperature_ok t ≡ true → temperature_ok u ≡ true → rank_of t g ≡ rank_of u f → (t ≡ u) × (g ≡ f)
unfolding rank_of
rank_one {t} {u} {g} {f} t-ok u-ok same =
    let t_most = counted_most t t-ok in
    let u_most = counted_most u u-ok in
    let count : counted t ≡ counted u = omega (arith, same, t_most, u_most) in
    (one_count t-ok u-ok count, omega (arith, same, t_most, u_most))

-- it rises by gravity and then temperature
pub rank_follows : (a b : Entry) → temperature_ok a.temperature ≡ true → temperature_ok b.temperature ≡ true → ltb (rank_of a.temperature a.gravity) (rank_of b.temperature b.gravity) ≡ follows a b
unfolding rank_of follows
rank_follows a b a-ok b-ok =
    let t : ℕ = counted a.temperature in
    let u : ℕ = counted b.temperature in
    let t_most = counted_most a.temperature a-ok in
    let u_most = counted_most b.temperature b-ok in
    let g = a.gravity in
    let f = b.gravity in
    by_cases (dec_lt g f)
    (λ less. rw (lt-ltb g f less) (lt-ltb (4096 * g + t) (4096 * f + u) (omega (arith, less, t_most))))
    (λ not-less. by_cases (ℕ_discrete g f)
    (λ same. rw (le-ltb g f (omega arith), eq-eqb g f same)
    (same_test (4096 * g + t) (4096 * f + u) t u (λ h. omega (arith, same, h)) (λ h. omega (arith, same, h)) ∙ colder a.temperature b.temperature a-ok b-ok))
    (λ other. rw (le-ltb g f (omega arith), ne_eqb g f other) (le-ltb (4096 * g + t) (4096 * f + u) (omega (arith, not-less, other, u_most)))))

-- the number, where there is one
pub is_ranked : {ok : Bool} {x rank : ℕ} → ok ≡ true → x ≡ rank → Some x ≡ rank_if ok rank
unfolding rank_if
is_ranked good is = λ i. rank_if (sym good i) (is i)

pub not_ranked : {ok : Bool} (rank : ℕ) → ok ≡ false → None ≡ rank_if ok rank
unfolding rank_if
not_ranked rank bad = λ i. rank_if (sym bad i) rank

pub ranked_was : {x rank : ℕ} (ok : Bool) → rank_if ok rank ≡ Some x → (ok ≡ true) × (rank ≡ x)
unfolding rank_if
ranked_was true is = (refl, (cc))
ranked_was false is = ((cc), (cc))

pub ranked_not : (rank : ℕ) (ok : Bool) → rank_if ok rank ≡ None → ok ≡ false
unfolding rank_if
ranked_not rank true is = cc
ranked_not rank false is = refl

-- what is asked is in range exactly where its number is not 0
pub asked_tells : (t : ℤ) (g : ℕ) → ltb 0 (rank_asked t g) ≡ asked_ok t g
unfolding rank_asked asked_ok
asked_tells t g = by-test (asked_ok t g) refl
  where
    by-test : (b : Bool) → asked_ok t g ≡ b → ltb 0 (rank_asked t g) ≡ asked_ok t g
    by-test true is = rw is (lt-ltb 0 (rank_of (half_degree_signed t) (half_degree g)) (rank_above_zero (half_degree_signed t) (half_degree g) (temperature_stays t (both_first (temperature_ok t) (gravity_ok g) is))))
    by-test false is = rw is

pub asked_is : (t : ℤ) (g : ℕ) → asked_ok t g ≡ true → rank_asked t g ≡ rank_of (half_degree_signed t) (half_degree g)
unfolding rank_asked
asked_is t g ok = rw ok

pub not_asked : (t : ℤ) (g : ℕ) → asked_ok t g ≡ false → rank_asked t g ≡ 0
unfolding rank_asked
not_asked t g is = rw is
