-- What the one pass over a table has found so far, one record more of it, and what it has found at the end.
use Rattle.std.specs.Prelude.{Option, None, Some, unwrap_or}
use mathlib.Core.Path.{◌≡◌, refl, sym, ap, ◌∙◌}
use mathlib.Core.Bool.{Bool, true, false}
use mathlib.Core.Logic.{◌⊎◌, ⊎_elim, by_cases}
use mathlib.Core.List.{List}
use Prim.Native.Nat.{ℕ, suc, ◌+◌, ◌<◌}
use native.Mathlib.Decide.{dec_lt}
use native.Mathlib.Omega.{arith}
use borrow.Author.Tests.{eqb-true, eq-eqb, ne_eqb}
use Rattle.refusals.specs.Told.{fine}
use Rattle.octets.specs.FirstToLast.{first_place, place_if}
use Rattle.octets.proofs.FirstToLast.{places, nowhere, place_no, first-place}
use Rattle.lookup.specs.Rank.{rank_at, is_wanted}
use Rattle.lookup.specs.Answers.{entry_fault}
use Rattle.lookup.proofs.Sound.{NoFault, rank_before, one_more, no_pair_twice}

pub record Passed (s : List ℕ) (wanted : Option ℕ) (before : ℕ) (place : Option ℕ) (i : ℕ) : Type 0 where
  pub none : NoFault s i
  pub last : before ≡ rank_before s i
  pub only : (k : ℕ) → k < i → is_wanted s wanted k ≡ true → place ≡ Some k
  pub has : (k : ℕ) → place ≡ Some k → (k < i) × (is_wanted s wanted k ≡ true)

-- the code's test of a number above 0, where 0 stands for none, says whether the record is the one wanted
pub asked_for : (s : List ℕ) (wanted : Option ℕ) (i : ℕ) → 0 < rank_at s i → rank_at s i ≡ unwrap_or wanted 0 → is_wanted s wanted i ≡ true
unfolding is_wanted
asked_for s None i above is = absurd (omega arith)
asked_for s (Some asked) i above is = eq-eqb asked (rank_at s i) (sym is)

pub not_asked_for : (s : List ℕ) (wanted : Option ℕ) (i : ℕ) → (rank_at s i ≡ unwrap_or wanted 0 → ⊥) → is_wanted s wanted i ≡ false
unfolding is_wanted
not_asked_for s None i other = refl
not_asked_for s (Some asked) i other = ne_eqb asked (rank_at s i) (λ is. other (sym is))

same_rank : (s : List ℕ) (wanted : Option ℕ) (j k : ℕ) → is_wanted s wanted j ≡ true → is_wanted s wanted k ≡ true → rank_at s j ≡ rank_at s k
unfolding is_wanted
same_rank s None j k here there = cc
same_rank s (Some asked) j k here there = sym (eqb-true asked (rank_at s j) here) ∙ eqb-true asked (rank_at s k) there

-- one record more, with this place or the one before
pub one_passed : {s : List ℕ} {wanted : Option ℕ} {before i : ℕ} {place next : Option ℕ} → Passed s wanted before place i → entry_fault s i ≡ fine
    → ((is_wanted s wanted i ≡ true) × (next ≡ Some i)) ⊎ ((is_wanted s wanted i ≡ false) × (next ≡ place)) → Passed s wanted (rank_at s i) next (i + 1)
one_passed {s} {wanted} {before} {i} {place} {next} at clear came =
    let none : NoFault s (i + 1) = one_more s i at.none clear in
    let one_on : suc i ≡ i + 1 = omega arith in
    let last : rank_at s i ≡ rank_before s (i + 1) = ap (rank_before s) one_on in
    ⊎_elim
    (λ hit. record {
      none = none;
      last = last;
      only = λ k l is. hit.1 ∙ ap Some (sym (no_pair_twice s (i + 1) k i none l (omega arith) (same_rank s wanted k i is hit.0)));
      has = λ k is. let same : i ≡ k = cc in (omega arith, ap (is_wanted s wanted) (sym same) ∙ hit.0);
    })
    (λ miss. record {
      none = none;
      last = last;
      only = λ k l is. by_cases (dec_lt k i) (λ earlier. miss.1 ∙ at.only k earlier is)
          (λ this. let same : i ≡ k = omega arith in let both : true ≡ false = sym is ∙ ap (is_wanted s wanted) (sym same) ∙ miss.0 in cc);
      has = λ k is. let had = at.has k (sym miss.1 ∙ is) in (omega (arith, had.0), had.1);
    })
    came

-- at the end the place is that of the first that is wanted
module _ {s : List ℕ} {wanted : Option ℕ} {before n : ℕ} {place : Option ℕ} (at : Passed s wanted before place n) where
  elsewhere : (k : ℕ) → k < n → (place ≡ Some k → ⊥) → is_wanted s wanted k ≡ false
  elsewhere k h other = by-test (is_wanted s wanted k) refl
    where
      by-test : (b : Bool) → is_wanted s wanted k ≡ b → is_wanted s wanted k ≡ false
      by-test true is = absurd (other (at.only k h is))
      by-test false is = is

  pub placed : (p : Option ℕ) → place ≡ p → p ≡ first_place (is_wanted s wanted) n 0
  placed None is =
      sym (nowhere places (place_if (is_wanted s wanted)) n 0 (λ j l h. place_no (is_wanted s wanted) j (elsewhere j (omega arith) (λ other. let z : ◌≡◌ {A = ℕ} 0 1 = cc in omega arith))))
  placed (Some k) is =
      let has = at.has k is in
      sym (first-place (is_wanted s wanted) n 0 (record { from = omega arith; below = omega (arith, has.0); passes = has.1; before = λ j l h. elsewhere j (omega (arith, has.0)) (λ other. let same : j ≡ k = cc in omega arith) }))
