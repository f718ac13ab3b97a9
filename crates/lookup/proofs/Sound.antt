-- What a table without fault holds: every record good, each with a greater number than the one before it, and so no pair twice. And how the
-- one pass judges a record by its number.
use mathlib.Core.Path.{◌≡◌, refl, sym, ap, ◌∙◌}
use mathlib.Core.Bool.{Bool, true, false, ◌&&◌}
use mathlib.Core.List.{List}
use mathlib.Core.Logic.{by_cases}
use Prim.Native.Nat.{ℕ, zero, suc, ◌+◌, ◌<◌}
use native.Mathlib.Decide.{dec_lt}
use native.Mathlib.Omega.{arith}
use borrow.Author.Tests.{ltb-true, lt-ltb, le-ltb}
use lib.Dec.{ltb}
use Rattle.refusals.specs.Told.{fine, fault, demand_at}
use Rattle.refusals.proofs.Laws.{demand_at_was}
use Rattle.octets.specs.FirstToLast.{scan}
use Rattle.octets.proofs.FirstToLast.{faults, found}
use Rattle.ranges.specs.Table.{temperature_ok}
use Rattle.ranges.proofs.Laws.{both_first, both_second}
use Rattle.lookup.specs.Table.{entry_at, entry_ok, record_ok, order_ok}
use Rattle.lookup.specs.Rank.{rank_of, rank_at}
use Rattle.lookup.specs.Answers.{entry_fault}
use Rattle.lookup.proofs.Rank.{rank_above_zero, rank_follows}

-- no record of the first n is at fault
abbrev pub NoFault : List ℕ → ℕ → Type 0
NoFault s n = (k : ℕ) → k < n → entry_fault s k ≡ fine

module _ (s : List ℕ) where
  pub good_record : (i : ℕ) → entry_fault s i ≡ fine → record_ok s i ≡ true
  unfolding entry_fault
  good_record i is = both_first (record_ok s i) (order_ok s i) (demand_at_was (record_ok s i && order_ok s i) 32 (i + 1) is)

  pub good_temperature : (i : ℕ) → record_ok s i ≡ true → temperature_ok (entry_at s i).temperature ≡ true
  unfolding record_ok entry_ok
  good_temperature i ok = both_first (temperature_ok (entry_at s i).temperature) _ (both_first (entry_ok (entry_at s i)) _ ok)

  pub rank_good : (i : ℕ) → record_ok s i ≡ true → rank_at s i ≡ rank_of (entry_at s i).temperature (entry_at s i).gravity
  unfolding rank_at
  rank_good i ok = rw ok

  pub rank_faulty : (i : ℕ) → record_ok s i ≡ false → rank_at s i ≡ 0
  unfolding rank_at
  rank_faulty i bad = rw bad

  -- the number of the record before, and 0 before the first
  abbrev pub rank_before : ℕ → ℕ
  rank_before zero = 0
  rank_before (suc k) = rank_at s k

  -- a good record follows the one before it exactly where its number is greater
  order_by_rank : (i : ℕ) → record_ok s i ≡ true → NoFault s i → order_ok s i ≡ ltb (rank_before i) (rank_at s i)
  unfolding order_ok
  order_by_rank zero ok before = sym (lt-ltb 0 (rank_at s 0) (omega (arith, rank_good 0 ok, rank_above_zero (entry_at s 0).temperature (entry_at s 0).gravity (good_temperature 0 ok))))
  order_by_rank (suc k) ok before =
      let ok_before = good_record k (before k (omega arith)) in
      sym ((λ i. ltb (rank_good k ok_before i) (rank_good (suc k) ok i)) ∙ rank_follows (entry_at s k) (entry_at s (suc k)) (good_temperature k ok_before) (good_temperature (suc k) ok))

  judged_by_rank : (i : ℕ) → NoFault s i → (record_ok s i && order_ok s i) ≡ ltb (rank_before i) (rank_at s i)
  judged_by_rank i before = by_record (record_ok s i) refl
    where
      by_record : (b : Bool) → record_ok s i ≡ b → (record_ok s i && order_ok s i) ≡ ltb (rank_before i) (rank_at s i)
      by_record true is = rw is (order_by_rank i is before)
      by_record false is = rw is (sym (le-ltb (rank_before i) (rank_at s i) (omega (arith, rank_faulty i is))))

  pub by_rank : (i : ℕ) → NoFault s i → entry_fault s i ≡ demand_at (ltb (rank_before i) (rank_at s i)) 32 (i + 1)
  unfolding entry_fault
  by_rank i before = ap (λ (ok : Bool). demand_at ok 32 (i + 1)) (judged_by_rank i before)

  -- a record at fault behind none is the first
  pub first_fault : {number at : ℕ} (n i : ℕ) → i < n → NoFault s i → entry_fault s i ≡ fault number at → scan (entry_fault s) n 0 ≡ fault number at
  first_fault n i h before is = found faults (entry_fault s) n 0 (record { place = i; from = omega arith; below = omega arith; gives = is; before = λ j le l. before j l }) (λ y. refl)

  pub one_more : (i : ℕ) → NoFault s i → entry_fault s i ≡ fine → NoFault s (i + 1)
  one_more i before here k h = by_cases (dec_lt k i) (before k) (λ last. let same : k ≡ i = omega arith in ap (entry_fault s) same ∙ here)

  -- the numbers rise from record to record
  rises : (n k : ℕ) → NoFault s n → suc k < n → rank_at s k < rank_at s (suc k)
  unfolding entry_fault
  rises n k none h =
      let more = both_second (record_ok s (suc k)) (order_ok s (suc k)) (demand_at_was _ 32 (suc k + 1) (none (suc k) h)) in
      ltb-true (rank_at s k) (rank_at s (suc k)) (sym (order_by_rank (suc k) (good_record (suc k) (none (suc k) h)) (λ j l. none j (omega arith))) ∙ more)

  rises_on : (n j k : ℕ) → NoFault s n → j < k → k < n → rank_at s j < rank_at s k
  rises_on n j zero none h l = absurd (omega arith)
  rises_on n j (suc k) none h l = by_cases (dec_lt j k) (λ below. omega (arith, rises_on n j k none below (omega arith), rises n k none l)) (λ last. let same : j ≡ k = omega arith in rw same (rises n k none l))

  -- no number stands twice
  pub no_pair_twice : (n j k : ℕ) → NoFault s n → j < n → k < n → rank_at s j ≡ rank_at s k → j ≡ k
  no_pair_twice n j k none h l same =
      by_cases (dec_lt j k)
      (λ before. absurd (omega (arith, same, rises_on n j k none before l)))
      (λ not-before. by_cases (dec_lt k j) (λ after. absurd (omega (arith, same, rises_on n k j none after h))) (λ not_after. omega arith))
