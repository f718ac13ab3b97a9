-- The answer loses nothing: two that tell the same are the same. And what the one pass finds is the record with the pair.
use Rattle.std.specs.Prelude.{Option, None, Some}
use mathlib.Core.Path.{◌≡◌, refl, sym, ap, ◌∙◌}
use mathlib.Core.Bool.{Bool, true, false, cond}
use mathlib.Core.List.{List}
use mathlib.Core.Logic.{by_cases}
use Prim.Native.Nat.{ℕ, ◌/◌, ◌%◌, ◌<◌, ◌≤◌}
use native.Mathlib.Decide.{ℕ_discrete}
use native.Mathlib.Omega.{arith}
use borrow.Author.Tests.{eq-eqb, ne_eqb}
use lib.Dec.{eqb}
use lib.IntN.{ℤ}
use lib.ListN.{length}
use Rattle.refusals.specs.Told.{Told, Fault, demand, or_else, unless}
use Rattle.ranges.specs.Table.{temperature_ok, entries_ok}
use Rattle.ranges.proofs.Laws.{both_second, within_high}
use Rattle.octets.specs.FirstToLast.{scan, first_place, place_if}
use Rattle.octets.specs.Records.{records_in, are_records}
use Rattle.octets.proofs.FirstToLast.{places, same, place_first}
use Rattle.std.specs.Option.{IfSome}
use Rattle.lookup.specs.HalfDegree.{half_degree, half_degree_signed}
use Rattle.lookup.specs.Pair.{asked_ok, has_pair}
use Rattle.lookup.specs.Rank.{rank_of, rank_at, is_wanted}
use Rattle.lookup.specs.Answers.{entry_fault, table_fault, found_in, look_up_of}
use Rattle.lookup.specs.declared.Entry.{Entry}
use Rattle.lookup.proofs.Pair.{HasPair, pair_true, pair_was}
use Rattle.lookup.proofs.Rank.{rank_one}
use Rattle.lookup.proofs.Sound.{NoFault, good_record, good_temperature, rank_good, no_pair_twice}

-- in a table without fault a record has the pair exactly where it has the pair's number
module _ (s : List ℕ) (n : ℕ) (t : ℤ) (g : ℕ) (no_fault : NoFault s n) where
  ranked : (k : ℕ) → k < n → HasPair s t g k → rank_at s k ≡ rank_of t g
  ranked k h has = rank_good s k (good_record s k (no_fault k h)) ∙ (λ i. rank_of (has.temperature i) (has.gravity i))

  -- so no two records have it
  pub one_place : (j k : ℕ) → j < n → k < n → HasPair s t g j → HasPair s t g k → j ≡ k
  one_place j k h l has has' = no_pair_twice s n j k no_fault h l (ranked j h has ∙ sym (ranked k l has'))

module _ (s : List ℕ) (n : ℕ) (t : ℤ) (g : ℕ) (no_fault : NoFault s n) (ok : temperature_ok t ≡ true) where
  paired : (k : ℕ) → k < n → rank_at s k ≡ rank_of t g → HasPair s t g k
  paired k h is =
      let good = good_record s k (no_fault k h) in
      let same = rank_one (good_temperature s k good) ok (sym (rank_good s k good) ∙ is) in
      record { temperature = same.0; gravity = same.1 }

  wanted_pair : (k : ℕ) → k < n → is_wanted s (Some (rank_of t g)) k ≡ has_pair s t g k
  unfolding is_wanted
  wanted_pair k h =
      by_cases (ℕ_discrete (rank_of t g) (rank_at s k))
      (λ same. eq-eqb (rank_of t g) (rank_at s k) same ∙ sym (pair_true s t g k (paired k h (sym same))))
      (λ other. ne_eqb (rank_of t g) (rank_at s k) other ∙ by-test (has_pair s t g k) refl other)
    where
      by-test : (b : Bool) → has_pair s t g k ≡ b → (rank_of t g ≡ rank_at s k → ⊥) → false ≡ has_pair s t g k
      by-test true is other = absurd (other (sym (ranked s n t g no_fault k h (pair_was s t g k is))))
      by-test false is other = sym is

  -- so the first with the number is the first with the pair
  pub place_found : first_place (is_wanted s (Some (rank_of t g))) n 0 ≡ first_place (has_pair s t g) n 0
  unfolding place_if
  place_found = same places (place_if (is_wanted s (Some (rank_of t g)))) (place_if (has_pair s t g)) n 0 (λ j l h. ap (λ (b : Bool). cond b (Some j) None) (wanted_pair j (omega arith)))

-- ---- a table of a whole count of records

module _ (s : List ℕ) (whole : are_records entries_ok 8 (length s) ≡ true) where
  pub few_entries : records_in 8 s ≤ 4096
  unfolding are_records records_in entries_ok
  few_entries = within_high 1 4096 (length s / 8) (both_second (eqb (length s % 8) 0) _ whole)

-- what is judged, in its order, before a record is found
abbrev pub in_order : Fault → Fault → Fault → Told Entry → Told Entry
in_order length table asked last = unless (or_else (or_else length table) asked) last

pub look_up_is : (t : ℤ) (g : ℕ) (s : List ℕ) {length-fault records asked : Fault}
    → demand (are_records entries_ok 8 (length s)) 1 ≡ length-fault → scan (entry_fault s) (records_in 8 s) 0 ≡ records → demand (asked_ok t g) 13 ≡ asked
    → look_up_of t g s ≡ in_order length-fault records asked (found_in s (half_degree_signed t) (half_degree g))
unfolding look_up_of table_fault
look_up_is t g s one two three = λ i. in_order (one i) (two i) (three i) (found_in s (half_degree_signed t) (half_degree g))

-- a record that is found is one of the table's
pub place_below : (test : ℕ → Bool) (n : ℕ) (place : Option ℕ) → first_place test n 0 ≡ place → n ≤ 4096 → IfSome place (λ i. i < 4096)
place_below test n None is few = tt
place_below test n (Some i) is few = omega (arith, (place_first test n 0 is).below)
