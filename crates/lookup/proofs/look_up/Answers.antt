-- `lookup::look_up` meets its contract: 1, the table, 13, and then the record that the pass found.
use Rattle.std.specs.Prelude.{Option, Some}
use mathlib.Core.Bool.{Bool, true, ◌&&◌}
use mathlib.Core.Path.{◌≡◌, refl, sym, ap, ◌∙◌}
use mathlib.Core.List.{List}
use Prim.Native.Nat.{ℕ, ◌%◌, ◌/◌, ◌≤◌}
use native.Mathlib.Omega.{arith}
use lib.Dec.{eqb}
use lib.IntN.{ℤ}
use lib.ListN.{length}
use mir.Syntax.{w16}
use mir.ValLaws.{to_z-of_z}
use Rattle.refusals.specs.Table.{number_of, record_of}
use Rattle.refusals.specs.Told.{fine, refused, demand}
use Rattle.refusals.specs.declared.Refusal.{Refusal}
use Rattle.refusals.proofs.Laws.{demand_was, demand_holds, demand_fails, judged_was, judged_done, judged_refused}
use Rattle.ranges.specs.Table.{temperature_ok, gravity_ok, entries_ok}
use Rattle.ranges.proofs.Laws.{both_first}
use Rattle.octets.specs.FirstToLast.{scan, first_place}
use Rattle.octets.specs.Records.{records_in, are_records}
use Rattle.octets.proofs.FirstToLast.{faults, empty}
use Rattle.lookup.specs.HalfDegree.{half_degree, half_degree_signed}
use Rattle.lookup.specs.Pair.{asked_ok}
use Rattle.lookup.specs.Rank.{rank_asked, rank_if, is_wanted}
use Rattle.lookup.specs.Answers.{entry_fault, record_found, found_in}
use Rattle.lookup.proofs.HalfDegree.{temperature_stays}
use Rattle.lookup.proofs.Judged.{refusal_back, instead}
use Rattle.lookup.proofs.Rank.{asked_is, ranked_was, ranked_not}
use Rattle.lookup.proofs.Outcome.{few_entries, place_found, place_below, look_up_is}
use Rattle.lookup.proofs.look_up.Goals.{After-rank_asked-wanted}
use Rattle.lookup.proofs.look_up.Goals as goal

length-judged : (n : ℕ) {few : Bool} → few ≡ entries_ok (n / 8) → demand (are_records entries_ok 8 n) 1 ≡ demand (eqb (n % 8) 0 && few) 1
unfolding are_records
length-judged n is = ap (λ (few : Bool). demand (eqb (n % 8) 0 && few) 1) (sym is)

few-records : (s : List ℕ) → demand (are_records entries_ok 8 (length s)) 1 ≡ fine → length s / 8 ≤ 4096
unfolding records_in
few-records s whole = few_entries s (demand_was (are_records entries_ok 8 (length s)) 1 whole)

-- the pair as the machine passes it on
asked : (c : After-rank_asked-wanted) → c.rank_asked-wanted.result ≡ rank_if (asked_ok c.args.temperature c.args.gravity) (rank_asked c.args.temperature c.args.gravity)
asked c = c.rank_asked-wanted.ensures ∙ ap (λ (t : ℤ). rank_if (asked_ok t c.args.gravity) (rank_asked t c.args.gravity)) (to_z-of_z w16 c.args.temperature c.ranges.temperature)

-- a table without fault: the first record with the number asked for is the first with the pair
found-is : (s : List ℕ) (t : ℤ) (g : ℕ) {wanted : ℕ} → scan (entry_fault s) (records_in 8 s) 0 ≡ fine → asked_ok t g ≡ true → rank_asked t g ≡ wanted
    → record_found s (first_place (is_wanted s (Some wanted)) (records_in 8 s) 0) ≡ found_in s (half_degree_signed t) (half_degree g)
unfolding found_in asked_ok
found-is s t g clear ok is =
    let n = records_in 8 s in
    ap (λ (w : ℕ). record_found s (first_place (is_wanted s (Some w)) n 0)) (sym is ∙ asked_is t g ok)
    ∙ ap (record_found s)
    (place_found s n (half_degree_signed t) (half_degree g) (λ k h. empty faults (entry_fault s) n 0 clear k (omega arith) (omega arith)) (temperature_stays t (both_first (temperature_ok t) (gravity_ok g) ok)))

pub returns-in_err-demand : goal.returns-in_err-demand
returns-in_err-demand c = let a = c.args in
    refusal_back _ _ c.from_residual.ensures.1 (look_up_is a.temperature a.gravity a.table.now (length-judged _ c.are_entries.ensures ∙ sym (c.in_err-demand.ensures)) refl refl)

pub pass_over-requires : goal.pass_over-requires
pass_over-requires c = few-records c.args.table.now (length-judged _ c.are_entries.ensures ∙ sym (c.in_ok-demand.ensures))

pub returns-in_err-place : goal.returns-in_err-place
unfolding records_in
returns-in_err-place c = let a = c.args in
    let whole = length-judged _ c.are_entries.ensures ∙ sym (c.in_ok-demand.ensures) in
    refusal_back _ _ c.from_residual-in_err-place.ensures.1 (look_up_is a.temperature a.gravity a.table.now whole (judged_refused _ _ (sym (c.in_err-place.ensures))) refl)

pub returns-in_err-ok_or : goal.returns-in_err-ok_or
unfolding records_in
returns-in_err-ok_or c = let a = c.args in
    let whole = length-judged _ c.are_entries.ensures ∙ sym (c.in_ok-demand.ensures) in
    let none = c.in_err-ok_or.ensures.ok_part in
    let bad = ranked_not _ (asked_ok a.temperature a.gravity) (sym (asked (goal.at.returns-in_err-ok_or c).After-rank_asked-wanted) ∙ none) in
    refusal_back _ _ c.from_residual-in_err-ok_or.ensures.1
    (look_up_is a.temperature a.gravity a.table.now whole (judged_was _ _ (sym (c.in_ok-place.ensures))) (demand_fails 13 bad) ∙ ap (λ (r : Refusal). refused (number_of r) (record_of r)) (sym (instead none c.in_err-ok_or.ensures.value)))

pub answer-requires : goal.answer-requires
answer-requires c = place_below _ _ c.in_ok-place.place (judged_done _ _ (sym (c.in_ok-place.ensures))) (few-records c.args.table.now (length-judged _ c.are_entries.ensures ∙ sym (c.in_ok-demand.ensures)))

pub returns : goal.returns
unfolding records_in
returns c = let a = c.args in
    let s = a.table.now in
    let whole = length-judged _ c.are_entries.ensures ∙ sym (c.in_ok-demand.ensures) in
    let clear = judged_was _ _ (sym (c.in_ok-place.ensures)) in
    let is = c.in_ok-ok_or.ensures.ok_part in
    let pair = ranked_was (asked_ok a.temperature a.gravity) (sym (asked (goal.at.returns c).After-rank_asked-wanted) ∙ is) in
    c.answer.ensures ∙ ap (record_found s) (sym (judged_done _ _ (sym (c.in_ok-place.ensures))) ∙ ap (λ (wanted : Option ℕ). first_place (is_wanted s wanted) (length s / 8) 0) is)
    ∙ found-is s a.temperature a.gravity clear pair.0 pair.1 ∙ sym (look_up_is a.temperature a.gravity s whole clear (demand_holds 13 pair.0))
