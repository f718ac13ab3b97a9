-- The two forms of run records: the causes of a move by judging in order, the round trips by the meanings' own, and the same report, since a
-- job sees no more of its records than their count, each one's run and each one's unnamed bytes.
use mathlib.Core.Path.{◌≡◌, refl, sym, ap, ◌∙◌}
use mathlib.Core.Bool.{Bool, true, false, not, ◌&&◌}
use mathlib.Core.Logic.Iff
use mathlib.Core.List.{List}
use Prim.Native.Nat.{ℕ, ◌+◌, ◌*◌, ◌/◌, ◌%◌, ◌<◌}
use native.Mathlib.Omega.{arith}
use lib.Dec.{eqb}
use lib.ListN.{length}
use lib.Seq.{ext_get_or}
use Rattle.refusals.specs.Told.{Told, done, demand, demand_at, or_else, unless, left_by}
use Rattle.refusals.proofs.Laws.{judged_was, judged_done, told_one}
use Rattle.octets.specs.FirstToLast.{scan}
use Rattle.octets.specs.Records.{records_in, are_records}
use Rattle.octets.proofs.FirstToLast.{faults, same as scan-same}
use Rattle.ranges.specs.Within.{within}
use Rattle.ranges.specs.Table.{runs_ok, k_factor_ok, limit_ok, moved_ok, pulses_ok}
use Rattle.ranges.proofs.Laws.{within_low, within_high, within_true}
use Rattle.factors.specs.Prover.{prover_ok}
use Rattle.factors.specs.declared.Prover.{Prover}
use Rattle.group.specs.Listed.{listed}
use Rattle.group.specs.Repeatability.{first_group, nine_unless}
use Rattle.group.proofs.Listed.{listed_value, listed_length}
use Rattle.report.specs.Judged.{report_of}
use Rattle.report.specs.Record.{bytes_of_report}
use Rattle.run.specs.Record.{size_of, fields_from, run_from, run_at, run_ok, unnamed_ok}
use Rattle.run.specs.Figures.{indicated, figures_of}
use Rattle.run.specs.Answers.{record_fault, figures_fault}
use Rattle.run.specs.declared.Form.{Form}
use Rattle.run.specs.declared.Form.TheVariants.{Short, Long}
use Rattle.run.specs.declared.Run.{Run}
use Rattle.moving.specs.Moved.{moved_bytes}
use Rattle.moving.specs.Judging.{buffer_ok, is_whole, move_fault, move_faults, move_of}
use Rattle.moving.proofs.Laws.{Movable, movable, short_whole}
use Rattle.moving.proofs.Beside.{Beside, same_run, same_unnamed}
use Rattle.moving.proofs.Trips.{forward_beside_each, long_length, forward_then_back as there_and_back, old_bytes, back_then_forward as back-and-there, new-bytes}
use Rattle.proving.specs.Judging.{runs_in, settings_fault, lent_fault, run_fault, input_fault}
use Rattle.proving.specs.Job.{factor_at, factors_of, first_five, five_at, report_at, job_of}
use Rattle.promises.specs.Arguments.{first, second, third, fourth, fifth, sixth, seventh}
use Rattle.promises.specs.Records.{Lent}
use Rattle.promises.specs.Proving.{RunInOrder}
use Rattle.promises.specs.LongRuns.{RecordMoves, Moves, MoveCause, buffer_length, records_lent, record_field, unnamed_byte, not_whole, LongRuns}
use Rattle.promises.proofs.Reasons.{At, here, at_named, InTurn, sooner, later, OfFirst, of, Exactly, tested, in-turn, in_words, first-to-last, Tells, by_judging, tells_in_words, one_cause}
use Rattle.promises.proofs.ExactCauses.{told_exactly}
use Rattle.promises.proofs.Judging.{lent_judged}

-- ---- a move, judged in order

module _ (form : Form) (s : List ℕ) (size : ℕ) where
  abbrev OwnCause : ℕ → ℕ → ℕ → Type 0
  OwnCause i =
      InTurn (InTurn (At 5 (i + 1) (run_ok (run_at form s i) ≡ false)) (run_ok (run_at form s i) ≡ true) (At 2 (i + 1) (unnamed_ok form s i ≡ false))) (RunInOrder form s i)
      (At 36 (i + 1) (is_whole (run_at form s i).pulses ≡ false))

  own_judged : (i : ℕ) → Exactly (RecordMoves form s i) (OwnCause i) (move_fault form s i)
  unfolding move_fault record_fault
  own_judged i =
      in_words ((λ ok. record { in_order = ok.0; count = ok.1 }), (λ ok. (ok.in_order, ok.count))) (λ _ _. Iff.rfl)
      (in-turn
      (in_words ((λ ok. record { fields = ok.0; unnamed = ok.1 }), (λ ok. (ok.fields, ok.unnamed))) (λ _ _. Iff.rfl)
      (in-turn (tested (run_ok (run_at form s i)) 5 (i + 1)) (tested (unnamed_ok form s i) 2 (i + 1))))
      (tested (is_whole (run_at form s i).pulses) 36 (i + 1)))

  abbrev AnyCause : ℕ → ℕ → Type 0
  AnyCause = InTurn (At 14 0 (buffer_ok form (length s) size ≡ false)) (buffer_ok form (length s) size ≡ true)
      (InTurn (At 1 0 (Lent moved_ok (size_of form) s → ⊥)) (Lent moved_ok (size_of form) s) (OfFirst (records_in (size_of form) s) (RecordMoves form s) OwnCause))

  named : {number at : ℕ} → AnyCause number at → MoveCause form s size number at
  named (sooner (here wrong)) = buffer_length wrong
  named (later buffer (sooner (here wrong))) = records_lent buffer wrong
  named (later buffer (later lent (of i h every (sooner (sooner there))))) = at_named (MoveCause form s size) there (λ wrong. record_field (record { buffer = buffer; lent = lent }) i h every wrong)
  named (later buffer (later lent (of i h every (sooner (later fields there))))) = at_named (MoveCause form s size) there (λ wrong. unnamed_byte (record { buffer = buffer; lent = lent }) i h every fields wrong)
  named (later buffer (later lent (of i h every (later ok there)))) = at_named (MoveCause form s size) there (λ wrong. not_whole (record { buffer = buffer; lent = lent }) i h every ok wrong)

  meant : {number at : ℕ} → MoveCause form s size number at → AnyCause number at
  meant (buffer_length wrong) = sooner (here wrong)
  meant (records_lent buffer wrong) = later buffer (sooner (here wrong))
  meant (record_field given i h every wrong) = later given.buffer (later given.lent (of i h every (sooner (sooner (here wrong)))))
  meant (unnamed_byte given i h every fields wrong) = later given.buffer (later given.lent (of i h every (sooner (later fields (here wrong)))))
  meant (not_whole given i h every ok wrong) = later given.buffer (later given.lent (of i h every (later ok (here wrong))))

  pub move_tells : Tells (Moves form s size) (MoveCause form s size) (move_of form s size)
  unfolding move_of move_faults
  move_tells =
      tells_in_words ((λ ok. record { given = record { buffer = ok.0; lent = ok.1.0 }; records = ok.1.1 }), (λ ok. (ok.given.buffer, (ok.given.lent, ok.records))))
      (λ _ _. (named, meant))
      (by_judging (records_in (size_of form) s)
      (in-turn (tested (buffer_ok form (length s) size) 14 0) (in-turn (lent_judged moved_ok (size_of form) s) (first-to-last (move_fault form s) (records_in (size_of form) s) own_judged))))

  -- a move that is made could be made, and counts its records
  pub made : {count : ℕ} → move_of form s size ≡ done count → Movable form s size × (records_in (size_of form) s ≡ count)
  unfolding move_of
  made is = (movable form s size (judged_was (move_faults form s size) (records_in (size_of form) s) is), judged_done (move_faults form s size) (records_in (size_of form) s) is)

-- ---- the same job

-- records of which each is beside its own, long and short
module _ (s t : List ℕ) (n : ℕ) (short : length s ≡ 32 * n) (long : length t ≡ 48 * n) (beside : (i : ℕ) → i < n → Beside s t i) (prover : Prover) (k limit : ℕ) where
  counted : runs_in Long t ≡ runs_in Short s
  unfolding records_in
  counted = omega arith

  below : (i : ℕ) → i < runs_in Short s → i < n
  unfolding records_in
  below i h = omega arith

  same_settings : settings_fault prover k limit Long (length t) ≡ settings_fault prover k limit Short (length s)
  unfolding settings_fault are_records
  same_settings =
      let left : length t % 48 ≡ length s % 32 = omega arith in
      let quotient : length t / 48 ≡ length s / 32 = omega arith in
      λ u. or_else (demand (eqb (left u) 0 && runs_ok (quotient u)) 1) (or_else (demand (prover_ok prover) 3) (or_else (demand (k_factor_ok k) 4) (demand (limit_ok limit) 4)))

  same_records : scan (lent_fault Long t) (runs_in Long t) 0 ≡ scan (lent_fault Short s) (runs_in Short s) 0
  unfolding record_fault
  same_records =
      ap (λ (m : ℕ). scan (lent_fault Long t) m 0) counted
      ∙ scan-same faults (lent_fault Long t) (lent_fault Short s) (runs_in Short s) 0 (λ i low h.
      let b = beside i (below i (omega arith)) in
      λ u. or_else (demand_at (run_ok (same_run b u)) 5 (i + 1)) (demand_at (same_unnamed b u) 2 (i + 1)))

  same_runs : scan (run_fault prover k Long t) (runs_in Long t) 0 ≡ scan (run_fault prover k Short s) (runs_in Short s) 0
  unfolding run_fault
  same_runs =
      ap (λ (m : ℕ). scan (run_fault prover k Long t) m 0) counted
      ∙ scan-same faults (run_fault prover k Long t) (run_fault prover k Short s) (runs_in Short s) 0 (λ i low h.
      ap (λ (run : Run). figures_fault (figures_of prover k run) (i + 1)) (same_run (beside i (below i (omega arith)))))

  same_factors : factors_of prover k Long t ≡ factors_of prover k Short s
  unfolding factors_of factor_at
  same_factors =
      let f = factor_at prover k Long t in
      let g = factor_at prover k Short s in
      let m = runs_in Short s in
      let few : (i : ℕ) → i < length (listed f m 0) → i < m = λ i h. omega (arith, h, listed_length f m 0) in
      ap (λ (c : ℕ). listed f c 0) counted
      ∙ ext_get_or 0 (listed f m 0) (listed g m 0) (listed_length f m 0 ∙ sym (listed_length g m 0)) (λ i h.
      listed_value f m 0 i (few i h) ∙ ap f (omega arith) ∙ ap (λ (run : Run). (figures_of prover k run).factor) (same_run (beside i (below i (few i h)))) ∙ sym (listed_value g m 0 i (few i h) ∙ ap g (omega arith)))

  pub same_job : (request size : ℕ) → job_of request prover k limit Long t size ≡ job_of request prover k limit Short s size
  unfolding job_of input_fault first_five report_at
  same_job request size = λ u.
      unless (or_else (demand (eqb size 32) 14) (demand (not (eqb request 0)) 22))
      (unless (or_else (same_settings u) (or_else (same_records u) (same_runs u)))
      (nine_unless (first_group limit 5 (same_factors u)) (λ at. report_of request (counted u) (at + 1) (five_at (same_factors u) at))))

-- ---- of the contracts

-- what a move leaves is the records in the other form
left_moved : (form : Form) (s found left : List ℕ) {t : Told ℕ} {count : ℕ} → t ≡ move_of form s (length found) → left ≡ left_by (move_of form s (length found)) (moved_bytes form s) found → t ≡ done count
    → (move_of form s (length found) ≡ done count) × (left ≡ moved_bytes form s (records_in (size_of form) s))
left_moved form s found left same leaves is =
    let told_so = sym same ∙ is in
    (told_so, leaves ∙ ap (λ (t : Told ℕ). left_by t (moved_bytes form s) found) told_so ∙ ap (moved_bytes form s) (sym (made form s (length found) told_so).1))

-- tests that hold together
alike : (x y : Bool) → (x ≡ true → y ≡ true) → (y ≡ true → x ≡ true) → x ≡ y
alike true y there back = sym (there refl)
alike false true there back = back refl
alike false false there back = refl

-- of whole pulses the range is 01's
whole_pulses : (pulses : ℕ) → pulses_ok (pulses * 1000) ≡ within 1 100000000 pulses
unfolding pulses_ok
whole_pulses pulses =
    alike (within 1000 100000000000 (pulses * 1000)) (within 1 100000000 pulses)
    (λ ok. within_true 1 100000000 pulses (omega (arith, within_low 1000 100000000000 (pulses * 1000) ok)) (omega (arith, within_high 1000 100000000000 (pulses * 1000) ok)))
    (λ ok. within_true 1000 100000000000 (pulses * 1000) (omega (arith, within_low 1 100000000 pulses ok)) (omega (arith, within_high 1 100000000 pulses ok)))

pub long_runs : LongRuns
unfolding run_at run_from fields_from indicated
long_runs =
    record {
      short_pulses = λ s i. refl;
      long_pulses = λ s i. refl;
      whole_range = whole_pulses;
      whole_indicated = λ pulses k. refl;
      one_of_move = λ form s size. one_cause (move_of form s size) (move_tells form s size);
      forward_exactly = λ κ a r x number at p. told_exactly number at (move_tells Short (first a).now (length (second a).now)) p.0;
      back_exactly = λ κ a r x number at p. told_exactly number at (move_tells Long (first a).now (length (second a).now)) p.0;
      forward_whole = short_whole;
      forward_then_back = λ κ a r x κ' b q y p p' bytes is lent size.
          let l = left_moved Short (first a).now (second a).now (second x).now p.0 p.1 is in
          let m = made Short (first a).now (length (second a).now) l.0 in
          let again : move_of Long (first b).now (length (second b).now) ≡ done (records_in 32 (first a).now) = (λ i. move_of Long ((lent ∙ l.1) i) (size i)) ∙ there_and_back (first a).now (length (second a).now) m.0 in (
            p'.0 ∙ again ∙ ap done m.1,
            p'.1 ∙ ap (λ (u : Told ℕ). left_by u (moved_bytes Long (first b).now) (second b).now) again
                ∙ ap (λ (u : List ℕ). moved_bytes Long u (records_in 32 (first a).now)) (lent ∙ l.1) ∙ old_bytes (first a).now (length (second a).now) m.0 bytes,
          );
      back_then_forward = λ κ a r x κ' b q y p p' bytes is lent size.
          let l = left_moved Long (first a).now (second a).now (second x).now p.0 p.1 is in
          let m = made Long (first a).now (length (second a).now) l.0 in
          let again : move_of Short (first b).now (length (second b).now) ≡ done (records_in 48 (first a).now) = (λ i. move_of Short ((lent ∙ l.1) i) (size i)) ∙ back-and-there (first a).now (length (second a).now) m.0 in (
            p'.0 ∙ again ∙ ap done m.1,
            p'.1 ∙ ap (λ (u : Told ℕ). left_by u (moved_bytes Short (first b).now) (second b).now) again
                ∙ ap (λ (u : List ℕ). moved_bytes Short u (records_in 48 (first a).now)) (lent ∙ l.1) ∙ new-bytes (first a).now (length (second a).now) m.0 bytes,
          );
      same_report = λ κ a r x κ' b q y κ'' c o z p p' p'' is request prover k limit buffer short records long moved.
          let s = (first a).now in
          let l = left_moved Short s (second a).now (second x).now p.0 p.1 is in
          let m = (made Short s (length (second a).now) l.0).0 in
          let n = records_in 32 s in
          let t = moved_bytes Short s n in
          let own = same_job s t n m.given.whole (long_length s (length (second a).now) m) (forward_beside_each s (length (second a).now) m) (second b) (third b) (fourth b) (first b) (length (seventh b).now) in
          let here : job_of (first c) (second c) (third c) (fourth c) (fifth c) (sixth c).now (length (seventh c).now) ≡ job_of (first b) (second b) (third b) (fourth b) Long t (length (seventh b).now) =
          λ i. job_of (request i) (prover i) (k i) (limit i) (long i) ((moved ∙ l.1) i) (length (buffer i)) in
          let there : job_of (first b) (second b) (third b) (fourth b) Short s (length (seventh b).now) ≡ job_of (first b) (second b) (third b) (fourth b) (fifth b) (sixth b).now (length (seventh b).now) =
          λ i. job_of (first b) (second b) (third b) (fourth b) (sym short i) (sym records i) (length (seventh b).now) in
          let job = here ∙ own ∙ there in
          (told_one o q (p''.0 ∙ job ∙ sym p'.0), p''.1 ∙ (λ i. left_by (job i) bytes_of_report (buffer i)) ∙ sym p'.1);
    }
