-- 'Forward then back gives the old bytes; back then forward, where allowed, the new ones': of the meanings.
use mathlib.Core.Path.{◌≡◌, sym, ap, ◌∙◌}
use mathlib.Core.Bool.{true}
use mathlib.Core.List.{List, ◌++◌}
use Prim.Native.Nat.{ℕ, ◌+◌, ◌*◌, ◌-◌, ◌%◌, ◌/◌, ◌<◌, ◌≤◌}
use native.Mathlib.Omega.{arith}
use borrow.Author.Tests.{eqb-true, eq-eqb}
use lib.ListN.{length, get_or, take, drop, replicate}
use lib.Seq.{take-add, drop-drop, take_all}
use Rattle.refusals.specs.Told.{done, fine, demand_at, judged}
use Rattle.refusals.proofs.Laws.{judged_fine, demand_holds, demand_at_holds, demand_at_was, or_else_next, or_else_fine_first, or_else_fine_next}
use Rattle.ranges.specs.Table.{moved_ok}
use Rattle.ranges.proofs.Laws.{both_true, within_true}
use Rattle.octets.specs.FirstToLast.{scan}
use Rattle.octets.specs.Octets.{long_at, quad_at, bytes_of}
use Rattle.octets.specs.Records.{records_in, are_records}
use Rattle.octets.proofs.FirstToLast.{faults, nowhere}
use Rattle.octets.proofs.Laws.{Bytes, bytes_read, zero_all, zero_part}
use Rattle.run.specs.Record.{size_of, fields_from, run_from, run_at, run_ok, unnamed_ok}
use Rattle.run.specs.Answers.{record_fault}
use Rattle.run.specs.declared.Form.{Form}
use Rattle.run.specs.declared.Form.TheVariants.{Short, Long}
use Rattle.run.specs.declared.Run.{Run}
use Rattle.run.proofs.Laws.{run_fits}
use Rattle.moving.specs.Moved.{lengthened, shortened, other, moved_bytes}
use Rattle.moving.specs.Judging.{lengths_ok, buffer_ok, is_whole, move_fault, move_faults, move_of}
use Rattle.moving.proofs.Laws.{Movable, in_two, lent_fault, moved_length, short_whole}
use Rattle.moving.proofs.Beside.{Beside, same_run, same_unnamed, same_part, joined_parts, joined_same, forward_beside, back_beside}

-- a record that can be moved, test by test
pub record Carried (form : Form) (s : List ℕ) (i : ℕ) : Type 0 where
  pub fields : run_ok (run_at form s i) ≡ true
  pub unnamed : unnamed_ok form s i ≡ true
  pub even : is_whole (run_at form s i).pulses ≡ true

pub carried : (form : Form) (s : List ℕ) (i : ℕ) → move_fault form s i ≡ fine → Carried form s i
unfolding move_fault record_fault
carried form s i is =
    let own = or_else_fine_first (record_fault form s i (i + 1)) _ is in
    record {
      fields = demand_at_was _ 5 (i + 1) (or_else_fine_first (demand_at (run_ok (run_at form s i)) 5 (i + 1)) _ own);
      unnamed = demand_at_was _ 2 (i + 1) (or_else_fine_next (demand_at (run_ok (run_at form s i)) 5 (i + 1)) _ own);
      even = demand_at_was _ 36 (i + 1) (or_else_fine_next (record_fault form s i (i + 1)) _ is);
    }

carries : (form : Form) (s : List ℕ) (i : ℕ) → Carried form s i → move_fault form s i ≡ fine
unfolding move_fault record_fault
carries form s i c = or_else_next _ (or_else_next _ (demand_at_holds 5 (i + 1) c.fields) ∙ demand_at_holds 2 (i + 1) c.unnamed) ∙ demand_at_holds 36 (i + 1) c.even

count_of : (form : Form) (s : List ℕ) (n : ℕ) → length s ≡ size_of form * n → records_in (size_of form) s ≡ n
unfolding records_in
count_of Short s n is = omega arith
count_of Long s n is = omega arith

buffer_of : (form : Form) (lent size n : ℕ) → lent ≡ size_of form * n → size ≡ size_of (other form) * n → buffer_ok form lent size ≡ true
unfolding lengths_ok
buffer_of Short lent size n is fills = eq-eqb (2 * size) (3 * lent) (omega arith)
buffer_of Long lent size n is fills = eq-eqb (2 * lent) (3 * size) (omega arith)

lengths_of : (form : Form) (lent n : ℕ) → 1 ≤ n → n ≤ 4096 → lent ≡ size_of form * n → are_records moved_ok (size_of form) lent ≡ true
unfolding are_records moved_ok
lengths_of Short lent n least most is = both_true (eq-eqb (lent % 32) 0 (omega arith)) (within_true 1 4096 (lent / 32) (omega arith) (omega arith))
lengths_of Long lent n least most is = both_true (eq-eqb (lent % 48) 0 (omega arith)) (within_true 1 4096 (lent / 48) (omega arith) (omega arith))

-- so many whole records, a buffer that they fill, and every record in order
pub all_carried : (form : Form) (s : List ℕ) (size n : ℕ) → 1 ≤ n → n ≤ 4096 → length s ≡ size_of form * n → size ≡ size_of (other form) * n → ((i : ℕ) → i < n → Carried form s i) → move_of form s size ≡ done n
unfolding move_of
all_carried form s size n least most whole fills each =
    let counted : records_in (size_of form) s ≡ n = count_of form s n whole in
    let given : lent_fault form s size ≡ fine = or_else_next _ (demand_holds 14 (buffer_of form (length s) size n whole fills)) ∙ demand_holds 1 (lengths_of form (length s) n least most whole) in
    let records : scan (move_fault form s) n 0 ≡ fine = nowhere faults (move_fault form s) n 0 (λ i low h. carries form s i (each i (omega arith))) in
    ap (judged (move_faults form s size)) counted
    ∙ judged_fine n (in_two form s size ∙ or_else_next _ given ∙ ap (λ (m : ℕ). scan (move_fault form s) m 0) counted ∙ records)

-- a long record beside a short one that can be moved can be moved too, and the other way round
carried_long : {s t : List ℕ} {i : ℕ} → Beside s t i → Carried Short s i → Carried Long t i
carried_long b c = record { fields = ap run_ok (same_run b) ∙ c.fields; unnamed = same_unnamed b ∙ c.unnamed; even = ap (λ (run : Run). is_whole run.pulses) (same_run b) ∙ c.even }

carried_short : {s t : List ℕ} {i : ℕ} → Beside s t i → Carried Long t i → Carried Short s i
carried_short {s} {t} {i} b c = record { fields = ap run_ok (sym (same_run b)) ∙ c.fields; unnamed = sym (same_unnamed b) ∙ c.unnamed; even = short_whole s i }

-- ---- forward, and back

module _ (s : List ℕ) (size : ℕ) (m : Movable Short s size) where
  abbrev count : ℕ
  count = records_in 32 s

  short_small : (i : ℕ) → i < count → long_at s (32 * i) ≤ 100000000
  unfolding run_at run_from fields_from
  short_small i h = omega (arith, (run_fits (run_at Short s i) (m.fits i h)).pulses)

  pub forward_beside_each : (i : ℕ) → i < count → Beside s (moved_bytes Short s count) i
  forward_beside_each = forward_beside s count m.given.whole short_small

  pub long_length : length (moved_bytes Short s count) ≡ 48 * count
  long_length = moved_length Short s count m.given.whole count (omega arith)

  pub forward_then_back : move_of Long (moved_bytes Short s count) (length s) ≡ done count
  forward_then_back =
      all_carried Long (moved_bytes Short s count) (length s) count m.given.least m.given.most long_length m.given.whole
      (λ i h. carried_long (forward_beside_each i h) (carried Short s i (m.clear i h)))

  old_record : Bytes s → (i : ℕ) → i < count → shortened (moved_bytes Short s count) i ≡ take 32 (drop (32 * i) s)
  unfolding shortened long_at
  old_record bytes i h =
      let b = forward_beside_each i h in
      let room : 32 * i + 32 ≤ length s = omega (arith, m.given.whole) in
      let pulses : quad_at (moved_bytes Short s count) (48 * i) / 1000 ≡ long_at s (32 * i) = omega (arith, b.pulses) in
      (λ u. bytes_of 4 (pulses u) ++ same_part b (omega (arith, long_length)) room u)
      ∙ (λ u. bytes_read 4 s (32 * i) bytes (omega arith) u ++ take 28 (sym (drop-drop 4 (32 * i) s) u))
      ∙ sym (take-add 4 28 (drop (32 * i) s))

  pub old_bytes : Bytes s → moved_bytes Long (moved_bytes Short s count) count ≡ s
  old_bytes bytes =
      joined_same (shortened (moved_bytes Short s count)) (λ i. take 32 (drop (32 * i) s)) count (old_record bytes) ∙ joined_parts 32 s count ∙ take_all (32 * count) s (omega (arith, m.given.whole))

-- ---- back, and forward

module _ (t : List ℕ) (size : ℕ) (m : Movable Long t size) where
  abbrev long_count : ℕ
  long_count = records_in 48 t

  in_order : (i : ℕ) → i < long_count → Carried Long t i
  in_order i h = carried Long t i (m.clear i h)

  long_small : (i : ℕ) → i < long_count → quad_at t (48 * i) ≤ 100000000000
  unfolding run_at run_from fields_from
  long_small i h = (run_fits (run_at Long t i) (m.fits i h)).pulses

  long_even : (i : ℕ) → i < long_count → quad_at t (48 * i) % 1000 ≡ 0
  unfolding run_at run_from fields_from is_whole
  long_even i h = eqb-true (quad_at t (48 * i) % 1000) 0 (in_order i h).even

  pub back_beside_each : (i : ℕ) → i < long_count → Beside (moved_bytes Long t long_count) t i
  back_beside_each = back_beside t long_count m.given.whole long_small long_even (λ i h. (in_order i h).unnamed)

  pub short_length : length (moved_bytes Long t long_count) ≡ 32 * long_count
  short_length = moved_length Long t long_count m.given.whole long_count (omega arith)

  pub back_then_forward : move_of Short (moved_bytes Long t long_count) (length t) ≡ done long_count
  back_then_forward =
      all_carried Short (moved_bytes Long t long_count) (length t) long_count m.given.least m.given.most short_length m.given.whole
      (λ i h. carried_short (back_beside_each i h) (in_order i h))

  new_record : Bytes t → (i : ℕ) → i < long_count → lengthened (moved_bytes Long t long_count) i ≡ take 48 (drop (48 * i) t)
  unfolding lengthened quad_at
  new_record bytes i h =
      let b = back_beside_each i h in
      let room : 48 * i + 48 ≤ length t = omega (arith, m.given.whole) in
      let zeros : replicate 12 0 ≡ take 12 (drop (48 * i + 36) t) = sym (zero_part t (48 * i + 36) 12 (omega arith) (zero_all t (48 * i + 36) (48 * i + 36 + 12) (λ k low high. last_zero b k low (omega arith)))) in
      (λ u. bytes_of 8 (sym b.pulses u) ++ sym (same_part b room (omega (arith, short_length))) u ++ zeros u)
      ∙ (λ u. bytes_read 8 t (48 * i) bytes (omega arith) u ++ take 28 (sym (drop-drop 8 (48 * i) t) u) ++ take 12 (sym (drop-drop 36 (48 * i) t) u))
      ∙ (λ u. sym (take-add 8 28 (drop (48 * i) t)) u ++ take 12 (drop 36 (drop (48 * i) t)))
      ∙ sym (take-add 36 12 (drop (48 * i) t))
    where
      last_zero : {s t : List ℕ} {i : ℕ} → Beside s t i → (k : ℕ) → 48 * i + 36 ≤ k → k < 48 * i + 48 → get_or t k 0 ≡ 0
      last_zero {s} {t} {i} b k low high = let at : k ≡ 48 * i + (k - 48 * i) = omega arith in ap (λ (n : ℕ). get_or t n 0) at ∙ b.zeros (k - 48 * i) (omega arith) (omega arith)

  pub new-bytes : Bytes t → moved_bytes Short (moved_bytes Long t long_count) long_count ≡ t
  new-bytes bytes =
      joined_same (lengthened (moved_bytes Long t long_count)) (λ i. take 48 (drop (48 * i) t)) long_count (new_record bytes) ∙ joined_parts 48 t long_count ∙ take_all (48 * long_count) t (omega (arith, m.given.whole))
