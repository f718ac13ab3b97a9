-- What a moved record's length is, and how records are written one behind the other.
use mathlib.Core.Path.{◌≡◌, refl, sym, ap, ◌∙◌}
use mathlib.Core.Bool.{Bool, true, false}
use mathlib.Core.List.{List, ◌++◌}
use Prim.Native.Nat.{ℕ, suc, ◌+◌, ◌*◌, ◌%◌, ◌/◌, ◌<◌, ◌≤◌}
use native.Mathlib.Nat.{mul-le-mul, mul-suc, zero-add}
use native.Mathlib.Numerals.{add-one}
use native.Mathlib.Omega.{arith}
use borrow.Author.Tests.{eqb-true, eqb-false, eq-eqb, ne_eqb}
use lib.Dec.{eqb}
use lib.ListN.{length, take, drop, replicate, length-append, length-drop, length-replicate}
use lib.Seq.{length-take-le}
use Rattle.octets.specs.Octets.{long_at, quad_at, bytes_of, written_at}
use Rattle.octets.specs.FirstToLast.{scan}
use Rattle.octets.specs.Records.{joined, records_in, are_records}
use Rattle.octets.proofs.Laws.{length_bytes, written_both}
use Rattle.octets.proofs.FirstToLast.{faults, empty}
use Rattle.octets.proofs.Joined.{joined_length}
use Rattle.refusals.specs.Told.{Fault, fine, fault, demand, or_else}
use Rattle.refusals.proofs.Laws.{demand_was, demand_at_was, or_else_fine_first, or_else_fine_next}
use Rattle.ranges.specs.Table.{moved_ok}
use Rattle.ranges.proofs.Laws.{both_first, both_second, within_low, within_high}
use Rattle.run.specs.Record.{size_of, run_from, fields_from, run_at, run_ok}
use Rattle.run.specs.declared.Form.{Form}
use Rattle.run.specs.declared.Form.TheVariants.{Short, Long}
use Rattle.run.proofs.Laws.{run_fits}
use Rattle.run.specs.Answers.{record_fault}
use Rattle.moving.specs.Moved.{lengthened, shortened, other, moved_at, moved_bytes}
use Rattle.moving.specs.Judging.{lengths_ok, buffer_ok, is_whole, move_fault, move_faults}

-- 28 bytes of a list that has them
pub part_length : (s : List ℕ) (at : ℕ) → at + 28 ≤ length s → length (take 28 (drop at s)) ≡ 28
part_length s at room = length-take-le 28 (drop at s) (simp length-drop (omega arith))

pub lengthened_size : (s : List ℕ) (i : ℕ) → 32 * i + 32 ≤ length s → length (lengthened s i) ≡ 48
unfolding lengthened
lengthened_size s i room =
    let count : List ℕ = bytes_of 8 (long_at s (32 * i) * 1000) in
    let part : List ℕ = take 28 (drop (32 * i + 4) s) in
    length-append (count ++ part) (replicate 12 0)
    ∙ (λ t. (length-append count part ∙ (λ u. length_bytes 8 (long_at s (32 * i) * 1000) u + part_length s (32 * i + 4) (omega arith) u)) t + length-replicate {A = ℕ} 12 0 t)

pub shortened_size : (s : List ℕ) (i : ℕ) → 48 * i + 48 ≤ length s → length (shortened s i) ≡ 32
unfolding shortened
shortened_size s i room =
    let count : List ℕ = bytes_of 4 (quad_at s (48 * i) / 1000) in
    length-append count (take 28 (drop (48 * i + 8) s)) ∙ (λ u. length_bytes 4 (quad_at s (48 * i) / 1000) u + part_length s (48 * i + 8) (omega arith) u)

pub moved_size : (form : Form) (s : List ℕ) (i : ℕ) → size_of form * i + size_of form ≤ length s → length (moved_at form s i) ≡ size_of (other form)
moved_size Short s i room = lengthened_size s i room
moved_size Long s i room = shortened_size s i room

-- a place among as many as there are leaves room for its own
pub room_for : (size count i : ℕ) → i < count → size * i + size ≤ size * count
room_for size count i h = let most : size * suc i ≤ size * count = mul-le-mul {n₁ = size} {n₂ = size} (omega arith) h in omega (arith, most, mul-suc size i)

module _ (form : Form) (s : List ℕ) (count : ℕ) (lent : length s ≡ size_of form * count) where
  pub inside : (i : ℕ) → i < count → size_of form * i + size_of form ≤ length s
  inside i h = omega (arith, lent, room_for (size_of form) count i h)

  each_size : (n : ℕ) → n ≤ count → (i : ℕ) → i < n → length (moved_at form s i) ≡ size_of (other form)
  each_size n most i h = moved_size form s i (inside i (omega arith))

  pub moved_length : (n : ℕ) → n ≤ count → length (moved_bytes form s n) ≡ size_of (other form) * n
  moved_length n most = joined_length (size_of (other form)) (moved_at form s) n (each_size n most)

  -- one record more
  pub moved_next : (to : List ℕ) (i : ℕ) → i < count → length to ≡ size_of (other form) * count
      → written_at (written_at to 0 (moved_bytes form s i)) (size_of (other form) * i) (moved_at form s i) ≡ written_at to 0 (moved_bytes form s (i + 1))
  unfolding joined
  moved_next to i h room =
      let here : 0 + length (moved_bytes form s i) ≡ size_of (other form) * i = zero-add (length (moved_bytes form s i)) ∙ moved_length i (omega arith) in
      let last : length (moved_at form s i) ≡ size_of (other form) = each_size (i + 1) (omega arith) i (omega arith) in
      ap (λ (n : ℕ). written_at (written_at to 0 (moved_bytes form s i)) n (moved_at form s i)) (sym here)
      ∙ written_both to 0 (moved_bytes form s i) (moved_at form s i) (omega (arith, here, last, room, room_for (size_of (other form)) count i h))
      ∙ ap (λ (n : ℕ). written_at to 0 (joined (moved_at form s) n)) (sym (add-one i))

-- the pulses of a long record in range
pub pulses_most : (s : List ℕ) (i : ℕ) → run_ok (run_at Long s i) ≡ true → quad_at s (48 * i) ≤ 100000000000
unfolding run_at run_from fields_from
pulses_most s i ok = (run_fits (run_at Long s i) ok).pulses

-- numbers that are equal exactly when two others are
pub eqb_alike : (a b c d : ℕ) → (a ≡ b → c ≡ d) → (c ≡ d → a ≡ b) → eqb a b ≡ eqb c d
eqb_alike a b c d to from = by (eqb a b) refl
  where
    by : (x : Bool) → eqb a b ≡ x → eqb a b ≡ eqb c d
    by true is = is ∙ sym (eq-eqb c d (to (eqb-true a b is)))
    by false is = is ∙ sym (ne_eqb c d (λ e. eqb-false a b is (from e)))

-- 14 and 1, before any record is looked at
abbrev pub lent_fault : Form → List ℕ → ℕ → Fault
lent_fault form s size = or_else (demand (buffer_ok form (length s) size) 14) (demand (are_records moved_ok (size_of form) (length s)) 1)

or_else_assoc : (a b c : Fault) → or_else a (or_else b c) ≡ or_else (or_else a b) c
or_else_assoc fine b c = refl
or_else_assoc (fault number at) b c = refl

-- what is judged in order is judged in two steps
pub in_two : (form : Form) (s : List ℕ) (size : ℕ) → move_faults form s size ≡ or_else (lent_fault form s size) (scan (move_fault form s) (records_in (size_of form) s) 0)
unfolding move_faults
in_two form s size = or_else_assoc (demand (buffer_ok form (length s) size) 14) (demand (are_records moved_ok (size_of form) (length s)) 1) (scan (move_fault form s) (records_in (size_of form) s) 0)

-- 14 and 1 do not apply: as many whole records as may be moved, and a buffer that they fill in the other form
pub record Lent (form : Form) (s : List ℕ) (size : ℕ) : Type 0 where
  pub least : 1 ≤ records_in (size_of form) s
  pub most : records_in (size_of form) s ≤ 4096
  pub whole : length s ≡ size_of form * records_in (size_of form) s
  pub fills : size ≡ size_of (other form) * records_in (size_of form) s

whole_records : (form : Form) (n : ℕ) → n % size_of form ≡ 0 → n ≡ size_of form * (n / size_of form)
whole_records Short n is = omega arith
whole_records Long n is = omega arith

other_size : (form : Form) (n size : ℕ) → n % size_of form ≡ 0 → buffer_ok form n size ≡ true → size ≡ size_of (other form) * (n / size_of form)
unfolding lengths_ok
other_size Short n size is ok = omega (arith, eqb-true (2 * size) (3 * n) ok)
other_size Long n size is ok = omega (arith, eqb-true (2 * n) (3 * size) ok)

-- 1 does not apply: no more records than may be moved
pub few_moved : (form : Form) (s : List ℕ) → demand (are_records moved_ok (size_of form) (length s)) 1 ≡ fine → length s / size_of form ≤ 4096
unfolding are_records moved_ok
few_moved form s clear = within_high 1 4096 (length s / size_of form) (both_second (eqb (length s % size_of form) 0) _ (demand_was _ 1 clear))

pub lent : (form : Form) (s : List ℕ) (size : ℕ) → lent_fault form s size ≡ fine → Lent form s size
unfolding are_records moved_ok records_in
lent form s size clear =
    let ok : buffer_ok form (length s) size ≡ true = demand_was _ 14 (or_else_fine_first (demand (buffer_ok form (length s) size) 14) _ clear) in
    let one : are_records moved_ok (size_of form) (length s) ≡ true = demand_was _ 1 (or_else_fine_next (demand (buffer_ok form (length s) size) 14) _ clear) in
    let even : length s % size_of form ≡ 0 = eqb-true (length s % size_of form) 0 (both_first (eqb (length s % size_of form) 0) _ one) in
    record {
      least = within_low 1 4096 (length s / size_of form) (both_second (eqb (length s % size_of form) 0) _ one);
      most = within_high 1 4096 (length s / size_of form) (both_second (eqb (length s % size_of form) 0) _ one);
      whole = whole_records form (length s) even;
      fills = other_size form (length s) size even ok;
    }

-- nothing applies: the records can be moved
pub record Movable (form : Form) (s : List ℕ) (size : ℕ) : Type 0 where
  pub given : Lent form s size
  pub clear : (i : ℕ) → i < records_in (size_of form) s → move_fault form s i ≡ fine
  pub fits : (i : ℕ) → i < records_in (size_of form) s → run_ok (run_at form s i) ≡ true

pub movable : (form : Form) (s : List ℕ) (size : ℕ) → move_faults form s size ≡ fine → Movable form s size
unfolding move_fault record_fault
movable form s size is =
    let n : ℕ = records_in (size_of form) s in
    let two = sym (in_two form s size) ∙ is in
    let none : (i : ℕ) → i < n → move_fault form s i ≡ fine = λ i h. empty faults (move_fault form s) n 0 (or_else_fine_next (lent_fault form s size) _ two) i (omega arith) (omega arith) in
    record {
      given = lent form s size (or_else_fine_first (lent_fault form s size) _ two);
      clear = none;
      fits = λ i h. demand_at_was _ 5 (i + 1) (or_else_fine_first _ _ (or_else_fine_first (record_fault form s i (i + 1)) _ (none i h)));
    }

-- a short record counts whole pulses
pub short_whole : (s : List ℕ) (i : ℕ) → is_whole (run_at Short s i).pulses ≡ true
unfolding is_whole run_at run_from fields_from
short_whole s i = eq-eqb (long_at s (32 * i) * 1000 % 1000) 0 (omega arith)
