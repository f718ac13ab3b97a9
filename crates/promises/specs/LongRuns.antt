-- 02, 'Longer run records, and the way back': 'the same runs get the same report', and the round trips, of the contracts themselves: what one
-- entry leaves is lent to another. `f.Post κ a r x` is what f ensures of the arguments a at entry, the answer r and the arguments x at exit. The
-- arguments of `forward` and `back` are records and buffer; of `prove` request, prover, K, limit, form, records and buffer. That a byte is of 8
-- bits, as its type has it, is said where it is used.
use Rattle.std.specs.Prelude.{◌≡◌, true, false, ◌↔◌, List, ℕ, ◌+◌, ◌*◌, ◌<◌, length}
use Rattle.refusals.specs.Told.{done, refused}
use Rattle.octets.specs.Octets.{long_at, quad_at}
use Rattle.octets.specs.Records.{records_in}
use Rattle.octets.proofs.Laws.{Bytes}
use Rattle.ranges.specs.Within.{within}
use Rattle.ranges.specs.Table.{pulses_ok, moved_ok}
use Rattle.exact.specs.Rounding.{rounded, ◌over◌}
use Rattle.run.specs.Record.{size_of, run_at, run_ok, unnamed_ok}
use Rattle.run.specs.Figures.{indicated}
use Rattle.run.specs.declared.Form.{Form}
use Rattle.run.specs.declared.Form.TheVariants.{Short, Long}
use Rattle.moving.specs.Judging.{buffer_ok, is_whole}
use Rattle.moving.proofs.forward.Reads as forward
use Rattle.moving.proofs.back.Reads as back
use Rattle.proving.proofs.prove.Reads as prove
use Rattle.promises.specs.Arguments.{first, second, third, fourth, fifth, sixth, seventh}
use Rattle.promises.specs.Records.{Lent, Every}
use Rattle.promises.specs.Proving.{RunInOrder}
use Rattle.promises.specs.ExactCauses.{OneCause}
use Rattle.refusals.specs.Answered.{told}

-- 14 and 1 don't apply: the buffer is as long as the other form, and 1 to 4,096 whole records are lent
pub record GivenToMove (form : Form) (s : List ℕ) (size : ℕ) : Type 0 where
  pub buffer : buffer_ok form (length s) size ≡ true
  pub lent : Lent moved_ok (size_of form) s

-- nor 5, 2 and 36 for the record at place i, counted from 0
pub record RecordMoves (form : Form) (s : List ℕ) (i : ℕ) : Type 0 where
  pub in_order : RunInOrder form s i
  pub count : is_whole (run_at form s i).pulses ≡ true

-- all that a move takes
pub record Moves (form : Form) (s : List ℕ) (size : ℕ) : Type 0 where
  pub given : GivenToMove form s size
  pub records : Every (records_in (size_of form) s) (RecordMoves form s)

-- '14, first of all'; 'moving checks fields and zeros as a job does (1, 5, 2); 36 with the record, after its 2, where the count isn't whole': each
-- where nothing before it applies
pub data MoveCause (form : Form) (s : List ℕ) (size : ℕ) : ℕ → ℕ → Type 0 where
  buffer_length : buffer_ok form (length s) size ≡ false → MoveCause form s size 14 0
  records_lent : buffer_ok form (length s) size ≡ true → (Lent moved_ok (size_of form) s → ⊥) → MoveCause form s size 1 0
  record_field : GivenToMove form s size → (i : ℕ) → i < records_in (size_of form) s → Every i (RecordMoves form s) → run_ok (run_at form s i) ≡ false → MoveCause form s size 5 (i + 1)
  unnamed_byte : GivenToMove form s size → (i : ℕ) → i < records_in (size_of form) s → Every i (RecordMoves form s)
      → run_ok (run_at form s i) ≡ true → unnamed_ok form s i ≡ false → MoveCause form s size 2 (i + 1)
  not_whole : GivenToMove form s size → (i : ℕ) → i < records_in (size_of form) s → Every i (RecordMoves form s)
      → RunInOrder form s i → is_whole (run_at form s i).pulses ≡ false → MoveCause form s size 36 (i + 1)

pub record LongRuns : Type 0 where
  -- a run is held in thousandths: 01's record counts whole pulses, and the long one thousandths
  pub short_pulses : (s : List ℕ) (i : ℕ) → (run_at Short s i).pulses ≡ long_at s (32 * i) * 1000
  pub long_pulses : (s : List ℕ) (i : ℕ) → (run_at Long s i).pulses ≡ quad_at s (48 * i)
  -- of whole pulses the range is 01's, 1 to 100,000,000, and the indicated volume too: pulses ÷ K, with K in 0.001 pulse per barrel
  pub whole_range : (pulses : ℕ) → pulses_ok (pulses * 1000) ≡ within 1 100000000 pulses
  pub whole_indicated : (pulses k : ℕ) → indicated (pulses * 1000) k ≡ rounded 4 (pulses * 1000 over k)
  -- a move is made or refused, for one cause; and the two entries move exactly then, and refuse exactly for that cause
  pub one_of_move : (form : Form) (s : List ℕ) (size : ℕ) → OneCause (Moves form s size) (MoveCause form s size)
  pub forward_exactly : (κ : _) (a : _) (r : _) (x : _) (number at : ℕ) → forward.Post κ a r x → (told r ≡ refused number at) ↔ MoveCause Short (first a).now (length (second a).now) number at
  pub back_exactly : (κ : _) (a : _) (r : _) (x : _) (number at : ℕ) → back.Post κ a r x → (told r ≡ refused number at) ↔ MoveCause Long (first a).now (length (second a).now) number at
  -- 'Moving an old file forward .. loses nothing': no record that a job takes is refused on the way forward, since 36 is the way back's
  pub forward_whole : (s : List ℕ) (i : ℕ) → is_whole (run_at Short s i).pulses ≡ true
  -- 'Forward then back gives the old bytes', into any buffer as long as they were;
  pub forward_then_back : (κ : _) (a : _) (r : _) (x : _) (κ' : _) (b : _) (q : _) (y : _) {count : ℕ} → forward.Post κ a r x → back.Post κ' b q y → Bytes (first a).now
      → told r ≡ done count → (first b).now ≡ (second x).now → length (second b).now ≡ length (first a).now → (told q ≡ done count) × ((second y).now ≡ (first a).now)
  -- 'back then forward, where allowed, the new ones'
  pub back_then_forward : (κ : _) (a : _) (r : _) (x : _) (κ' : _) (b : _) (q : _) (y : _) {count : ℕ} → back.Post κ a r x → forward.Post κ' b q y → Bytes (first a).now
      → told r ≡ done count → (first b).now ≡ (second x).now → length (second b).now ≡ length (first a).now → (told q ≡ done count) × ((second y).now ≡ (first a).now)
  -- 'the same runs get the same report': a job over records moved forward answers as the job over the old ones, and leaves the same bytes
  pub same_report : (κ : _) (a : _) (r : _) (x : _) (κ' : _) (b : _) (q : _) (y : _) (κ'' : _) (c : _) (o : _) (z : _) {count : ℕ} → forward.Post κ a r x → prove.Post κ' b q y → prove.Post κ'' c o z
      → told r ≡ done count → first c ≡ first b → second c ≡ second b → third c ≡ third b → fourth c ≡ fourth b → (seventh c).now ≡ (seventh b).now
      → fifth b ≡ Short → (sixth b).now ≡ (first a).now → fifth c ≡ Long → (sixth c).now ≡ (second x).now → (o ≡ q) × ((seventh z).now ≡ (seventh y).now)
