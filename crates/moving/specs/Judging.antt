-- 02, 'Longer run records, and the way back': what a move judges before any byte is written, in its order.
use Rattle.std.specs.Prelude.{Bool, List, ℕ, ◌+◌, ◌*◌, ◌%◌, eqb, length}
use Rattle.refusals.specs.Told.{Told, Fault, demand, demand_at, or_else, judged}
use Rattle.ranges.specs.Table.{moved_ok}
use Rattle.octets.specs.FirstToLast.{scan}
use Rattle.octets.specs.Records.{records_in, are_records}
use Rattle.run.specs.Record.{size_of, run_at}
use Rattle.run.specs.Answers.{record_fault}
use Rattle.run.specs.declared.Form.{Form}
use Rattle.run.specs.declared.Form.TheVariants.{Short, Long}

-- 'twice the longer form's buffer length is three times the shorter form's'
unfoldable pub lengths_ok : ℕ → ℕ → Bool
lengths_ok long short = eqb (2 * long) (3 * short)

-- 14, by the form that is lent, how long that is, and the buffer's size
abbrev pub buffer_ok : Form → ℕ → ℕ → Bool
buffer_ok Short lent size = lengths_ok size lent
buffer_ok Long lent size = lengths_ok lent size

-- a count in thousandths is whole
unfoldable pub is_whole : ℕ → Bool
is_whole thousandths = eqb (thousandths % 1000) 0

-- 'moving checks fields and zeros as a job does'; '36 with the record, after its 2, where the count isn't whole': the record at place i,
-- counted from 0. A short record counts whole pulses, so that 36 is the way back's
unfoldable pub move_fault : Form → List ℕ → ℕ → Fault
move_fault form s i = or_else (record_fault form s i (i + 1)) (demand_at (is_whole (run_at form s i).pulses) 36 (i + 1))

-- '14, first of all'; then 1, then the records first to last; `size` is the buffer's
unfoldable pub move_faults : Form → List ℕ → ℕ → Fault
move_faults form s size =
    or_else (demand (buffer_ok form (length s) size) 14)
    (or_else (demand (are_records moved_ok (size_of form) (length s)) 1)
    (scan (move_fault form s) (records_in (size_of form) s) 0))

-- how many records are moved, or why none is
unfoldable pub move_of : Form → List ℕ → ℕ → Told ℕ
move_of form s size = judged (move_faults form s size) (records_in (size_of form) s)
