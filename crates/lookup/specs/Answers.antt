-- What a look-up answers, by the paper's order: 1, the records first to last with 32, 13, 33.
use Rattle.std.specs.Prelude.{◌&&◌, List, ℕ, ◌+◌, ℤ, length, Option, None, Some}
use Rattle.refusals.specs.Told.{Told, done, refused, Fault, demand, demand_at, or_else, unless}
use Rattle.ranges.specs.Table.{entries_ok}
use Rattle.octets.specs.FirstToLast.{scan, first_place}
use Rattle.octets.specs.Records.{records_in, are_records}
use Rattle.lookup.specs.HalfDegree.{half_degree, half_degree_signed}
use Rattle.lookup.specs.Table.{entry_at, record_ok, order_ok}
use Rattle.lookup.specs.Pair.{asked_ok, has_pair}
use Rattle.lookup.specs.declared.Entry.{Entry}

-- '32 for a faulty or disordered record with its place', from 1
unfoldable pub entry_fault : List ℕ → ℕ → Fault
entry_fault s i = demand_at (record_ok s i && order_ok s i) 32 (i + 1)

-- '1 for length', then the records first to last
unfoldable pub table_fault : List ℕ → Fault
table_fault s = or_else (demand (are_records entries_ok 8 (length s)) 1) (scan (entry_fault s) (records_in 8 s) 0)

-- 'The answer is the record with that pair'; '33 for no such pair'
abbrev pub record_found : List ℕ → Option ℕ → Told Entry
record_found s None = refused 33 0
record_found s (Some i) = done (entry_at s i)

unfoldable pub found_in : List ℕ → ℤ → ℕ → Told Entry
found_in s t g = record_found s (first_place (has_pair s t g) (records_in 8 s) 0)

-- '13 for the asked numbers', which 'go to the nearest half degree first'
unfoldable pub look_up_of : ℤ → ℕ → List ℕ → Told Entry
look_up_of t g s = unless (or_else (table_fault s) (demand (asked_ok t g) 13)) (found_in s (half_degree_signed t) (half_degree g))
