-- 02, 'Look up compressibility': the printed 11.2.1 table as it is lent, where a record's numbers stand in its 8 bytes, and what it must hold.
use Rattle.std.specs.Prelude.{Bool, true, ◌&&◌, ◌||◌, List, ℕ, zero, suc, ◌+◌, ◌*◌, ltb, eqb}
use Rattle.std.specs.Int.Signed.{lt_z}
use Rattle.ranges.specs.Table.{temperature_ok, compressibility_ok, gravity_ok}
use Rattle.octets.specs.Octets.{word_at, signed_at}
use Rattle.lookup.specs.HalfDegree.{on_half_degree, on_half_degree_signed}
use Rattle.lookup.specs.declared.Entry.{Entry}

-- 'temperature in tenths (signed 2), API gravity in tenths (2), F in 10^-8 (2)'
unfoldable pub entry_from : List ℕ → ℕ → Entry
entry_from s at = record { temperature = signed_at s at; gravity = word_at s (at + 2); compressibility = word_at s (at + 4) }

-- 'records of 8 bytes': the record at a place, from 0
unfoldable pub entry_at : List ℕ → ℕ → Entry
entry_at s i = entry_from s (8 * i)

-- 'faulty if a field is out of range, a temperature or gravity isn't on a half degree'
unfoldable pub entry_ok : Entry → Bool
entry_ok entry =
    temperature_ok entry.temperature
    && (gravity_ok entry.gravity
    && (compressibility_ok entry.compressibility
    && (on_half_degree_signed entry.temperature
    && on_half_degree entry.gravity)))

-- 'or its last two bytes aren't zero'
unfoldable pub record_ok : List ℕ → ℕ → Bool
record_ok s i = entry_ok (entry_at s i) && eqb (word_at s (8 * i + 6)) 0

-- 'rising by gravity and then temperature, no pair twice'
unfoldable pub follows : Entry → Entry → Bool
follows before entry = ltb before.gravity entry.gravity || (eqb before.gravity entry.gravity && lt_z before.temperature entry.temperature)

-- each record but the first follows the one before it
unfoldable pub order_ok : List ℕ → ℕ → Bool
order_ok s zero = true
order_ok s (suc i) = follows (entry_at s i) (entry_at s (suc i))
