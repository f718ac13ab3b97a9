-- 02, 'Longer run records, and the way back': a record in the other form.
use Rattle.std.specs.Prelude.{List, ◌++◌, ℕ, ◌+◌, ◌*◌, ◌/◌, take, drop, replicate}
use Rattle.octets.specs.Octets.{long_at, quad_at, bytes_of}
use Rattle.octets.specs.Records.{joined}
use Rattle.run.specs.declared.Form.{Form}
use Rattle.run.specs.declared.Form.TheVariants.{Short, Long}

-- 'pulses in thousandths (8 bytes ..), then the old bytes 4 to 31 at 8 to 35, then zeros': the short record at place i, counted from 0.
-- 'Moving an old file forward multiplies pulses by 1000'
unfoldable pub lengthened : List ℕ → ℕ → List ℕ
lengthened s i = bytes_of 8 (long_at s (32 * i) * 1000) ++ take 28 (drop (32 * i + 4) s) ++ replicate 12 0

-- the way back, of the long record at place i
unfoldable pub shortened : List ℕ → ℕ → List ℕ
shortened s i = bytes_of 4 (quad_at s (48 * i) / 1000) ++ take 28 (drop (48 * i + 8) s)

-- the other form
abbrev pub other : Form → Form
other Short = Long
other Long = Short

-- the record at place i, of the form that is lent, in the other
abbrev pub moved_at : Form → List ℕ → ℕ → List ℕ
moved_at Short s i = lengthened s i
moved_at Long s i = shortened s i

-- n records in the other form
abbrev pub moved_bytes : Form → List ℕ → ℕ → List ℕ
moved_bytes form s n = joined (moved_at form s) n
