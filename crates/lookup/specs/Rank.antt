-- What the one pass over a table keeps of a record: one number, which rises where the paper's order does and is 0 of a faulty record. The
-- answers do not speak of it.
use Rattle.std.specs.Prelude.{Bool, false, cond, List, ℕ, ◌+◌, ◌*◌, eqb, ℤ, pos, nat_abs, ◌+ℤ◌, Option, None, Some}
use Rattle.lookup.specs.HalfDegree.{half_degree, half_degree_signed}
use Rattle.lookup.specs.Table.{entry_at, record_ok}
use Rattle.lookup.specs.Pair.{asked_ok}

-- of a pair: gravity first, and the temperature counted from -100.0 °F, so that none is below zero
unfoldable pub rank_of : ℤ → ℕ → ℕ
rank_of t g = 4096 * g + nat_abs (t +ℤ pos 1000)

-- of a record
unfoldable pub rank_at : List ℕ → ℕ → ℕ
rank_at s i = cond (record_ok s i) (rank_of (entry_at s i).temperature (entry_at s i).gravity) 0

-- of the pair asked for, each number at its half degree; 0 where one is out of range
unfoldable pub rank_asked : ℤ → ℕ → ℕ
rank_asked t g = cond (asked_ok t g) (rank_of (half_degree_signed t) (half_degree g)) 0

-- as the code has it: none where what is asked is out of range
unfoldable pub rank_if : Bool → ℕ → Option ℕ
rank_if ok rank = cond ok (Some rank) None

-- the record at a place has the number that is wanted
unfoldable pub is_wanted : List ℕ → Option ℕ → ℕ → Bool
is_wanted s None i = false
is_wanted s (Some rank) i = eqb rank (rank_at s i)
