-- Demand 1: 'it ends with either its result or one number from the table in document 01 .., with the record at fault where there is one.'
use Rattle.std.specs.Prelude.{◌≡◌, Bool, true, ◌&&◌, cond, List, [], ◌∷◌, ℕ, eqb}
use Rattle.octets.specs.Lists.{is_one_of}
use Rattle.ranges.specs.Within.{within}
use Rattle.refusals.specs.Table.{Row, plain, starred, row_of, cases}
use Rattle.refusals.specs.Told.{Told, done, refused}
use Rattle.refusals.specs.declared.Refusal.{Refusal}

-- 01, 'Numbers given back': those marked (*), read from the table
abbrev pub marked : Row → List ℕ → List ℕ
marked (plain number) rest = rest
marked (starred number at) rest = number ∷ rest

unfoldable pub marked_of : List Refusal → List ℕ
marked_of [] = []
marked_of (refusal ∷ rest) = marked (row_of refusal) (marked_of rest)

-- '(*) carries the record, from 1; others carry 0': a starred number carries one of the records that were handed over, which are
-- `first` to `last`: 1 to their count where records are lent, and 0 to 0 where an entry takes none
unfoldable pub record_ok : ℕ → ℕ → ℕ → ℕ → Bool
record_ok first last number at = cond (is_one_of number (marked_of (cases 0))) (within first last at) (eqb at 0)

-- the number is on the entry's own list, and its record is as the table has it
unfoldable pub refusal_ok : List ℕ → ℕ → ℕ → ℕ → ℕ → Bool
refusal_ok numbers first last number at = is_one_of number numbers && record_ok first last number at

abbrev pub Gives : {A : Type 0} → List ℕ → ℕ → ℕ → Told A → Type 0
Gives numbers first last (done result) = Unit {0}
Gives numbers first last (refused number at) = refusal_ok numbers first last number at ≡ true

-- 'it ends with either its result or one number from the table'
pub record Ends {A : Type 0} (numbers : List ℕ) (first last : ℕ) (t : Told A) : Type 0 where
  pub gives : Gives numbers first last t
