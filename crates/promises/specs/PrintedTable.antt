-- 02, 'Look up compressibility', in words: a table in order, a record that holds a pair, what a look-up answers and why it is refused. Places
-- count from 0, records from 1.
use Rattle.std.specs.Prelude.{◌≡◌, true, false, ◌&&◌, List, ℕ, ◌+◌, ◌*◌, ◌≤◌, ◌<◌, ℤ, nat_abs, ◌-ℤ◌, length}
use Rattle.ranges.specs.Table.{compressibility_ok, entries_ok}
use Rattle.octets.specs.Octets.{word_at}
use Rattle.octets.specs.Records.{records_in}
use Rattle.lookup.specs.HalfDegree.{half_degree, half_degree_signed, on_half_degree_signed}
use Rattle.lookup.specs.Table.{entry_at, record_ok, order_ok}
use Rattle.lookup.specs.Pair.{asked_ok}
use Rattle.lookup.specs.declared.Entry.{Entry}
use Rattle.promises.specs.Records.{Lent, Every}

-- how far apart two numbers of tenths are
abbrev pub apart : ℤ → ℤ → ℕ
apart t u = nat_abs (t -ℤ u)

-- h is the multiple of 5 tenths nearest to t, and no other is as near
pub record NearestHalf (t h : ℤ) : Type 0 where
  pub multiple : on_half_degree_signed h ≡ true
  pub nearest : (other : ℤ) → on_half_degree_signed other ≡ true → apart t h ≤ apart t other
  pub only : (other : ℤ) → on_half_degree_signed other ≡ true → apart t other ≤ apart t h → other ≡ h

-- a record without fault, behind the one before it
pub record RecordInOrder (s : List ℕ) (i : ℕ) : Type 0 where
  pub faultless : record_ok s i ≡ true
  pub ordered : order_ok s i ≡ true

-- a table 'of 8 bytes' a record, one to 4,096 of them, none faulty and each in its order
pub record TableInOrder (s : List ℕ) : Type 0 where
  pub lent : Lent entries_ok 8 s
  pub records : Every (records_in 8 s) (RecordInOrder s)

-- the record at a place of the table has this pair
pub record Holds (s : List ℕ) (t : ℤ) (g i : ℕ) : Type 0 where
  pub inside : i < records_in 8 s
  pub temperature : (entry_at s i).temperature ≡ t
  pub gravity : (entry_at s i).gravity ≡ g

-- the place of the pair asked for, 'each to the nearest half degree first'
abbrev pub Sought : ℤ → ℕ → List ℕ → ℕ → Type 0
Sought t g s = Holds s (half_degree_signed t) (half_degree g)

-- what is asked can be answered: the table is in order, the numbers are in range, and a record has the pair
pub record Answerable (t : ℤ) (g : ℕ) (s : List ℕ) : Type 0 where
  pub table : TableInOrder s
  pub asked : asked_ok t g ≡ true
  pub place : ℕ
  pub sought : Sought t g s place

-- 'The answer is the record with that pair'
pub record Answers (t : ℤ) (g : ℕ) (s : List ℕ) (entry : Entry) : Type 0 where
  pub answerable : Answerable t g s
  pub is : entry ≡ entry_at s answerable.place

-- why it is refused: '1 for length, 32 for a faulty or disordered record with its place, 13 for the asked numbers, 33 for no such pair, in
-- that order'
pub data LookUpCause (t : ℤ) (g : ℕ) (s : List ℕ) : ℕ → ℕ → Type 0 where
  records_lent : (Lent entries_ok 8 s → ⊥) → LookUpCause t g s 1 0
  faulty_or_disordered : Lent entries_ok 8 s → (i : ℕ) → i < records_in 8 s → Every i (RecordInOrder s)
      → (record_ok s i && order_ok s i) ≡ false → LookUpCause t g s 32 (i + 1)
  asked_numbers : TableInOrder s → asked_ok t g ≡ false → LookUpCause t g s 13 0
  no_such_pair : TableInOrder s → asked_ok t g ≡ true → ((i : ℕ) → Sought t g s i → ⊥) → LookUpCause t g s 33 0

-- two tables that differ in F alone, which is in range in both or in neither, and not in the F of the record sought
pub record OtherwiseSame (t : ℤ) (g : ℕ) (s s' : List ℕ) : Type 0 where
  pub long : length s ≡ length s'
  pub temperature : (i : ℕ) → (entry_at s i).temperature ≡ (entry_at s' i).temperature
  pub gravity : (i : ℕ) → (entry_at s i).gravity ≡ (entry_at s' i).gravity
  pub last : (i : ℕ) → word_at s (8 * i + 6) ≡ word_at s' (8 * i + 6)
  pub range : (i : ℕ) → compressibility_ok (entry_at s i).compressibility ≡ compressibility_ok (entry_at s' i).compressibility
  pub found : (i : ℕ) → Sought t g s i → (entry_at s i).compressibility ≡ (entry_at s' i).compressibility
