-- 01, 'Records': records of one size, one behind the other, with no header.
use Rattle.std.specs.Prelude.{Bool, ◌&&◌, List, [], ◌++◌, ℕ, zero, suc, ◌-◌, ◌/◌, ◌%◌, eqb, length, replicate}

-- how many records of a size are lent
unfoldable pub records_in : ℕ → List ℕ → ℕ
records_in size s = length s / size

-- 1: 'lent records not whole, or too few or many', by the count's range, a record's size and the length of what is lent
unfoldable pub are_records : (ℕ → Bool) → ℕ → ℕ → Bool
are_records count_ok size lent = eqb (lent % size) 0 && count_ok (lent / size)

-- n records, one behind the other: those before, and then the last
unfoldable pub joined : (ℕ → List ℕ) → ℕ → List ℕ
joined record_at zero = []
joined record_at (suc n) = joined record_at n ++ record_at n

-- a list in n places: zeros after its last
unfoldable pub zeros_after : ℕ → List ℕ → List ℕ
zeros_after n xs = xs ++ replicate (n - length xs) 0
