-- What waits in a shipper's line, oldest first, and the record that keeps it.
use Rattle.std.specs.Prelude.{Bool, true, ◌&&◌, not, cond, List, [], ◌∷◌, ◌++◌, ℕ, ◌-◌, eqb, length, take, replicate}
use Rattle.octets.specs.Lists.{is_one_of}
use Rattle.book.specs.declared.Line.{Line}

-- How many numbers a line's record has room for, whatever places its shipper has in the book.
abbrev pub width : ℕ
width = 16

-- The numbers that wait in a line, oldest first.
unfoldable pub waiting : Line → List ℕ
waiting line = take line.count line.numbers

-- The line in which these numbers wait: 'unused places are zero'.
unfoldable pub line_of : List ℕ → Line
line_of numbers = record { numbers = numbers ++ replicate (width - length numbers) 0; count = length numbers }

-- 'A withdrawal removes that number from its shipper's line and keeps the order of the rest.'
unfoldable pub without : ℕ → List ℕ → List ℕ
without number [] = []
without number (first ∷ rest) = cond (eqb number first) rest (first ∷ without number rest)

-- 'waiting numbers are non-zero and differ within a shipper'
unfoldable pub are_proper : List ℕ → Bool
are_proper [] = true
are_proper (first ∷ rest) = not (eqb first 0) && (not (is_one_of first rest) && are_proper rest)
