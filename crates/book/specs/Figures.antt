-- 01, 'The book', and 02, 'Places by agreement': the figures that belong to the book, and what waits in it.
use Rattle.std.specs.Prelude.{List, [], ℕ, ◌+◌, ◌-◌, length, get_or, set, replicate}
use Rattle.book.specs.Line.{waiting, line_of}
use Rattle.book.specs.declared.Book.{Book}
use Rattle.book.specs.declared.Figures.{Figures}
use Rattle.book.specs.declared.Line.{Line}

-- 'Shippers 0 to 3'
unfoldable pub shippers : ℕ
shippers = 4

-- a 'sum over shippers'
unfoldable pub over_shippers : (ℕ → ℕ) → ℕ
over_shippers of = of 0 + (of 1 + (of 2 + of 3))

-- 'Reserve and ceiling become figures per shipper': a shipper's own two
unfoldable pub reserve_in : Figures → ℕ → ℕ
reserve_in figures shipper = get_or figures.reserves shipper 0

unfoldable pub ceiling_in : Figures → ℕ → ℕ
ceiling_in figures shipper = get_or figures.ceilings shipper 0

-- places 16, for all shippers of a book together
unfoldable pub places : Book → ℕ
places book = 16

-- '.. kept in the book'
unfoldable pub reserve : Book → ℕ → ℕ
reserve book shipper = reserve_in book.figures shipper

unfoldable pub ceiling : Book → ℕ → ℕ
ceiling book shipper = ceiling_in book.figures shipper

-- 'commons the rest of 16': the places that are nobody's reserve
unfoldable pub commons : Book → ℕ
commons book = places book - over_shippers (reserve book)

-- The line of a shipper.
unfoldable pub line_at : Book → ℕ → Line
line_at book shipper = get_or book.lines shipper (record { numbers = []; count = 0 })

-- What a shipper has waiting, oldest first.
unfoldable pub waiting_of : Book → ℕ → List ℕ
waiting_of book shipper = waiting (line_at book shipper)

-- How many a shipper has waiting.
unfoldable pub has : Book → ℕ → ℕ
has book shipper = length (waiting_of book shipper)

-- How many wait in all.
unfoldable pub held : Book → ℕ
held book = over_shippers (has book)

-- 'what each has waiting beyond' its reserve: none where it has no more
unfoldable pub beyond : Book → ℕ → ℕ
beyond book shipper = has book shipper - reserve book shipper

-- 'Commons used = sum over shippers of what each has waiting beyond' its own reserve
unfoldable pub commons_used : Book → ℕ
commons_used book = over_shippers (beyond book)

-- The book with these numbers waiting for a shipper, and this last served; the other lines and the figures are as they were.
unfoldable pub put : Book → ℕ → List ℕ → ℕ → Book
put book shipper numbers last = record { lines = set book.lines shipper (line_of numbers); last = last; figures = book.figures }

-- 'The default is 2 and 8 for all.'
unfoldable pub default_figures : Figures
default_figures = record { reserves = replicate shippers 2; ceilings = replicate shippers 8 }

-- 'a new book has 3 as last served', 2 and 8 for all, and nothing waits in it
unfoldable pub empty_book : Book
empty_book = record { lines = replicate shippers (line_of []); last = 3; figures = default_figures }
