-- 01, 'The book', and 02, 'Places by agreement': when a book offered from outside is sound. Its record has the shape that every machine gives it: a line for each
-- shipper, each as wide as a line is.
use Rattle.std.specs.Prelude.{Bool, ◌&&◌, ℕ, leb, ltb, eqb, length}
use Rattle.octets.specs.FirstToLast.{holds_all}
use Rattle.octets.specs.Octets.{zero_between}
use Rattle.book.specs.Line.{width, waiting, are_proper}
use Rattle.book.specs.Figures.{shippers, ceiling, commons, line_at, commons_used}
use Rattle.book.specs.Rules.{keep_rules}
use Rattle.book.specs.declared.Book.{Book}
use Rattle.book.specs.declared.Line.{Line}

-- The count keeps the ceiling, 'waiting numbers are non-zero and differ within a shipper, unused places are zero'.
unfoldable pub is_line_sound : ℕ → Line → Bool
is_line_sound ceiling line =
    eqb (length line.numbers) width
    && (leb line.count ceiling
    && (are_proper (waiting line) && zero_between line.numbers line.count width))

-- a shipper's line, with the shipper's own ceiling
unfoldable pub is_sound_at : Book → ℕ → Bool
is_sound_at book shipper = is_line_sound (ceiling book shipper) (line_at book shipper)

-- every shipper's line
unfoldable pub are_lines_sound : Book → Bool
are_lines_sound book = holds_all (is_sound_at book) shippers 0

-- 'A book with figures outside these rules isn't sound'; 'counts and commons keep these figures, .. and the last served is 0 to 3'
unfoldable pub is_sound : Book → Bool
is_sound book =
    eqb (length book.lines) shippers
    && (keep_rules book.figures
    && (are_lines_sound book
    && (leb (commons_used book) (commons book) && ltb book.last shippers)))
