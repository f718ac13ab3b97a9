-- 01, 'The book', and 02, 'Places by agreement': what a request, a withdrawal, a take and a setting answer, and the book that each leaves.
use Rattle.std.specs.Prelude.{Bool, ◌||◌, not, [], ◌∷◌, ◌++◌, ℕ, ◌+◌, ◌%◌, ltb, eqb, get_or, Option, None, Some}
use Rattle.refusals.specs.Told.{Told, done, refused, Fault, demand, or_else, unless, judged, left_by}
use Rattle.octets.specs.FirstToLast.{first_place}
use Rattle.octets.specs.Lists.{is_one_of}
use Rattle.book.specs.Line.{without}
use Rattle.book.specs.Figures.{shippers, reserve, ceiling, commons, waiting_of, has, held, commons_used, put}
use Rattle.book.specs.Rules.{keep_rules}
use Rattle.book.specs.Sound.{is_sound}
use Rattle.book.specs.declared.Handed.{Handed}
use Rattle.book.specs.declared.Shared.{Shared}
use Rattle.book.specs.declared.Book.{Book}
use Rattle.book.specs.declared.Figures.{Figures}

-- 'a request 20 to 25; a withdrawal 20, 21, 22, 26': the first three are the same.
unfoldable pub call_fault : Book → ℕ → ℕ → Fault
call_fault book shipper number =
    or_else (demand (is_sound book) 20)
    (or_else (demand (ltb shipper shippers) 21)
    (demand (not (eqb number 0)) 22))

-- 25: has its reserve 'or more and commons full'
unfoldable pub has_room : Book → ℕ → Bool
has_room book shipper = ltb (has book shipper) (reserve book shipper) || ltb (commons_used book) (commons book)

-- 23, 24 and 25: what its own line and the commons say of a request
unfoldable pub entry_fault : Book → ℕ → ℕ → Fault
entry_fault book shipper number =
    or_else (demand (not (is_one_of number (waiting_of book shipper))) 23)
    (or_else (demand (ltb (has book shipper) (ceiling book shipper)) 24)
    (demand (has_room book shipper) 25))

-- 'A request goes in exactly when none of 20 to 25 applies', lowest number first.
unfoldable pub request_fault : Book → ℕ → ℕ → Fault
request_fault book shipper number = or_else (call_fault book shipper number) (entry_fault book shipper number)

unfoldable pub request_of : Book → ℕ → ℕ → Told Unit
request_of book shipper number = judged (request_fault book shipper number) tt

-- The book with the request waiting behind those of its own shipper.
unfoldable pub entered : Book → ℕ → ℕ → Book
entered book shipper number = put book shipper (waiting_of book shipper ++ (number ∷ [])) book.last

unfoldable pub after_request : Book → ℕ → ℕ → Book
after_request book shipper number = left_by (request_of book shipper number) (λ (made : Unit). entered book shipper number) book

-- 'a withdrawal 20, 21, 22, 26'
unfoldable pub withdrawal_fault : Book → ℕ → ℕ → Fault
withdrawal_fault book shipper number =
    or_else (call_fault book shipper number)
    (demand (is_one_of number (waiting_of book shipper)) 26)

unfoldable pub withdrawal_of : Book → ℕ → ℕ → Told Unit
withdrawal_of book shipper number = judged (withdrawal_fault book shipper number) tt

-- The book without the request, the rest of its shipper's in their order, and with this last served.
unfoldable pub removed : Book → ℕ → ℕ → ℕ → Book
removed book shipper number last = put book shipper (without number (waiting_of book shipper)) last

unfoldable pub after_withdrawal : Book → ℕ → ℕ → Book
after_withdrawal book shipper number = left_by (withdrawal_of book shipper number) (λ (made : Unit). removed book shipper number book.last) book

-- 'going round from the one after the last served', who has turn 1: the shipper of a turn
unfoldable pub of_turn : Book → ℕ → ℕ
of_turn book turn = (book.last + turn) % shippers

-- Something waits for the shipper of a turn.
unfoldable pub has_any : Book → ℕ → Bool
has_any book turn = ltb 0 (has book (of_turn book turn))

-- 'the first shipper with any': the first of the four turns whose shipper has any
unfoldable pub next_turn : Book → Option ℕ
next_turn book = first_place (has_any book) shippers 1

-- 'the oldest request' of a shipper
unfoldable pub oldest_of : Book → ℕ → Handed
oldest_of book shipper = record { shipper = shipper; number = get_or (waiting_of book shipper) 0 0 }

-- 'A take hands out the oldest request of the first shipper with any'; 27 where none has
unfoldable pub handed_out : Book → Option ℕ → Told Handed
handed_out book None = refused 27 0
handed_out book (Some turn) = done (oldest_of book (of_turn book turn))

-- 'a take 20, 27'
unfoldable pub take_of : Book → Told Handed
take_of book = unless (demand (is_sound book) 20) (handed_out book (next_turn book))

-- 'only a take that hands one out changes' the last served
unfoldable pub after_take : Book → Book
after_take book = left_by (take_of book) (λ (handed : Handed). removed book handed.shipper handed.number handed.shipper) book

-- '30 for setting a book that isn't empty, 31 for figures outside the rules, after 20'
unfoldable pub setting_fault : Book → Figures → Fault
setting_fault book figures =
    or_else (demand (is_sound book) 20)
    (or_else (demand (eqb (held book) 0) 30)
    (demand (keep_rules figures) 31))

unfoldable pub setting_of : Book → Figures → Told Unit
setting_of book figures = judged (setting_fault book figures) tt

-- 'the turn order is kept', and the lines stay empty
unfoldable pub agreed : Book → Figures → Book
agreed book figures = record { lines = book.lines; last = book.last; figures = figures }

unfoldable pub after_setting : Book → Figures → Book
after_setting book figures = left_by (setting_of book figures) (λ (made : Unit). agreed book figures) book

-- what the commons are asked: 20 for a book that isn't sound
unfoldable pub commons_of : Book → Told Shared
commons_of book = judged (demand (is_sound book) 20) (record { commons = commons book; used = commons_used book })
