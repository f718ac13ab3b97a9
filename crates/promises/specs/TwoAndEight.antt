-- 02, 'Places by agreement': 'The default is 2 and 8 for all.' 01 knows no other figures. Here stand 01's own definitions of the book, each under
-- today's name with 01 behind it, and that a book with the default figures is judged and answered as 01 does, and left as 01 leaves it.
use Rattle.std.specs.Prelude.{◌≡◌, Bool, ◌&&◌, ◌||◌, not, ℕ, ◌-◌, leb, ltb, eqb, length}
use Rattle.refusals.specs.Told.{Told, Fault, demand, or_else, unless, judged, left_by}
use Rattle.octets.specs.FirstToLast.{holds_all}
use Rattle.octets.specs.Lists.{is_one_of}
use Rattle.book.specs.Figures.{shippers, over_shippers, line_at, waiting_of, has, default_figures}
use Rattle.book.specs.Sound.{is_line_sound, is_sound}
use Rattle.book.specs.declared.Handed.{Handed}
use Rattle.book.specs.Calls.{request_of, entered, after_request, withdrawal_of, removed, after_withdrawal, next_turn, handed_out, take_of, after_take}
use Rattle.book.specs.declared.Book.{Book}

-- 'Commons used = sum over shippers of what each has waiting beyond 2.'
unfoldable pub commons_used01 : Book → ℕ
commons_used01 book = over_shippers (λ shipper. has book shipper - 2)

-- 'sound when counts and commons keep these figures', ceiling 8 and commons 8, '.. and the last served is 0 to 3'
unfoldable pub is_sound_at01 : Book → ℕ → Bool
is_sound_at01 book shipper = is_line_sound 8 (line_at book shipper)

unfoldable pub is_sound01 : Book → Bool
is_sound01 book =
    eqb (length book.lines) shippers
    && (holds_all (is_sound_at01 book) shippers 0
    && (leb (commons_used01 book) 8 && ltb book.last shippers))

-- 20, 21 and 22
unfoldable pub call_fault01 : Book → ℕ → ℕ → Fault
call_fault01 book shipper number =
    or_else (demand (is_sound01 book) 20)
    (or_else (demand (ltb shipper shippers) 21)
    (demand (not (eqb number 0)) 22))

-- 23, 24, 'ceiling reached', and 25, 'has 2 or more and commons full'
unfoldable pub entry_fault01 : Book → ℕ → ℕ → Fault
entry_fault01 book shipper number =
    or_else (demand (not (is_one_of number (waiting_of book shipper))) 23)
    (or_else (demand (ltb (has book shipper) 8) 24)
    (demand (ltb (has book shipper) 2 || ltb (commons_used01 book) 8) 25))

unfoldable pub request_of01 : Book → ℕ → ℕ → Told Unit
request_of01 book shipper number = judged (or_else (call_fault01 book shipper number) (entry_fault01 book shipper number)) tt

-- 'a withdrawal 20, 21, 22, 26'
unfoldable pub withdrawal_of01 : Book → ℕ → ℕ → Told Unit
withdrawal_of01 book shipper number =
    judged (or_else (call_fault01 book shipper number)
    (demand (is_one_of number (waiting_of book shipper)) 26)) tt

-- 'a take 20, 27'
unfoldable pub take_of01 : Book → Told Handed
take_of01 book = unless (demand (is_sound01 book) 20) (handed_out book (next_turn book))

pub record TwoAndEight : Type 0 where
  pub sound_as_in_01 : (book : Book) → book.figures ≡ default_figures → is_sound book ≡ is_sound01 book
  pub requests_as_in_01 : (book : Book) (shipper number : ℕ) → book.figures ≡ default_figures → request_of book shipper number ≡ request_of01 book shipper number
  pub withdrawals_as_in_01 : (book : Book) (shipper number : ℕ) → book.figures ≡ default_figures → withdrawal_of book shipper number ≡ withdrawal_of01 book shipper number
  pub takes_as_in_01 : (book : Book) → book.figures ≡ default_figures → take_of book ≡ take_of01 book
  -- the book left: as found where 01 refuses, and with the default figures again
  pub request_leaves_as_in_01 : (book : Book) (shipper number : ℕ) → book.figures ≡ default_figures
      → (after_request book shipper number ≡ left_by (request_of01 book shipper number) (λ (made : Unit). entered book shipper number) book) × ((after_request book shipper number).figures ≡ default_figures)
  pub withdrawal_leaves_as_in_01 : (book : Book) (shipper number : ℕ) → book.figures ≡ default_figures
      → (after_withdrawal book shipper number ≡ left_by (withdrawal_of01 book shipper number) (λ (made : Unit). removed book shipper number book.last) book)
      × ((after_withdrawal book shipper number).figures ≡ default_figures)
  pub take_leaves_as_in_01 : (book : Book) → book.figures ≡ default_figures
      → (after_take book ≡ left_by (take_of01 book) (λ (handed : Handed). removed book handed.shipper handed.number handed.shipper) book) × ((after_take book).figures ≡ default_figures)
