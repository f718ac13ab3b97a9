-- Demand 3: 'any requests, withdrawals and takes in any order', and figures set between. What a sequence of calls does to a book, and what
-- becomes of a request.
use Rattle.std.specs.Prelude.{◌≡◌, Bool, true, false, ◌&&◌, cond, List, [], ◌∷◌, ℕ, suc, ◌+◌, ◌≤◌, ◌<◌, eqb}
use Rattle.refusals.specs.Told.{Told, done, refused, judged}
use Rattle.book.specs.Figures.{held}
use Rattle.book.specs.Sound.{is_sound}
use Rattle.book.specs.declared.Handed.{Handed}
use Rattle.book.specs.Calls.{request_fault, after_request, withdrawal_fault, after_withdrawal, take_of, after_take, setting_fault, after_setting}
use Rattle.book.specs.declared.Book.{Book}
use Rattle.book.specs.declared.Figures.{Figures}

-- 'a sound, empty book': nothing waits in it, whoever was served last and whatever its figures are
pub record SoundEmpty (book : Book) : Type 0 where
  pub sound : is_sound book ≡ true
  pub empty : held book ≡ 0

-- A call on the book: a shipper's request or withdrawal of a number, a take, or the setting of figures.
pub data Call : Type 0 where
  request : ℕ → ℕ → Call
  withdrawal : ℕ → ℕ → Call
  take : Call
  setting : Figures → Call

-- What any call is answered: the request that went in, was withdrawn or was handed out; or the number of the refusal. Where figures were set
-- it is about no request: its number is 0, which no request has.
abbrev pub Answer : Type 0
Answer = Told Handed

abbrev pub no_request : Handed
no_request = record { shipper = 0; number = 0 }

unfoldable pub answer_to : Call → Book → Answer
answer_to (request shipper number) book = judged (request_fault book shipper number) (record { shipper = shipper; number = number })
answer_to (withdrawal shipper number) book = judged (withdrawal_fault book shipper number) (record { shipper = shipper; number = number })
answer_to take book = take_of book
answer_to (setting figures) book = judged (setting_fault book figures) no_request

-- The book that a call leaves.
unfoldable pub after : Call → Book → Book
after (request shipper number) book = after_request book shipper number
after (withdrawal shipper number) book = after_withdrawal book shipper number
after take book = after_take book
after (setting figures) book = after_setting book figures

-- The book that a sequence of calls leaves.
unfoldable pub after_all : List Call → Book → Book
after_all [] book = book
after_all (call ∷ calls) book = after_all calls (after call book)

-- A call that was made, with what it was answered.
pub data Step : Type 0 where
  step : Call → Answer → Step

-- What a sequence of calls is answered, from a book on.
unfoldable pub answers_to : List Call → Book → List Step
answers_to [] book = []
answers_to (call ∷ calls) book = step call (answer_to call book) ∷ answers_to calls (after call book)

-- How many takes were made.
unfoldable pub takes : List Step → ℕ
takes [] = 0
takes (step (request shipper number) answer ∷ steps) = takes steps
takes (step (withdrawal shipper number) answer ∷ steps) = takes steps
takes (step take answer ∷ steps) = suc (takes steps)
takes (step (setting figures) answer ∷ steps) = takes steps

-- No figures were set between.
unfoldable pub NoneSet : List Step → Type 0
NoneSet [] = Unit {0}
NoneSet (step (request shipper number) answer ∷ steps) = NoneSet steps
NoneSet (step (withdrawal shipper number) answer ∷ steps) = NoneSet steps
NoneSet (step take answer ∷ steps) = NoneSet steps
NoneSet (step (setting figures) answer ∷ steps) = ⊥

-- The answer is that this request went in, was withdrawn or was handed out.
abbrev pub grants : ℕ → ℕ → Answer → Bool
grants shipper number (done handed) = eqb shipper handed.shipper && eqb number handed.number
grants shipper number (refused n at) = false

-- At this step the shipper's request of the number goes in.
unfoldable pub is_going_in : ℕ → ℕ → Step → Bool
is_going_in shipper number (step (request s x) answer) = grants shipper number answer
is_going_in shipper number (step (withdrawal s x) answer) = false
is_going_in shipper number (step take answer) = false
is_going_in shipper number (step (setting figures) answer) = false

-- At this step its shipper's withdrawal of it is granted.
unfoldable pub is_withdrawn : ℕ → ℕ → Step → Bool
is_withdrawn shipper number (step (request s x) answer) = false
is_withdrawn shipper number (step (withdrawal s x) answer) = grants shipper number answer
is_withdrawn shipper number (step take answer) = false
is_withdrawn shipper number (step (setting figures) answer) = false

-- At this step it is taken.
unfoldable pub is_taken : ℕ → ℕ → Step → Bool
is_taken shipper number (step (request s x) answer) = false
is_taken shipper number (step (withdrawal s x) answer) = false
is_taken shipper number (step take answer) = grants shipper number answer
is_taken shipper number (step (setting figures) answer) = false

-- At how many of the steps this happens.
unfoldable pub how_often : (Step → Bool) → List Step → ℕ
how_often happens [] = 0
how_often happens (first ∷ rest) = cond (happens first) 1 0 + how_often happens rest

-- How often a number waits in a line.
unfoldable pub times : ℕ → List ℕ → ℕ
times number [] = 0
times number (first ∷ rest) = cond (eqb number first) 1 0 + times number rest

-- What becomes of a waiting request first: it is taken, at the so-manieth take from 1; it is withdrawn; or neither, so that it waits still.
pub data Fate : Type 0 where
  taken : ℕ → Fate
  withdrawn : Fate
  waits : Fate

-- the same, a step earlier: a take more to count where the step was one
abbrev pub earlier : Step → Fate → Fate
earlier (step take answer) (taken n) = taken (suc n)
earlier (step take answer) withdrawn = withdrawn
earlier (step take answer) waits = waits
earlier (step (request s x) answer) fate = fate
earlier (step (withdrawal s x) answer) fate = fate
earlier (step (setting figures) answer) fate = fate

unfoldable pub fate_of : ℕ → ℕ → List Step → Fate
fate_of shipper number [] = waits
fate_of shipper number (first ∷ rest) =
    cond (is_taken shipper number first) (taken 1)
    (cond (is_withdrawn shipper number first) withdrawn
    (earlier first (fate_of shipper number rest)))

-- 'taken no later than the m-th take .. unless its shipper withdraws it first': if it waits still, fewer than m takes were made.
abbrev pub NoLaterThan : ℕ → List Step → Fate → Type 0
NoLaterThan m steps (taken n) = n ≤ m
NoLaterThan m steps withdrawn = Unit {0}
NoLaterThan m steps waits = takes steps < m
