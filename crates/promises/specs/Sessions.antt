-- Demand 3 over the code: 'make any requests, withdrawals and takes in any order', with figures set between. A session has the book found, the calls made with what
-- each was answered, and the book left; every call in it did what its function's contract says. There are three faces: `book` by value,
-- `keeper` in place and the C functions.
use Rattle.std.specs.Prelude.{◌≡◌, List, [], ◌∷◌, ℕ, Result}
use Rattle.refusals.specs.Told.{Told, done, refused}
use Rattle.book.specs.Demand3.{Call, request, withdrawal, take, setting, Answer, no_request, answer_to, after, after_all, Step, step, answers_to}
use Rattle.book.specs.declared.Book.{Book}
use Rattle.book.specs.declared.Changed.{Changed}
use Rattle.book.specs.declared.Figures.{Figures}
use Rattle.book.specs.declared.Taken.{Taken}
use Rattle.book.proofs.request.Reads as book_request
use Rattle.book.proofs.withdraw.Reads as book_withdraw
use Rattle.book.proofs.take.Reads as book_take
use Rattle.book.proofs.set_figures.Reads as book_set
use Rattle.api.specs.declared.books.EndakuroDone.{EndakuroDone}
use Rattle.api.specs.declared.books.EndakuroTaken.{EndakuroTaken}
use Rattle.promises.specs.FlatEnding.{told_in, change_in, handout_in}
use Rattle.promises.specs.InPlace as keeper
use Rattle.promises.specs.InPlaceC as c
use Rattle.refusals.specs.declared.Refusal.{Refusal}
use Rattle.refusals.specs.Answered.{told}
use Rattle.book.specs.declared.Handed.{Handed}

-- What a face's contracts say of a call: of the book found, what it was answered and the book left.
abbrev pub Contracts : Type 1
Contracts = Call → Book → Answer → Book → Type 0

-- No calls: the book is left as found. A call: it does what its contract says, and the rest of the session finds the book that it left.
unfoldable pub Session : Contracts → Book → List Step → Book → Type 0
Session does found [] left = left ≡ found
Session does found (step call answer ∷ steps) left = (next : Book) × (does call found answer next) × (Session does next steps left)

-- what a request or a withdrawal is answered, of the request that it names
abbrev pub about : ℕ → ℕ → Told Unit → Answer
about shipper number (done made) = done (record { shipper = shipper; number = number })
about shipper number (refused n at) = refused n at

-- what a setting is answered: it is about no request
abbrev pub about_none : Told Unit → Answer
about_none t = about no_request.shipper no_request.number t

-- By value: `f.Post κ a r x` is what the function f ensures of the arguments a at entry, its answer r and the arguments x at exit; a
-- request and a withdrawal are given the book, the shipper and the number, a setting the book and the figures.
abbrev pub given : Book → ℕ → ℕ → Book × (ℕ × (ℕ × Unit {0}))
given book shipper number = (book, (shipper, (number, tt)))

abbrev pub agreed_on : Book → Figures → Book × (Figures × Unit {0})
agreed_on book figures = (book, (figures, tt))

unfoldable pub ByValue : Contracts
ByValue (request shipper number) found answer left =
    (r : Changed) × (book_request.Post tt (given found shipper number) r (given found shipper number)) × (answer ≡ about shipper number (told r.answer)) × (left ≡ r.book)
ByValue (withdrawal shipper number) found answer left =
    (r : Changed) × (book_withdraw.Post tt (given found shipper number) r (given found shipper number)) × (answer ≡ about shipper number (told r.answer)) × (left ≡ r.book)
ByValue take found answer left = (r : Taken) × (book_take.Post tt (found, tt) r (found, tt)) × (answer ≡ told r.answer) × (left ≡ r.book)
ByValue (setting figures) found answer left =
    (r : Changed) × (book_set.Post tt (agreed_on found figures) r (agreed_on found figures)) × (answer ≡ about_none (told r.answer)) × (left ≡ r.book)

-- 'the controller keeps one book and changes it in place': what `keeper`'s clauses say (InPlace.antt).
unfoldable pub KeptInPlace : Contracts
KeptInPlace (request shipper number) found answer left = (r : Result Unit Refusal) × (keeper.Requests shipper number found left r) × (answer ≡ about shipper number (told r))
KeptInPlace (withdrawal shipper number) found answer left = (r : Result Unit Refusal) × (keeper.Withdraws shipper number found left r) × (answer ≡ about shipper number (told r))
KeptInPlace take found answer left = (r : Result Handed Refusal) × (keeper.Takes found left r) × (answer ≡ told r)
KeptInPlace (setting figures) found answer left = (r : Result Unit Refusal) × (keeper.Sets figures found left r) × (answer ≡ about_none (told r))

-- From C: what the C functions' clauses say (InPlaceC.antt), and the struct as a caller reads it (FlatEnding.antt).
unfoldable pub FromC : Contracts
FromC (request shipper number) found answer left = (r : EndakuroDone) × (c.Requests shipper number found left r) × (answer ≡ about shipper number (told_in (change_in r)))
FromC (withdrawal shipper number) found answer left = (r : EndakuroDone) × (c.Withdraws shipper number found left r) × (answer ≡ about shipper number (told_in (change_in r)))
FromC take found answer left = (r : EndakuroTaken) × (c.Takes found left r) × (answer ≡ told_in (handout_in r))
FromC (setting figures) found answer left = (r : EndakuroDone) × (c.Sets figures found left r) × (answer ≡ about_none (told_in (change_in r)))

-- The calls of a session.
unfoldable pub calls_of : List Step → List Call
calls_of [] = []
calls_of (step call answer ∷ steps) = call ∷ calls_of steps

-- What the code does over a session is what the book's meanings say, and there is a session for any calls from any book.
pub record AsMeant (does : Contracts) : Type 0 where
  pub each_call : (call : Call) (found : Book) (answer : Answer) (left : Book) → does call found answer left → (answer ≡ answer_to call found) × (left ≡ after call found)
  pub every_session : (found : Book) (steps : List Step) (left : Book) → Session does found steps left → (steps ≡ answers_to (calls_of steps) found) × (left ≡ after_all (calls_of steps) found)
  pub any_calls : (calls : List Call) (found : Book) → Session does found (answers_to calls found) (after_all calls found)

pub record Sessions : Type 0 where
  pub by_value : AsMeant ByValue
  pub in_place : AsMeant KeptInPlace
  pub from_c : AsMeant FromC
