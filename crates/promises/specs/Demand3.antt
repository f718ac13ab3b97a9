-- Demand 3, sentence by sentence, of what the code does, with the customer's own figures: 2 in reserve, 8 at most, 8 shared, those of a new
-- book. With each shipper's own figures, and how they are set, it is on the page Agreement. `does` is what the contracts of a face say of a
-- call, and a session is made of its calls (Sessions.antt); the page holds for each of the three faces.
use Rattle.std.specs.Prelude.{◌≡◌, true, false, List, [], ◌∷◌, ◌++◌, ℕ, ◌+◌, ◌*◌, ◌≤◌, ◌<◌}
use Rattle.refusals.specs.Told.{Told, done, refused}
use Rattle.octets.specs.Lists.{is_one_of}
use Rattle.book.specs.Figures.{waiting_of, has, held, commons_used, default_figures, empty_book}
use Rattle.book.specs.Rules.{keep_rules}
use Rattle.book.specs.Sound.{is_sound}
use Rattle.book.specs.Demand3.{SoundEmpty, Call, request, take, Answer, Step, NoneSet, is_going_in, is_withdrawn, is_taken, how_often, times, waits, fate_of, NoLaterThan}
use Rattle.book.specs.declared.Book.{Book}
use Rattle.book.specs.declared.Figures.{Figures}
use Rattle.book.proofs.Book.empty.Reads as book-empty
use Rattle.api.proofs.books.endakuro_empty.Reads as c-empty
use Rattle.promises.specs.Sessions.{Contracts, Session, ByValue, KeptInPlace, FromC}

-- 'Start from a sound, empty book and make any requests, withdrawals and takes in any order.' A book that is reached so, whatever its figures
-- are, and with others set between:
pub record Reached (does : Contracts) (book : Book) : Type 0 where
  pub start : Book
  pub empty : SoundEmpty start
  pub steps : List Step
  pub session : Session does start steps book

-- .. and so from a new one, or one like it with any shipper served last, with no figures set:
pub record ReachedFromNew (does : Contracts) (book : Book) : Type 0 where
  pub start : Book
  pub empty : SoundEmpty start
  pub new : start.figures ≡ default_figures
  pub steps : List Step
  pub unset : NoneSet steps
  pub session : Session does start steps book

-- 'a valid new one .. (number not zero, not waiting in its line)'
pub record ValidNew (book : Book) (shipper number : ℕ) : Type 0 where
  pub valid : number ≡ 0 → ⊥
  pub new : is_one_of number (waiting_of book shipper) ≡ false

-- The answer that this shipper's request of the number went in.
abbrev pub went_in : ℕ → ℕ → Answer
went_in shipper number = done (record { shipper = shipper; number = number })

-- 'A request that goes in', in a book, and any calls later, with the book that they leave.
pub record WentIn (does : Contracts) (shipper number : ℕ) (book : Book) (later : List Step) (left : Book) : Type 0 where
  pub next : Book
  pub goes_in : does (request shipper number) book (went_in shipper number) next
  pub session : Session does next later left

-- whether a request went in, or the number of its refusal: the same for one shipper and another
abbrev pub whether : Answer → Told Unit
whether (done handed) = done tt
whether (refused n at) = refused n at

pub record Demand3 (does : Contracts) : Type 0 where
  -- every book that is reached is sound, and every call keeps a sound book sound, also one that came from elsewhere
  pub sound_always : (book : Book) → Reached does book → is_sound book ≡ true
  pub sound_after_any_call : (call : Call) (found left : Book) (answer : Answer) → is_sound found ≡ true → does call found answer left → is_sound left ≡ true
  -- 'A shipper with fewer than 2 requests waiting always gets a valid new one in (number not zero, not waiting in its line);'
  pub fewer_than_2_goes_in : (book left : Book) (shipper number : ℕ) (answer : Answer) → ReachedFromNew does book → shipper < 4 → has book shipper < 2 → ValidNew book shipper number
      → does (request shipper number) book answer left → answer ≡ went_in shipper number
  -- 'one with 2 to 7 is refused it only when the 8 shared places are used up.'
  pub refused_only_when_8_used : (book left : Book) (shipper number n at : ℕ) → ReachedFromNew does book → shipper < 4 → 2 ≤ has book shipper → has book shipper < 8 → ValidNew book shipper number
      → does (request shipper number) book (refused n at) left → commons_used book ≡ 8
  -- 'Nobody ever has more than 8 waiting.'
  pub never_more_than_8 : (book : Book) (shipper : ℕ) → ReachedFromNew does book → shipper < 4 → has book shipper ≤ 8
  -- All four together never have more than the 16 places, in any sound book.
  pub never_more_than_16 : (book : Book) → is_sound book ≡ true → held book ≤ 16
  -- A request that goes in waits behind those of its own shipper.
  pub waits_behind : (book next : Book) (shipper number : ℕ) → does (request shipper number) book (went_in shipper number) next → waiting_of next shipper ≡ waiting_of book shipper ++ (number ∷ [])
  -- 'A request that goes in behind k of its own shipper's is taken no later than the 4(k+1)th take after that, unless its shipper
  -- withdraws it first.' Here k is `has`; a request that is neither taken nor withdrawn has seen fewer than 4(k+1) takes.
  pub taken-by-4·k+1 : (book left : Book) (shipper number : ℕ) (later : List Step) → WentIn does shipper number book later left
      → NoLaterThan (4 * (has book shipper + 1)) later (fate_of shipper number later)
  -- 'Each accepted request is taken or withdrawn at most once,': as long as no other of the same shipper and number goes in, it was taken
  -- once, or withdrawn once, or waits once, and not two of these
  pub at_most_once : (book left : Book) (shipper number : ℕ) (later : List Step) → WentIn does shipper number book later left
      → how_often (is_going_in shipper number) later ≡ 0 → how_often (is_taken shipper number) later + how_often (is_withdrawn shipper number) later + times number (waiting_of left shipper) ≡ 1
  -- 'and what is neither is waiting still.'
  pub waiting_still : (book left : Book) (shipper number : ℕ) (later : List Step) → WentIn does shipper number book later left
      → fate_of shipper number later ≡ waits → is_one_of number (waiting_of left shipper) ≡ true
  -- The same for a number that comes back ('A number may come back once it has left'): all that went in were taken, or withdrawn, or wait,
  -- and of those waiting there is at most one.
  pub all_accounted_for : (start book : Book) (steps : List Step) (shipper number : ℕ) → SoundEmpty start → Session does start steps book
      → how_often (is_going_in shipper number) steps ≡ how_often (is_taken shipper number) steps + how_often (is_withdrawn shipper number) steps + times number (waiting_of book shipper)
  pub waits_at_most_once : (book : Book) (shipper number : ℕ) → Reached does book → shipper < 4 → times number (waiting_of book shipper) ≤ 1
  -- 01: 'In a sound book a request's answer depends on the number asked, its shipper's line and, from 2 waiting upward, commons used; on
  -- nothing else.' Not on the other lines, the last served, or which shipper it is; 2 and 8 for all.
  pub request_depends_on : (book other left left' : Book) (shipper shipper' number : ℕ) (answer answer' : Answer) → is_sound book ≡ true → is_sound other ≡ true → book.figures ≡ default_figures → other.figures ≡ default_figures
      → shipper < 4 → shipper' < 4 → waiting_of book shipper ≡ waiting_of other shipper' → (2 ≤ has book shipper → commons_used book ≡ commons_used other)
      → does (request shipper number) book answer left → does (request shipper' number) other answer' left' → whether answer ≡ whether answer'
  -- one who is no shipper is told so, whatever the book
  pub unknown_shipper : (book left : Book) (shipper number : ℕ) (answer : Answer) → is_sound book ≡ true → 4 ≤ shipper → does (request shipper number) book answer left → answer ≡ refused 21 0
  -- 01: 'A take's depends on all four lines and the last served.'
  pub take_depends_on : (book other left left' : Book) (answer answer' : Answer) → is_sound book ≡ true → is_sound other ≡ true → ((shipper : ℕ) → shipper < 4 → waiting_of book shipper ≡ waiting_of other shipper)
      → book.last ≡ other.last → does take book answer left → does take other answer' left' → answer ≡ answer'

pub record Demand3OnEachFace : Type 0 where
  pub by_value : Demand3 ByValue
  pub in_place : Demand3 KeptInPlace
  pub from_c : Demand3 FromC

-- 'a sound, empty book': a new one is, of `book` and from C, and so is one like it with any other shipper served last and any figures that
-- keep the rules; no other book is. A new one has 2 and 8 for all.
pub record EmptyBooks : Type 0 where
  pub new_book : (κ : _) (a : _) (r : _) (x : _) → book-empty.Post κ a r x → SoundEmpty r
  pub new_from_c : (κ : _) (a : _) (r : _) (x : _) → c-empty.Post κ a r x → SoundEmpty r
  pub new_figures : (κ : _) (a : _) (r : _) (x : _) → book-empty.Post κ a r x → r.figures ≡ default_figures
  pub new_figures_from_c : (κ : _) (a : _) (r : _) (x : _) → c-empty.Post κ a r x → r.figures ≡ default_figures
  pub any_other : (last : ℕ) (figures : Figures) → last < 4 → keep_rules figures ≡ true → SoundEmpty (record { lines = empty_book.lines; last = last; figures = figures })
  pub no_other : (book : Book) → SoundEmpty book → (book.lines ≡ empty_book.lines) × (book.last < 4) × (keep_rules book.figures ≡ true)
