-- 02, 'Places by agreement', of what the code does on each face: 'Demand 3, commons used, 24, 25 and 01's line on what a request's answer depends
-- on then read with each shipper's own two figures and the book's own commons, and the answer depends on these figures too; the bound on takes
-- stays.' What does not read with figures, the bound on takes among it, stands on the page Demand3, of any figures and with others set between.
use Rattle.std.specs.Prelude.{◌≡◌, true, false, ℕ, ◌+◌, ◌≤◌, ◌<◌}
use Rattle.refusals.specs.Told.{done, refused}
use Rattle.book.specs.Figures.{over_shippers, reserve, ceiling, commons, waiting_of, has, held, commons_used}
use Rattle.book.specs.Rules.{keep_rules}
use Rattle.book.specs.Sound.{is_sound}
use Rattle.book.specs.Demand3.{request, setting, Answer, no_request}
use Rattle.book.specs.declared.Book.{Book}
use Rattle.book.specs.declared.Figures.{Figures}
use Rattle.promises.specs.Sessions.{Contracts, ByValue, KeptInPlace, FromC}
use Rattle.promises.specs.Demand3.{Reached, ValidNew, went_in, whether}

-- 'reserve 1 to 13, ceiling from that reserve to 16, reserves adding up to at most 16, and commons the rest of 16': of every sound book
pub record Places (book : Book) : Type 0 where
  pub reserve_1_to_13 : (shipper : ℕ) → shipper < 4 → (1 ≤ reserve book shipper) × (reserve book shipper ≤ 13)
  pub ceiling_to_16 : (shipper : ℕ) → shipper < 4 → (reserve book shipper ≤ ceiling book shipper) × (ceiling book shipper ≤ 16)
  pub at_most_16 : over_shippers (reserve book) ≤ 16
  pub rest_of_16 : commons book + over_shippers (reserve book) ≡ 16

pub record Agreement (does : Contracts) : Type 0 where
  -- 'A book with figures outside these rules isn't sound.' Every book that is reached is sound (Demand3).
  pub figures_keep_the_rules : (book : Book) → is_sound book ≡ true → Places book
  pub outside_is_not_sound : (book : Book) → keep_rules book.figures ≡ false → is_sound book ≡ false
  -- 'A shipper with fewer than' its reserve 'waiting always gets a valid new one in'
  pub below_its_reserve_goes_in : (book left : Book) (shipper number : ℕ) (answer : Answer) → Reached does book → shipper < 4 → has book shipper < reserve book shipper → ValidNew book shipper number
      → does (request shipper number) book answer left → answer ≡ went_in shipper number
  -- .. whatever the others hold, in any sound book, wherever it came from: no reserve is eaten by the commons
  pub reserves_are_never_eaten : (book left : Book) (shipper number : ℕ) (answer : Answer) → is_sound book ≡ true → shipper < 4 → has book shipper < reserve book shipper → ValidNew book shipper number
      → does (request shipper number) book answer left → answer ≡ went_in shipper number
  -- one from its reserve on, below its ceiling, 'is refused it only when the' book's commons 'are used up'
  pub refused_only_when_commons_used : (book left : Book) (shipper number n at : ℕ) → Reached does book → shipper < 4 → reserve book shipper ≤ has book shipper → has book shipper < ceiling book shipper
      → ValidNew book shipper number → does (request shipper number) book (refused n at) left → (n ≡ 25) × (commons_used book ≡ commons book)
  -- 'Nobody ever has more than' its ceiling 'waiting'
  pub never_above_its_ceiling : (book : Book) (shipper : ℕ) → Reached does book → shipper < 4 → has book shipper ≤ ceiling book shipper
  -- a ceiling of 14 to 16 is not reached: each of the others has a place of its own
  pub never_more_than_13 : (book : Book) (shipper : ℕ) → Reached does book → shipper < 4 → has book shipper ≤ 13
  -- a request's answer depends on the number asked, its shipper's line and two figures and, from its reserve on, commons used and commons
  pub request_depends_on : (book other left left' : Book) (shipper shipper' number : ℕ) (answer answer' : Answer) → is_sound book ≡ true → is_sound other ≡ true → shipper < 4 → shipper' < 4
      → waiting_of book shipper ≡ waiting_of other shipper' → reserve book shipper ≡ reserve other shipper' → ceiling book shipper ≡ ceiling other shipper'
      → (reserve book shipper ≤ has book shipper → (commons_used book ≡ commons_used other) × (commons book ≡ commons other))
      → does (request shipper number) book answer left → does (request shipper' number) other answer' left' → whether answer ≡ whether answer'
  -- 'Figures are set on an empty book only, and the turn order is kept.' In a sound, empty book figures that keep the rules are set, and nothing
  -- else has changed; whatever else is asked is refused by the next three.
  pub set_on_an_empty_book : (book left : Book) (figures : Figures) (answer : Answer) → is_sound book ≡ true → held book ≡ 0 → keep_rules figures ≡ true
      → does (setting figures) book answer left → (answer ≡ done no_request) × (left.figures ≡ figures) × (left.last ≡ book.last) × (left.lines ≡ book.lines)
  -- '30 for setting a book that isn't empty, 31 for figures outside the rules, after 20': and nothing has changed
  pub unsound_is_20 : (book left : Book) (figures : Figures) (answer : Answer) → is_sound book ≡ false → does (setting figures) book answer left → (answer ≡ refused 20 0) × (left ≡ book)
  pub waiting_is_30 : (book left : Book) (figures : Figures) (answer : Answer) → is_sound book ≡ true → 0 < held book → does (setting figures) book answer left → (answer ≡ refused 30 0) × (left ≡ book)
  pub outside_is_31 : (book left : Book) (figures : Figures) (answer : Answer) → is_sound book ≡ true → held book ≡ 0 → keep_rules figures ≡ false
      → does (setting figures) book answer left → (answer ≡ refused 31 0) × (left ≡ book)

pub record AgreementOnEachFace : Type 0 where
  pub by_value : Agreement ByValue
  pub in_place : Agreement KeptInPlace
  pub from_c : Agreement FromC
