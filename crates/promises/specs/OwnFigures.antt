-- 02, 'Places by agreement', by figures: '.. and the answer depends on these figures too', two books that differ in one of them answering otherwise; and
-- settings at the ends of each rule.
use Rattle.std.specs.Prelude.{◌≡◌, List, [], ◌∷◌, ℕ}
use Rattle.refusals.specs.Told.{Told, done, refused}
use Rattle.book.specs.Figures.{empty_book}
use Rattle.book.specs.Calls.{request_of, setting_of, after_setting, commons_of}
use Rattle.book.specs.declared.Book.{Book}
use Rattle.book.specs.declared.Figures.{Figures}
use Rattle.promises.specs.Figures.{sent}

-- four reserves and four ceilings, those of shippers 0 to 3
unfoldable pub figures_of : List ℕ → List ℕ → Figures
figures_of reserves ceilings = record { reserves = reserves; ceilings = ceilings }

-- a new book in which these were set
unfoldable pub new_with : List ℕ → List ℕ → Book
new_with reserves ceilings = after_setting empty_book (figures_of reserves ceilings)

-- what shipper 1's third request is answered there
unfoldable pub third_of1 : List ℕ → List ℕ → Told Unit
third_of1 reserves ceilings = request_of (sent 1 2 (new_with reserves ceilings)) 1 3

-- the setting of a new book
unfoldable pub set_new : List ℕ → List ℕ → Told Unit
set_new reserves ceilings = setting_of empty_book (figures_of reserves ceilings)

-- ceilings of 16 for all, which no shipper reaches
abbrev pub wide : List ℕ
wide = 16 ∷ 16 ∷ 16 ∷ 16 ∷ []

pub record OwnFigures : Type 0 where
  -- by its own ceiling
  pub below_its_ceiling : third_of1 (2 ∷ 2 ∷ 2 ∷ 2 ∷ []) (8 ∷ 3 ∷ 8 ∷ 8 ∷ []) ≡ done tt
  pub at_its_ceiling : third_of1 (2 ∷ 2 ∷ 2 ∷ 2 ∷ []) (8 ∷ 2 ∷ 8 ∷ 8 ∷ []) ≡ refused 24 0
  -- by its own reserve, where nothing is shared
  pub below_its_reserve : third_of1 (6 ∷ 3 ∷ 6 ∷ 1 ∷ []) wide ≡ done tt
  pub at_its_reserve : third_of1 (6 ∷ 2 ∷ 6 ∷ 2 ∷ []) wide ≡ refused 25 0
  -- by the book's commons
  pub one_shared : third_of1 (6 ∷ 2 ∷ 5 ∷ 2 ∷ []) wide ≡ done tt
  -- a ceiling of 16: shipper 0 takes all twelve shared places, and has 13; its neighbour's own place is kept for it, and beyond that nothing is left
  pub thirteen : commons_of (sent 0 13 (new_with (1 ∷ 1 ∷ 1 ∷ 1 ∷ []) wide)) ≡ done (record { commons = 12; used = 12 })
  pub fourteenth : request_of (sent 0 13 (new_with (1 ∷ 1 ∷ 1 ∷ 1 ∷ []) wide)) 0 14 ≡ refused 25 0
  pub own_place_kept : request_of (sent 0 13 (new_with (1 ∷ 1 ∷ 1 ∷ 1 ∷ []) wide)) 3 1 ≡ done tt
  pub second_is_full : request_of (sent 3 1 (sent 0 13 (new_with (1 ∷ 1 ∷ 1 ∷ 1 ∷ []) wide))) 3 2 ≡ refused 25 0
  -- 'reserve 1 to 13'
  pub reserve_13 : set_new (13 ∷ 1 ∷ 1 ∷ 1 ∷ []) wide ≡ done tt
  pub reserve_14 : set_new (14 ∷ 1 ∷ 1 ∷ 1 ∷ []) wide ≡ refused 31 0
  pub reserve_0 : set_new (2 ∷ 2 ∷ 0 ∷ 2 ∷ []) wide ≡ refused 31 0
  -- 'ceiling from that reserve to 16'
  pub ceiling_is_reserve : set_new (2 ∷ 2 ∷ 2 ∷ 3 ∷ []) (16 ∷ 16 ∷ 16 ∷ 3 ∷ []) ≡ done tt
  pub ceiling_below_reserve : set_new (2 ∷ 2 ∷ 2 ∷ 3 ∷ []) (16 ∷ 16 ∷ 16 ∷ 2 ∷ []) ≡ refused 31 0
  pub ceiling_17 : set_new (2 ∷ 2 ∷ 2 ∷ 2 ∷ []) (16 ∷ 17 ∷ 16 ∷ 16 ∷ []) ≡ refused 31 0
  -- 'reserves adding up to at most 16'
  pub sixteen : set_new (4 ∷ 4 ∷ 4 ∷ 4 ∷ []) wide ≡ done tt
  pub seventeen : set_new (5 ∷ 4 ∷ 4 ∷ 4 ∷ []) wide ≡ refused 31 0
  -- '30 for setting a book that isn't empty, 31 for figures outside the rules, after 20'
  pub waiting_first : setting_of (sent 3 1 empty_book) (figures_of (5 ∷ 4 ∷ 4 ∷ 4 ∷ []) wide) ≡ refused 30 0
  pub unsound_first : setting_of (record { lines = empty_book.lines; last = 3; figures = figures_of (5 ∷ 4 ∷ 4 ∷ 4 ∷ []) wide }) empty_book.figures ≡ refused 20 0
