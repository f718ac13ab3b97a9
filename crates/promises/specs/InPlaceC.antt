-- The C face's calls on a book behind a pointer, as InPlace.antt has those of `keeper`: that each clause, in every model, is the fact named
-- here of the book found, the book left and the answer, and that nothing is asked; and that the fact fixes the two.
use Rattle.std.specs.Prelude.{◌≡◌, Bool, ℕ}
use seplogic.Ra.Ura.{Ura}
use base.Logic.{SProp, ent, emp}
use prog.Memory.{Memory}
use prog.Routine.{Routine}
use types.Logic.{Logic}
use contract.Monad.{Fun, fact}
use contract.Lifetimes.{Lfts}
use Rattle.refusals.specs.Told.{Told}
use Rattle.book.specs.Calls.{request_of, after_request, withdrawal_of, after_withdrawal, take_of, after_take, setting_of, after_setting, commons_of}
use Rattle.book.specs.Sound.{is_sound}
use Rattle.book.specs.declared.Book.{Book}
use Rattle.book.specs.declared.Figures.{Figures}
use Rattle.api.specs.Flat.{flat_done, flat_taken, flat_commons}
use Rattle.api.specs.declared.books.EndakuroDone.{EndakuroDone}
use Rattle.api.specs.declared.books.EndakuroTaken.{EndakuroTaken}
use Rattle.api.specs.declared.books.EndakuroCommons.{EndakuroCommons}
use Rattle.api.specs.contracts.books.endakuro_request as request
use Rattle.api.specs.contracts.books.endakuro_withdraw as withdraw
use Rattle.api.specs.contracts.books.endakuro_take as take
use Rattle.api.specs.contracts.books.endakuro_set_figures as set-figures
use Rattle.api.specs.contracts.books.endakuro_commons as commons
use Rattle.api.specs.contracts.books.endakuro_is_sound as is-sound
use Rattle.promises.specs.Outcome.{OneChange}

abbrev pub Changes : (Book → ℕ → ℕ → Told Unit) → (Book → ℕ → ℕ → Book) → ℕ → ℕ → Book → Book → EndakuroDone → Type 0
Changes of after shipper number found left r = (r ≡ flat_done (of found shipper number)) × (left ≡ after found shipper number)

abbrev pub Requests : ℕ → ℕ → Book → Book → EndakuroDone → Type 0
Requests = Changes request_of after_request

abbrev pub Withdraws : ℕ → ℕ → Book → Book → EndakuroDone → Type 0
Withdraws = Changes withdrawal_of after_withdrawal

abbrev pub Takes : Book → Book → EndakuroTaken → Type 0
Takes found left r = (r ≡ flat_taken (take_of found)) × (left ≡ after_take found)

abbrev pub Sets : Figures → Book → Book → EndakuroDone → Type 0
Sets figures found left r = (r ≡ flat_done (setting_of found figures)) × (left ≡ after_setting found figures)

-- the book is only read by these two
abbrev pub Shares : Book → EndakuroCommons → Type 0
Shares found r = r ≡ flat_commons (commons_of found)

abbrev pub Judges : Book → Bool → Type 0
Judges found r = r ≡ is_sound found

-- the contracts' own clauses
pub record InPlaceSaysC {M : Type 1} {𝓤 : Ura M} (𝓛 : Logic 𝓤) (κs : Lfts 1) (at_mem : Memory → SProp 𝓤) (run : Routine → Fun 𝓤) : Type 2 where
  pub request_says : (kept : _) (shipper number : ℕ) (both : _) (s n : _) (r : _) → request.ensures-1 𝓛 κs at_mem run kept shipper number both s n r ≡ fact 𝓤 (Requests shipper number both.entry.now both.exit.now r)
  pub withdraw_says : (kept : _) (shipper number : ℕ) (both : _) (s n : _) (r : _) → withdraw.ensures-1 𝓛 κs at_mem run kept shipper number both s n r ≡ fact 𝓤 (Withdraws shipper number both.entry.now both.exit.now r)
  pub take_says : (kept : _) (both : _) (r : _) → take.ensures-1 𝓛 κs at_mem run kept both r ≡ fact 𝓤 (Takes both.entry.now both.exit.now r)
  pub set_figures_says : (kept : _) (figures : Figures) (both : _) (f : _) (r : _) → set-figures.ensures-1 𝓛 κs at_mem run kept figures both f r ≡ fact 𝓤 (Sets figures both.entry.now both.exit.now r)
  pub commons_says : (kept : _) (both : _) (r : EndakuroCommons) → commons.ensures-1 𝓛 κs at_mem run kept both r ≡ fact 𝓤 (Shares both.entry.now r)
  pub is_sound_says : (kept : _) (both : _) (r : Bool) → is-sound.ensures-1 𝓛 κs at_mem run kept both r ≡ fact 𝓤 (Judges both.entry.now r)
  -- 'No caller has to check first': what each asks of its arguments is had from nothing
  pub request_asks_nothing : (a : _) (g : _) → ent 𝓤 (emp 𝓤) ((request.clauses 𝓛 at_mem run κs a).requires g)
  pub withdraw_asks_nothing : (a : _) (g : _) → ent 𝓤 (emp 𝓤) ((withdraw.clauses 𝓛 at_mem run κs a).requires g)
  pub take_asks_nothing : (a : _) (g : _) → ent 𝓤 (emp 𝓤) ((take.clauses 𝓛 at_mem run κs a).requires g)
  pub set_figures_asks_nothing : (a : _) (g : _) → ent 𝓤 (emp 𝓤) ((set-figures.clauses 𝓛 at_mem run κs a).requires g)
  pub commons_asks_nothing : (a : _) (g : _) → ent 𝓤 (emp 𝓤) ((commons.clauses 𝓛 at_mem run κs a).requires g)
  pub is_sound_asks_nothing : (a : _) (g : _) → ent 𝓤 (emp 𝓤) ((is-sound.clauses 𝓛 at_mem run κs a).requires g)

pub record InPlaceC : Type 0 where
  pub request_one : (shipper number : ℕ) → OneChange (Requests shipper number)
  pub withdraw_one : (shipper number : ℕ) → OneChange (Withdraws shipper number)
  pub take_one : OneChange Takes
  pub set_figures_one : (figures : Figures) → OneChange (Sets figures)
  pub commons_one : (found : Book) (r q : EndakuroCommons) → Shares found r → Shares found q → r ≡ q
  pub is_sound_one : (found : Book) (r q : Bool) → Judges found r → Judges found q → r ≡ q
