-- 01, 'The book': 'above that, in a thin layer, the controller keeps one book and changes it in place.' Demand 1 and one outcome for those
-- calls (`keeper`). Their contracts have no plain reading (`Reads`), so the page has two parts: that each clause, in every model, is the
-- fact named here of the book found, the book left and the answer, and that nothing is asked; and what follows from the fact.
use Rattle.std.specs.Prelude.{◌≡◌, ℕ, Result}
use seplogic.Ra.Ura.{Ura}
use base.Logic.{SProp, ent, emp}
use prog.Memory.{Memory}
use prog.Routine.{Routine}
use types.Logic.{Logic}
use contract.Monad.{Fun, fact}
use contract.Lifetimes.{Lfts}
use Rattle.refusals.specs.Told.{Told, refused}
use Rattle.book.specs.Calls.{request_of, after_request, withdrawal_of, after_withdrawal, take_of, after_take, setting_of, after_setting}
use Rattle.book.specs.declared.Book.{Book}
use Rattle.book.specs.declared.Figures.{Figures}
use Rattle.keeper.specs.contracts.request as request
use Rattle.keeper.specs.contracts.withdraw as withdraw
use Rattle.keeper.specs.contracts.take as take
use Rattle.keeper.specs.contracts.set_figures as set-figures
use Rattle.promises.specs.Numbers.{request_numbers, withdrawal_numbers, take_numbers, agreement_numbers}
use Rattle.promises.specs.Ending.{Ends}
use Rattle.promises.specs.Outcome.{OneChange}
use Rattle.refusals.specs.declared.Refusal.{Refusal}
use Rattle.refusals.specs.Answered.{told}
use Rattle.book.specs.declared.Handed.{Handed}

-- what each call says of the book found, the book left and its answer; a request and a withdrawal alike, over what they are told and leave
abbrev pub Changes : (Book → ℕ → ℕ → Told Unit) → (Book → ℕ → ℕ → Book) → ℕ → ℕ → Book → Book → Result Unit Refusal → Type 0
Changes of after shipper number found left r = (told r ≡ of found shipper number) × (left ≡ after found shipper number)

abbrev pub Requests : ℕ → ℕ → Book → Book → Result Unit Refusal → Type 0
Requests = Changes request_of after_request

abbrev pub Withdraws : ℕ → ℕ → Book → Book → Result Unit Refusal → Type 0
Withdraws = Changes withdrawal_of after_withdrawal

abbrev pub Takes : Book → Book → Result Handed Refusal → Type 0
Takes found left r = (told r ≡ take_of found) × (left ≡ after_take found)

abbrev pub Sets : Figures → Book → Book → Result Unit Refusal → Type 0
Sets figures found left r = (told r ≡ setting_of found figures) × (left ≡ after_setting found figures)

-- the contracts' own clauses
pub record InPlaceSays {M : Type 1} {𝓤 : Ura M} (𝓛 : Logic 𝓤) (κs : Lfts 1) (at_mem : Memory → SProp 𝓤) (run : Routine → Fun 𝓤) : Type 2 where
  pub request_says : (kept : _) (shipper number : ℕ) (both : _) (s n : _) (r : _) → request.ensures-1 𝓛 κs at_mem run kept shipper number both s n r ≡ fact 𝓤 (Requests shipper number both.entry.now both.exit.now r)
  pub withdraw_says : (kept : _) (shipper number : ℕ) (both : _) (s n : _) (r : _) → withdraw.ensures-1 𝓛 κs at_mem run kept shipper number both s n r ≡ fact 𝓤 (Withdraws shipper number both.entry.now both.exit.now r)
  pub take_says : (kept : _) (both : _) (r : _) → take.ensures-1 𝓛 κs at_mem run kept both r ≡ fact 𝓤 (Takes both.entry.now both.exit.now r)
  pub set_figures_says : (kept : _) (figures : Figures) (both : _) (f : _) (r : _) → set-figures.ensures-1 𝓛 κs at_mem run kept figures both f r ≡ fact 𝓤 (Sets figures both.entry.now both.exit.now r)
  -- 'No caller has to check first': what each asks of its arguments is had from nothing
  pub request_asks_nothing : (a : _) (g : _) → ent 𝓤 (emp 𝓤) ((request.clauses 𝓛 at_mem run κs a).requires g)
  pub withdraw_asks_nothing : (a : _) (g : _) → ent 𝓤 (emp 𝓤) ((withdraw.clauses 𝓛 at_mem run κs a).requires g)
  pub take_asks_nothing : (a : _) (g : _) → ent 𝓤 (emp 𝓤) ((take.clauses 𝓛 at_mem run κs a).requires g)
  pub set_figures_asks_nothing : (a : _) (g : _) → ent 𝓤 (emp 𝓤) ((set-figures.clauses 𝓛 at_mem run κs a).requires g)

-- 'A book call, lowest number first: a request 20 to 25; a withdrawal 20, 21, 22, 26; a take 20, 27.'
-- 'A refusal .. hands the book of waiting requests back unchanged.'
pub record InPlace : Type 0 where
  pub request_one : (shipper number : ℕ) → OneChange (Requests shipper number)
  pub request_ends : (shipper number : ℕ) (found left : Book) (r : Result Unit Refusal) → Requests shipper number found left r → Ends request_numbers 0 0 (told r)
  pub request_leaves : (shipper number : ℕ) (found left : Book) (r : Result Unit Refusal) {n at : ℕ} → Requests shipper number found left r → told r ≡ refused n at → left ≡ found
  pub withdraw_one : (shipper number : ℕ) → OneChange (Withdraws shipper number)
  pub withdraw_ends : (shipper number : ℕ) (found left : Book) (r : Result Unit Refusal) → Withdraws shipper number found left r → Ends withdrawal_numbers 0 0 (told r)
  pub withdraw_leaves : (shipper number : ℕ) (found left : Book) (r : Result Unit Refusal) {n at : ℕ} → Withdraws shipper number found left r → told r ≡ refused n at → left ≡ found
  pub take_one : OneChange Takes
  pub take_ends : (found left : Book) (r : Result Handed Refusal) → Takes found left r → Ends take_numbers 0 0 (told r)
  pub take_leaves : (found left : Book) (r : Result Handed Refusal) {n at : ℕ} → Takes found left r → told r ≡ refused n at → left ≡ found
  -- 02: '30 for setting a book that isn't empty, 31 for figures outside the rules, after 20'
  pub set_figures_one : (figures : Figures) → OneChange (Sets figures)
  pub set_figures_ends : (figures : Figures) (found left : Book) (r : Result Unit Refusal) → Sets figures found left r → Ends agreement_numbers 0 0 (told r)
  pub set_figures_leaves : (figures : Figures) (found left : Book) (r : Result Unit Refusal) {n at : ℕ} → Sets figures found left r → told r ≡ refused n at → left ≡ found
