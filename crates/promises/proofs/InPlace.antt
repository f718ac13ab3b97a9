-- Demand 1 and one outcome for the calls that change a book in place: each clause computes to its fact, and the fact's answer is told what
-- the book's own call tells.
use mathlib.Core.Path.{refl, sym, ◌∙◌}
use Prim.Native.Nat.{ℕ}
use seplogic.Ra.Ura.{Ura}
use base.Logic.{SProp, emp, id⊢}
use prog.Memory.{Memory}
use prog.Routine.{Routine}
use types.Logic.{Logic}
use contract.Monad.{Fun}
use contract.Lifetimes.{Lfts}
use Rattle.refusals.specs.Told.{Told}
use Rattle.book.specs.Calls.{request_of, after_request, withdrawal_of, after_withdrawal}
use Rattle.book.specs.declared.Book.{Book}
use Rattle.promises.specs.Outcome.{OneChange}
use Rattle.promises.specs.InPlace.{Changes, InPlaceSays, InPlace}
use Rattle.promises.proofs.OneOutcome.{same}
use Rattle.promises.proofs.Endings.{as_told}
use Rattle.promises.proofs.Demand1.{request_ends, withdrawal_ends, take_ends, setting_ends, request_leaves_book, withdrawal_leaves_book, take_leaves_book, setting_leaves_book}
use Rattle.refusals.proofs.Laws.{told_one}

pub in-place-says : {M : Type 1} {𝓤 : Ura M} (𝓛 : Logic 𝓤) (κs : Lfts 1) (at_mem : Memory → SProp 𝓤) (run : Routine → Fun 𝓤) → InPlaceSays 𝓛 κs at_mem run
in-place-says {𝓤 = 𝓤} 𝓛 κs at_mem run =
    record {
      request_says = λ _ _ _ _ _ _ _. refl;
      withdraw_says = λ _ _ _ _ _ _ _. refl;
      take_says = λ _ _ _. refl;
      set_figures_says = λ _ _ _ _ _. refl;
      request_asks_nothing = λ _ _. id⊢ 𝓤 (emp 𝓤);
      withdraw_asks_nothing = λ _ _. id⊢ 𝓤 (emp 𝓤);
      take_asks_nothing = λ _ _. id⊢ 𝓤 (emp 𝓤);
      set_figures_asks_nothing = λ _ _. id⊢ 𝓤 (emp 𝓤);
    }

-- the same answer, and the same book left
changes_one : (of : Book → ℕ → ℕ → Told Unit) (after : Book → ℕ → ℕ → Book) (shipper number : ℕ) → OneChange (Changes of after shipper number)
changes_one of after shipper number found left left' r q p p' = (told_one r q (same p.0 p'.0), same p.1 p'.1)

pub in_place : InPlace
in_place =
    record {
      request_one = changes_one request_of after_request;
      request_ends = λ shipper number found left r p. as_told p.0 (request_ends found shipper number);
      request_leaves = λ shipper number found left r p is. p.1 ∙ request_leaves_book found shipper number (sym p.0 ∙ is);
      withdraw_one = changes_one withdrawal_of after_withdrawal;
      withdraw_ends = λ shipper number found left r p. as_told p.0 (withdrawal_ends found shipper number);
      withdraw_leaves = λ shipper number found left r p is. p.1 ∙ withdrawal_leaves_book found shipper number (sym p.0 ∙ is);
      take_one = λ found left left' r q p p'. (told_one r q (same p.0 p'.0), same p.1 p'.1);
      take_ends = λ found left r p. as_told p.0 (take_ends found);
      take_leaves = λ found left r p is. p.1 ∙ take_leaves_book found (sym p.0 ∙ is);
      set_figures_one = λ figures found left left' r q p p'. (told_one r q (same p.0 p'.0), same p.1 p'.1);
      set_figures_ends = λ figures found left r p. as_told p.0 (setting_ends found figures);
      set_figures_leaves = λ figures found left r p is. p.1 ∙ setting_leaves_book found figures (sym p.0 ∙ is);
    }
