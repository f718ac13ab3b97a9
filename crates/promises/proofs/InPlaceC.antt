-- One outcome for the C face's calls on a book behind a pointer: each clause computes to its fact, which gives the answer and the book left.
use mathlib.Core.Path.{refl}
use seplogic.Ra.Ura.{Ura}
use base.Logic.{SProp, emp, id⊢}
use prog.Memory.{Memory}
use prog.Routine.{Routine}
use types.Logic.{Logic}
use contract.Monad.{Fun}
use contract.Lifetimes.{Lfts}
use Rattle.promises.specs.InPlaceC.{InPlaceSaysC, InPlaceC}
use Rattle.promises.proofs.OneOutcome.{same}

pub in-place-says-c : {M : Type 1} {𝓤 : Ura M} (𝓛 : Logic 𝓤) (κs : Lfts 1) (at_mem : Memory → SProp 𝓤) (run : Routine → Fun 𝓤) → InPlaceSaysC 𝓛 κs at_mem run
in-place-says-c {𝓤 = 𝓤} 𝓛 κs at_mem run =
    record {
      request_says = λ _ _ _ _ _ _ _. refl;
      withdraw_says = λ _ _ _ _ _ _ _. refl;
      take_says = λ _ _ _. refl;
      set_figures_says = λ _ _ _ _ _. refl;
      commons_says = λ _ _ _. refl;
      is_sound_says = λ _ _ _. refl;
      request_asks_nothing = λ _ _. id⊢ 𝓤 (emp 𝓤);
      withdraw_asks_nothing = λ _ _. id⊢ 𝓤 (emp 𝓤);
      take_asks_nothing = λ _ _. id⊢ 𝓤 (emp 𝓤);
      set_figures_asks_nothing = λ _ _. id⊢ 𝓤 (emp 𝓤);
      commons_asks_nothing = λ _ _. id⊢ 𝓤 (emp 𝓤);
      is_sound_asks_nothing = λ _ _. id⊢ 𝓤 (emp 𝓤);
    }

pub in-place-c : InPlaceC
in-place-c =
    record {
      request_one = λ _ _ _ _ _ _ _ p p'. (same p.0 p'.0, same p.1 p'.1);
      withdraw_one = λ _ _ _ _ _ _ _ p p'. (same p.0 p'.0, same p.1 p'.1);
      take_one = λ _ _ _ _ _ p p'. (same p.0 p'.0, same p.1 p'.1);
      set_figures_one = λ _ _ _ _ _ _ p p'. (same p.0 p'.0, same p.1 p'.1);
      commons_one = λ _ _ _. same;
      is_sound_one = λ _ _ _. same;
    }
