-- What a demand's `?` shows: where it goes on, the test holds; where it does not, the fault is the one that the paper has for it.
use mathlib.Core.Path.{◌≡◌, sym, ap, ◌∙◌}
use mathlib.Core.Bool.{Bool, true}
use Prim.Native.Nat.{ℕ}
use Rattle.refusals.specs.Told.{fine, fault, demand}
use Rattle.refusals.proofs.Laws.{demand_was}

module _ {judged test : Bool} (n : ℕ) (is : judged ≡ test) where
  pub met : fine ≡ demand judged n → test ≡ true
  met clear = sym is ∙ demand_was judged n (sym clear)

  pub missed : {number at : ℕ} → fault number at ≡ demand judged n → demand test n ≡ fault number at
  missed found = sym (found ∙ ap (λ (t : Bool). demand t n) is)
