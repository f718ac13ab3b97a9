-- What a `?` hands back: the refusal that it came of, as a fault and as what is told.
use Rattle.std.specs.Prelude.{Result, Err}
use Rattle.std.specs.Result.{IsErrAnd}
use Rattle.std.proofs.lemmas.Result.{err_from_is_err_and}
use mathlib.Core.Path.{◌≡◌, sym, ap, ◌∙◌}
use Rattle.refusals.specs.Table.{number_of, record_of}
use Rattle.refusals.specs.Told.{Told, refused, Fault, fault}
use Rattle.refusals.specs.Answered.{fault_of, told}
use Rattle.refusals.specs.declared.Refusal.{Refusal}

handed_back : {A : Type 0} (r : Result A Refusal) (q : Refusal) → IsErrAnd r (λ e. e ≡ q) → r ≡ Err q
handed_back r q is = let p = err_from_is_err_and r is in p.1 ∙ ap Err p.2

pub fault_back : (r : Result Unit Refusal) (q : Refusal) {f : Fault} → IsErrAnd r (λ e. e ≡ q) → f ≡ fault (number_of q) (record_of q) → fault_of r ≡ f
fault_back r q is found = ap fault_of (handed_back r q is) ∙ sym found

pub refusal_back : {A : Type 0} (r : Result A Refusal) (q : Refusal) {t : Told A} → IsErrAnd r (λ e. e ≡ q) → t ≡ refused (number_of q) (record_of q) → told r ≡ t
refusal_back r q is found = ap told (handed_back r q is) ∙ sym found
