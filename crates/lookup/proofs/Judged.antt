-- What `?` hands back is the refusal that it was given.
use Rattle.std.specs.Prelude.{Result, Err, Option, None}
use Rattle.std.specs.Result.{IsErrAnd}
use Rattle.std.specs.Option.{ok_or}
use Rattle.std.proofs.lemmas.Result.{err_from_is_err_and}
use mathlib.Core.Path.{◌≡◌, sym, ◌∙◌, ap}
use Rattle.refusals.specs.Table.{number_of, record_of}
use Rattle.refusals.specs.Told.{Told, refused}
use Rattle.refusals.specs.Answered.{told}
use Rattle.refusals.specs.declared.Refusal.{Refusal}

pub refusal_back : {A : Type 0} (r : Result A Refusal) (q : Refusal) {t : Told A} → IsErrAnd r (λ e. e ≡ q) → t ≡ refused (number_of q) (record_of q) → told r ≡ t
refusal_back r q is found = let p = err_from_is_err_and r is in ap told (p.1 ∙ ap Err p.2) ∙ sym found

-- the refusal in place of a value that is not there
pub instead : {A : Type 0} {o : Option A} {given q : Refusal} → o ≡ None → Err q ≡ ok_or o given → q ≡ given
instead {A} {o} {given} {q} none is = let same : ◌≡◌ {A = Result A Refusal} (Err q) (Err given) = is ∙ ap (λ (o : Option A). ok_or o given) none in cc
