-- An answer's values, or zeros, by what it tells.
use Rattle.std.proofs.Common.{Result, Ok, Err, ◌≡◌, refl}
use Rattle.std.specs.Result.{result_unwrap_or}
use Rattle.refusals.specs.declared.Refusal.{Refusal}
use Rattle.refusals.specs.Answered.{told}
use Rattle.api.specs.Flat.{values_in}

pub values_told : {A : Type 0} (zeros : A) (answer : Result A Refusal) → result_unwrap_or answer zeros ≡ values_in zeros (told answer)
values_told zeros (Ok values) = refl
values_told zeros (Err refusal) = refl
