-- What an answer of the code tells: its result, or the paper's number and record.
use Rattle.std.specs.Prelude.{Result, Ok, Err}
use Rattle.refusals.specs.Table.{number_of, record_of}
use Rattle.refusals.specs.Told.{Told, done, refused, Fault, fine, fault}
use Rattle.refusals.specs.declared.Refusal.{Refusal}

abbrev pub told : {A : Type 0} → Result A Refusal → Told A
told (Ok x) = done x
told (Err refusal) = refused (number_of refusal) (record_of refusal)

-- of judging: no fault, or the paper's number and record
abbrev pub fault_of : Result Unit Refusal → Fault
fault_of (Ok nothing) = fine
fault_of (Err refusal) = fault (number_of refusal) (record_of refusal)
