-- What an answer tells of a refusal: the paper's number and record, or none.
use Rattle.std.specs.Prelude.{Result, Ok, Err}
use Rattle.refusals.specs.Table.{number_of, record_of}
use Rattle.refusals.specs.Told.{Fault, fine, fault}
use Rattle.refusals.specs.declared.Refusal.{Refusal}

-- an answer's refusal as a fault
abbrev pub refused_in : {A : Type 0} → Result A Refusal → Fault
refused_in (Ok x) = fine
refused_in (Err refusal) = fault (number_of refusal) (record_of refusal)
