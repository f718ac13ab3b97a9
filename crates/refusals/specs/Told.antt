-- What an entry tells its caller, and refusals in the paper's order.
use Rattle.std.specs.Prelude.{Bool, true, false, ℕ}

-- Demand 1: an entry ends with its result, or with one number of the table and the record at fault (0 where there is none).
pub data Told (A : Type 0) : Type 0 where
  done : A → Told A
  refused : ℕ → ℕ → Told A

-- What judging finds: nothing, or a number of the table and the record at fault.
pub data Fault : Type 0 where
  fine : Fault
  fault : ℕ → ℕ → Fault

-- the number, with its record, unless the test holds
abbrev pub demand_at : Bool → ℕ → ℕ → Fault
demand_at true number at = fine
demand_at false number at = fault number at

-- the number, with record 0, unless the test holds
abbrev pub demand : Bool → ℕ → Fault
demand holds number = demand_at holds number 0

-- the paper's order: the first fault found is the one given
abbrev pub or_else : Fault → Fault → Fault
or_else fine next = next
or_else (fault number at) next = fault number at

-- what follows, unless a fault was found
abbrev pub unless : {A : Type 0} → Fault → Told A → Told A
unless fine next = next
unless (fault number at) next = refused number at

-- the result, unless a fault was found
abbrev pub judged : {A : Type 0} → Fault → A → Told A
judged f x = unless f (done x)

-- 'All leave lent memory and book as found': what a result leaves behind, or what was found
abbrev pub left_by : {A B : Type 0} → Told A → (A → B) → B → B
left_by (done x) leaves found = leaves x
left_by (refused number at) leaves found = found
