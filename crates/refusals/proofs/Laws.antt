-- The table loses nothing: a number with its record names one case. And the laws of judging in order.
use Rattle.std.specs.Prelude.{Result, Ok, Err}
use mathlib.Core.Path.{◌≡◌, refl, sym, ap, ◌∙◌}
use mathlib.Core.Bool.{Bool, true, false, cond}
use mathlib.Core.List.{List, [], ◌∷◌}
use Prim.Native.Nat.{ℕ}
use native.Mathlib.Omega.{arith}
use lib.Dec.{eqb}
use Rattle.refusals.specs.Table.{number_of, record_of, cases}
use Rattle.refusals.specs.Told.{Told, done, refused, Fault, fine, fault, demand, demand_at, or_else, unless, judged}
use Rattle.refusals.specs.declared.Refusal.{Refusal}
use Rattle.refusals.specs.declared.Refusal.TheVariants.{Records, UnnamedByte, ProverSetting, KFactorOrLimit, RecordField, PassRule, IndicatedVolume, RunFactor, NoGroup, TicketField, ClosingBelowOpening, ReadingNotFinite, ReadingRange, ReportBuffer, NotReport, BookNotSound, UnknownShipper, NumberZero, AlreadyWaiting, CeilingReached, CommonsFull, NotWaiting, NothingToTake, BookNotEmpty, FiguresOutside, TableRecord, NoSuchPair, FaultCode, WrongKind, NotWhole}
use Rattle.refusals.specs.Answered.{told, fault_of}

-- the case that a number and a record name: the first of the cases that has the number
named : ℕ → List Refusal → Refusal
named number [] = NotWhole 0
named number (refusal ∷ rest) = cond (eqb (number_of refusal) number) refusal (named number rest)

case_of : ℕ → ℕ → Refusal
case_of number at = named number (cases at)

case_back : (r : Refusal) → case_of (number_of r) (record_of r) ≡ r
unfolding case_of named
case_back Records = refl
case_back (UnnamedByte at) = refl
case_back ProverSetting = refl
case_back KFactorOrLimit = refl
case_back (RecordField at) = refl
case_back (PassRule at) = refl
case_back (IndicatedVolume at) = refl
case_back (RunFactor at) = refl
case_back NoGroup = refl
case_back TicketField = refl
case_back ClosingBelowOpening = refl
case_back ReadingNotFinite = refl
case_back ReadingRange = refl
case_back ReportBuffer = refl
case_back NotReport = refl
case_back BookNotSound = refl
case_back UnknownShipper = refl
case_back NumberZero = refl
case_back AlreadyWaiting = refl
case_back CeilingReached = refl
case_back CommonsFull = refl
case_back NotWaiting = refl
case_back NothingToTake = refl
case_back BookNotEmpty = refl
case_back FiguresOutside = refl
case_back (TableRecord at) = refl
case_back NoSuchPair = refl
case_back FaultCode = refl
case_back WrongKind = refl
case_back (NotWhole at) = refl

-- two refusals with the same number and record are the same
pub refusal_one : (r s : Refusal) → number_of r ≡ number_of s → record_of r ≡ record_of s → r ≡ s
refusal_one r s p q = sym (case_back r) ∙ (λ i. case_of (p i) (q i)) ∙ case_back s

-- no refusal has number 0
pub not-zero : (r : Refusal) → number_of r ≡ 0 → ⊥
unfolding case_of named
not-zero r is =
    let last : number_of r ≡ 36 = ap number_of (sym (case_back r) ∙ ap (λ (n : ℕ). case_of n (record_of r)) is) in
    omega arith

-- two judgings with the same fault are the same
pub verdict_one : (a b : Result Unit Refusal) → fault_of a ≡ fault_of b → a ≡ b
verdict_one (Ok x) (Ok y) is = refl
verdict_one (Ok x) (Err s) is = cc
verdict_one (Err r) (Ok y) is = cc
verdict_one (Err r) (Err s) is = let number : number_of r ≡ number_of s = cc in let at : record_of r ≡ record_of s = cc in ap Err (refusal_one r s number at)

-- what is told holds its result, or its number and record, and not both
pub done_one : {A : Type 0} {x y : A} → ◌≡◌ {A = Told A} (done x) (done y) → x ≡ y
done_one p = cc

pub refused_number : {A : Type 0} {n m a b : ℕ} → ◌≡◌ {A = Told A} (refused n a) (refused m b) → n ≡ m
refused_number p = cc

pub refused_record : {A : Type 0} {n m a b : ℕ} → ◌≡◌ {A = Told A} (refused n a) (refused m b) → a ≡ b
refused_record p = cc

-- two answers that tell the same are the same
pub told_one : {A : Type 0} (a b : Result A Refusal) → told a ≡ told b → a ≡ b
told_one (Ok x) (Ok y) is = ap Ok (done_one is)
told_one (Ok x) (Err s) is = cc
told_one (Err r) (Ok y) is = cc
told_one {A} (Err r) (Err s) is = ap Err (refusal_one r s (refused_number {A = A} is) (refused_record {A = A} is))

-- a result comes only of no fault
pub judged_fine : {A : Type 0} {f : Fault} (x : A) → f ≡ fine → judged f x ≡ done x
judged_fine x p = ap (λ (f : Fault). judged f x) p

pub judged_fault : {A : Type 0} {f : Fault} {n at : ℕ} (x : A) → f ≡ fault n at → judged f x ≡ refused n at
judged_fault x p = ap (λ (f : Fault). judged f x) p

pub demand_at_holds : {t : Bool} (n at : ℕ) → t ≡ true → demand_at t n at ≡ fine
demand_at_holds n at p = ap (λ (t : Bool). demand_at t n at) p

pub demand_at_fails : {t : Bool} (n at : ℕ) → t ≡ false → demand_at t n at ≡ fault n at
demand_at_fails n at p = ap (λ (t : Bool). demand_at t n at) p

pub demand_holds : {t : Bool} (n : ℕ) → t ≡ true → demand t n ≡ fine
demand_holds n = demand_at_holds n 0

pub demand_fails : {t : Bool} (n : ℕ) → t ≡ false → demand t n ≡ fault n 0
demand_fails n = demand_at_fails n 0

-- the first fault found is the one given
pub or_else_next : {f : Fault} (g : Fault) → f ≡ fine → or_else f g ≡ g
or_else_next g p = ap (λ (f : Fault). or_else f g) p

pub or_else_first : {f : Fault} {n at : ℕ} (g : Fault) → f ≡ fault n at → or_else f g ≡ fault n at
or_else_first g p = ap (λ (f : Fault). or_else f g) p

-- no fault at all is none in either part
pub or_else_fine_first : (f g : Fault) → or_else f g ≡ fine → f ≡ fine
or_else_fine_first fine g is = refl
or_else_fine_first (fault n at) g is = is

pub or_else_fine_next : (f g : Fault) → or_else f g ≡ fine → g ≡ fine
or_else_fine_next fine g is = is
or_else_fine_next (fault n at) g is = cc

pub demand_was : (t : Bool) (n : ℕ) → demand t n ≡ fine → t ≡ true
demand_was true n is = refl
demand_was false n is = cc

pub demand_at_was : (t : Bool) (n at : ℕ) → demand_at t n at ≡ fine → t ≡ true
demand_at_was true n at is = refl
demand_at_was false n at is = cc

-- a result shows that no fault was found, and which result it is
pub judged_was : {A : Type 0} (f : Fault) (x : A) {y : A} → judged f x ≡ done y → f ≡ fine
judged_was fine x is = refl
judged_was (fault n at) x is = cc

pub judged_done : {A : Type 0} (f : Fault) (x : A) {y : A} → judged f x ≡ done y → x ≡ y
judged_done fine x is = done_one is
judged_done (fault n at) x is = cc

-- what follows no fault, and that a result comes of none
pub unless_done : {A : Type 0} (f : Fault) (t : Told A) {x : A} → unless f t ≡ done x → (f ≡ fine) × (t ≡ done x)
unless_done fine t is = (refl, is)
unless_done (fault number at) t is = let z : ◌≡◌ {A = ℕ} 0 1 = cc in absurd (omega arith)

pub unless_fine : {A : Type 0} {f : Fault} {t u : Told A} → f ≡ fine → t ≡ u → unless f t ≡ u
unless_fine {A} {f} {t} clear is = ap (λ (g : Fault). unless g t) clear ∙ is

-- a refusal shows the fault
pub judged_refused : {A : Type 0} (f : Fault) (x : A) {n at : ℕ} → judged f x ≡ refused n at → f ≡ fault n at
judged_refused fine x is = cc
judged_refused (fault m b) x is = λ i. fault (refused_number is i) (refused_record is i)

pub fault_not_fine : {n at : ℕ} → fault n at ≡ fine → ⊥
fault_not_fine is = let z : ◌≡◌ {A = ℕ} 0 1 = cc in omega arith

pub refused_not_done : {A : Type 0} {n at : ℕ} {x : A} → ◌≡◌ {A = Told A} (refused n at) (done x) → ⊥
refused_not_done is = let z : ◌≡◌ {A = ℕ} 0 1 = cc in omega arith
