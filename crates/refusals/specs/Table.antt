-- 01, 'Numbers given back', with the rows that 02 adds: the table, a line for each of its rows.
use Rattle.std.specs.Prelude.{List, [], ◌∷◌, ℕ}
use Rattle.refusals.specs.declared.GivenBack.{GivenBack}
use Rattle.refusals.specs.declared.Refusal.{Refusal}
use Rattle.refusals.specs.declared.Refusal.TheVariants.{Records, UnnamedByte, ProverSetting, KFactorOrLimit, RecordField, PassRule, IndicatedVolume, RunFactor, NoGroup, TicketField, ClosingBelowOpening, ReadingNotFinite, ReadingRange, ReportBuffer, NotReport, BookNotSound, UnknownShipper, NumberZero, AlreadyWaiting, CeilingReached, CommonsFull, NotWaiting, NothingToTake, BookNotEmpty, FiguresOutside, TableRecord, NoSuchPair, FaultCode, WrongKind, NotWhole}

-- a row: its number, and '(*) carries the record, from 1'
pub data Row : Type 0 where
  plain : ℕ → Row
  starred : ℕ → ℕ → Row

abbrev pub row_of : Refusal → Row
row_of Records = plain 1
row_of (UnnamedByte at) = starred 2 at
row_of ProverSetting = plain 3
row_of KFactorOrLimit = plain 4
row_of (RecordField at) = starred 5 at
row_of (PassRule at) = starred 6 at
row_of (IndicatedVolume at) = starred 7 at
row_of (RunFactor at) = starred 8 at
row_of NoGroup = plain 9
row_of TicketField = plain 10
row_of ClosingBelowOpening = plain 11
row_of ReadingNotFinite = plain 12
row_of ReadingRange = plain 13
row_of ReportBuffer = plain 14
row_of NotReport = plain 15
row_of BookNotSound = plain 20
row_of UnknownShipper = plain 21
row_of NumberZero = plain 22
row_of AlreadyWaiting = plain 23
row_of CeilingReached = plain 24
row_of CommonsFull = plain 25
row_of NotWaiting = plain 26
row_of NothingToTake = plain 27
row_of BookNotEmpty = plain 30
row_of FiguresOutside = plain 31
row_of (TableRecord at) = starred 32 at
row_of NoSuchPair = plain 33
row_of FaultCode = plain 34
row_of WrongKind = plain 35
row_of (NotWhole at) = starred 36 at

-- the row's number
abbrev pub number_in : Row → ℕ
number_in (plain number) = number
number_in (starred number at) = number

-- '(*) carries the record, from 1; others carry 0'
abbrev pub record_in : Row → ℕ
record_in (plain number) = 0
record_in (starred number at) = at

abbrev pub number_of : Refusal → ℕ
number_of refusal = number_in (row_of refusal)

abbrev pub record_of : Refusal → ℕ
record_of refusal = record_in (row_of refusal)

-- what a caller is given back: the number and the record
abbrev pub given_back : Refusal → GivenBack
given_back refusal = record { number = number_of refusal; at = record_of refusal }

-- every case of the table, a starred one with this record
abbrev pub cases : ℕ → List Refusal
cases at =
    Records ∷ UnnamedByte at ∷ ProverSetting ∷ KFactorOrLimit ∷ RecordField at ∷ PassRule at ∷ IndicatedVolume at ∷ RunFactor at
    ∷ NoGroup ∷ TicketField ∷ ClosingBelowOpening ∷ ReadingNotFinite ∷ ReadingRange ∷ ReportBuffer ∷ NotReport ∷ BookNotSound
    ∷ UnknownShipper ∷ NumberZero ∷ AlreadyWaiting ∷ CeilingReached ∷ CommonsFull ∷ NotWaiting ∷ NothingToTake ∷ BookNotEmpty
    ∷ FiguresOutside ∷ TableRecord at ∷ NoSuchPair ∷ FaultCode ∷ WrongKind ∷ NotWhole at ∷ []
