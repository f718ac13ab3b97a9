-- An answer's meaning loses nothing.
use mathlib.Core.Path.{◌≡◌}
use mathlib.Core.Bool.{Bool}
use Rattle.refusals.specs.Told.{Told, refused}
use Rattle.refusals.specs.Table.{number_of, record_of}
use Rattle.refusals.specs.declared.Refusal.{Refusal}
use Rattle.refusals.proofs.Laws.{refusal_one, refused_number, refused_record, told_one}
use Rattle.book.specs.declared.Book.{Book}
use Rattle.book.specs.declared.Changed.{Changed}
use Rattle.book.proofs.sound.is_sound.Reads as is-sound
use Rattle.refusals.specs.Answered.{told}

refusal_same : {A : Type 0} (r q : Refusal) → ◌≡◌ {A = Told A} (refused (number_of r) (record_of r)) (refused (number_of q) (record_of q)) → r ≡ q
refusal_same r q p = refusal_one r q (refused_number p) (refused_record p)

pub changed_one : (r q : Changed) → told r.answer ≡ told q.answer → r.book ≡ q.book → r ≡ q
changed_one r q told left = λ i. record { book = left i; answer = told_one r.answer q.answer told i }

-- the contract of `sound::is_sound`, whose module is private: `promises` has it by these names in its table of one outcome
abbrev pub SoundPre : Unit {0} → Book × Unit {0} → Type 0
SoundPre κ a = is-sound.Pre κ a

abbrev pub SoundPost : Unit {0} → Book × Unit {0} → Bool → Book × Unit {0} → Type 0
SoundPost κ a r x = is-sound.Post κ a r x
