-- The book that a call leaves, of what it makes of the book where nothing is at fault.
use mathlib.Core.Path.{◌≡◌, refl}
use Rattle.refusals.specs.Told.{Fault, fine, fault, judged, left_by}
use Rattle.book.specs.declared.Book.{Book}

pub judged_left : (f : Fault) (next found : Book) → left_by (judged f next) (λ (left : Book). left) found ≡ left_by {A = Unit {0}} (judged f tt) (λ (made : Unit). next) found
judged_left fine next found = refl
judged_left (fault number at) next found = refl
