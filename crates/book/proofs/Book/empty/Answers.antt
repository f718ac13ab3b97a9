-- `book::Book::empty` meets its contract: it computes.
use mathlib.Core.Path.{refl}
use Rattle.book.specs.Figures.{default_figures, empty_book, shippers}
use Rattle.book.specs.Line.{line_of}
use Rattle.book.proofs.Book.empty.Goals as goal

pub returns : goal.returns
unfolding empty_book default_figures shippers line_of
returns c = refl
