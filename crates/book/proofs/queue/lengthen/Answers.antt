-- `book::queue::lengthen` meets its contract: the number takes the first of the unused places.
use mathlib.Core.Path.{◌≡◌}
use Rattle.std.proofs.Common.{rules}
use lib.ListN.{length}
use Rattle.book.proofs.Lines.{line_lengthened}
use Rattle.book.proofs.queue.lengthen.Goals as goal

pub returns : goal.returns
returns c = let wide : length c.args.line.numbers ≡ 16 = search rules in line_lengthened c.args.line c.args.number c.requires.0 wide c.requires.1
