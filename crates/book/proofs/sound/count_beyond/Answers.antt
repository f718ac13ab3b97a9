-- `book::sound::count_beyond` meets its contract: no more wait than a line has places.
use mathlib.Core.Path.{◌≡◌}
use Rattle.std.proofs.Common.{rules, arith}
use lib.ListN.{length}
use Rattle.book.proofs.Lines.{waiting_most}
use Rattle.book.proofs.sound.count_beyond.Goals as goal

pub returns-clause-most : goal.returns-clause-most
returns-clause-most c =
    let wide : length c.args.line.now.numbers ≡ 16 = search rules in
    let few = waiting_most c.args.line.now wide in
    grind arith
