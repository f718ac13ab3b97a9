-- `book::queue::shorten` meets its contract: those behind the place have moved up by one.
use mathlib.Core.Path.{◌≡◌, ap, ◌∙◌}
use mathlib.Core.List.{List}
use Prim.Native.Nat.{ℕ, ◌-◌}
use Rattle.std.proofs.Common.{rules}
use lib.ListN.{length, set}
use Rattle.book.specs.declared.Line.{Line}
use Rattle.book.proofs.Lists.{given_up}
use Rattle.book.proofs.Lines.{line_moved_up}
use Rattle.book.proofs.queue.shorten.Goals as goal

pub returns : goal.returns
unfolding given_up
returns c =
    let line = c.args.line in
    let wide : length line.numbers ≡ 16 = search rules in
    ◌∙◌ {A = Line} (ap (λ (numbers : List ℕ). record { numbers = set numbers 15 0; count = line.count - 1 }) c.copy_within.ensures.after)
    (line_moved_up line c.args.at c.requires.0 c.requires.1 wide c.requires.2)
