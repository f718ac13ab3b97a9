-- `book::sound::is_empty` meets its contract: nothing waits in all exactly where nothing waits in any line.
use mathlib.Core.Path.{◌≡◌, sym, ap, ◌∙◌}
use Rattle.std.proofs.Common.{rules, tests, ℕ, []}
use Rattle.std.proofs.lemmas.Iterator.{YieldsList-from_slice}
use Rattle.std.proofs.lemmas.Iterator.Search.{all_from_yields_List}
use Rattle.std.proofs.lemmas.List.Folds.{sum_by-zero}
use lib.Dec.{eqb}
use lib.ListN.{length}
use Rattle.book.specs.Line.{waiting}
use Rattle.book.specs.Figures.{held, over_shippers, has, waiting_of, line_at}
use Rattle.book.specs.declared.Line.{Line}
use Rattle.book.proofs.Four.{sum_items}
use Rattle.book.proofs.sound.is_empty.Goals as goal

pub returns : goal.returns
unfolding held over_shippers has waiting_of line_at
returns c =
    let book = c.args.book in
    let few : length book.lines ≡ 4 = search rules in
    all_from_yields_List (λ (line : Line). eqb (length (waiting line)) 0) _ _ c.all.result c.all.ensures.ran (YieldsList-from_slice book.lines (search rules)) (λ x b q k. search (rules, tests))
    ∙ sym (sum_by-zero (λ (line : Line). length (waiting line)) book.lines)
    ∙ ap (λ (n : ℕ). eqb n 0) (sum_items _ few (record { numbers = []; count = 0 }) (λ (line : Line). length (waiting line)))
