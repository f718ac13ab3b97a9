-- `book::sound::are_unused_zero` meets its contract: those behind the count are the unused places.
use mathlib.Core.Path.{◌≡◌, ◌∙◌, ap}
use Rattle.std.proofs.Common.{rules, tests, ℕ, ◌-◌}
use Rattle.std.proofs.lemmas.Iterator.{YieldsList-from_slice}
use Rattle.std.proofs.lemmas.Iterator.Adapters.{YieldsList-from_skip}
use Rattle.std.proofs.lemmas.Iterator.Search.{all_from_yields_List}
use lib.Dec.{eqb}
use lib.ListN.{length}
use Rattle.octets.specs.Octets.{zero_between}
use Rattle.book.proofs.Lines.{zeros_from}
use Rattle.book.proofs.sound.are_unused_zero.Goals as goal

pub returns : goal.returns
unfolding zero_between
returns c =
    let line = c.args.line.now in
    let wide : length line.numbers ≡ 16 = search rules in
    all_from_yields_List (λ (x : ℕ). eqb x 0) _ _ c.all.result c.all.ensures.ran (YieldsList-from_skip line.count (YieldsList-from_slice line.numbers (search rules)) (search rules)) (λ x b q k. search (rules, tests))
    ∙ zeros_from line.numbers (16 - line.count) line.count (ap (λ (n : ℕ). n - line.count) wide)
