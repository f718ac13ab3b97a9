-- `book::rules::add_reserves` meets its contract: four bytes make no large sum.
use mathlib.Core.Path.{◌≡◌, ◌∙◌}
use Rattle.std.proofs.Common.{rules, sum, ℕ}
use Rattle.std.proofs.iter.runs.Sources.{sums}
use lib.ListN.{length}
use Rattle.book.specs.Figures.{over_shippers, reserve_in}
use Rattle.book.proofs.Four.{sum_items}
use Rattle.book.proofs.rules.add_reserves.Goals as goal

pub sum-requires-clause-fits : goal.sum-requires-clause-fits
sum-requires-clause-fits c = search (rules, sums)

pub returns : goal.returns
unfolding over_shippers reserve_in
returns c =
    let four : length c.args.figures.reserves ≡ 4 = search rules in
    let summed : c.sum.result ≡ sum c.args.figures.reserves = search rules in
    summed ∙ sum_items _ four 0 (λ (n : ℕ). n)
