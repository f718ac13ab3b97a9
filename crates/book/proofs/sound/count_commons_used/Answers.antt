-- `book::sound::count_commons_used` meets its contract: a line and a reserve for each of the four shippers, and the sum is small.
use mathlib.Core.Path.{◌≡◌, ◌∙◌}
use Rattle.std.proofs.Common.{rules, tests, arith, ℕ, ◌-◌, ◌≤◌, []}
use Rattle.std.proofs.lemmas.Iterator.{YieldsList-from_slice, YieldsList-from_zip, YieldsList-from_map}
use Rattle.std.proofs.lemmas.Iterator.Adapters.{fits_from_length, at_most_from_yields_List}
use Rattle.std.proofs.lemmas.Iterator.Consumers.{YieldsList-at, sum_by_from_yields_List}
use Rattle.std.specs.List.{zip}
use lib.ListN.{length}
use Rattle.book.specs.Line.{waiting}
use Rattle.book.specs.Figures.{commons_used, over_shippers, beyond, has, waiting_of, line_at, reserve, reserve_in}
use Rattle.book.specs.declared.Line.{Line}
use Rattle.book.proofs.Four.{sum_pairs, length_pairs}
use Rattle.book.proofs.sound.count_commons_used.Goals as goal

pub sum-requires-clause-fits : goal.sum-requires-clause-fits
sum-requires-clause-fits c =
    let book = c.args.book in
    let few : length book.lines ≡ 4 = search rules in
    let many : length book.figures.reserves ≡ 4 = search rules in
    let pairs : length (zip book.lines book.figures.reserves) ≤ 4 = length_pairs _ _ few many in
    fits_from_length _ _ 4 _ (at_most_from_yields_List (YieldsList-from_zip (YieldsList-from_slice book.lines (search rules)) (YieldsList-from_slice book.figures.reserves (search rules))) pairs) c.map.ensures.closure (omega arith) (λ x r q k. search (rules, tests))

pub returns : goal.returns
unfolding commons_used over_shippers beyond has waiting_of line_at reserve reserve_in
returns c =
    let book = c.args.book in
    let few : length book.lines ≡ 4 = search rules in
    let many : length book.figures.reserves ≡ 4 = search rules in
    sum_by_from_yields_List _ _ c.map.result c.sum.result c.sum.ensures.ran
    (YieldsList-from_map _ (λ (p : Line × ℕ). length (waiting p.0) - p.1) (YieldsList-at c.map.ensures.source (YieldsList-from_zip (YieldsList-from_slice book.lines (search rules)) (YieldsList-from_slice book.figures.reserves (search rules)))) c.map.ensures.closure (λ x r q k. search (rules, tests)))
    ∙ sum_pairs _ _ few many (record { numbers = []; count = 0 }) (λ (line : Line) (own : ℕ). length (waiting line) - own)
