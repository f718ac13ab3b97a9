-- `book::rules::are_shares` meets its contract: a pair of figures for each of the four shippers.
use mathlib.Core.Path.{◌≡◌, ◌∙◌}
use Rattle.std.proofs.Common.{rules, tests, ℕ}
use Rattle.std.proofs.lemmas.Iterator.{YieldsList-from_slice, YieldsList-from_zip}
use Rattle.std.proofs.lemmas.Iterator.Search.{all_from_yields_List}
use lib.ListN.{length}
use Rattle.book.specs.Rules.{is_share, is_share_at, are_shares}
use Rattle.book.specs.Figures.{shippers, reserve_in, ceiling_in}
use Rattle.book.proofs.Four.{all_pairs}
use Rattle.book.proofs.rules.are_shares.Goals as goal

pub returns : goal.returns
unfolding are_shares is_share_at shippers reserve_in ceiling_in
returns c =
    let figures = c.args.figures in
    let few : length figures.reserves ≡ 4 = search rules in
    let many : length figures.ceilings ≡ 4 = search rules in
    all_from_yields_List (λ (p : ℕ × ℕ). is_share p.0 p.1) c.all.new.self _ c.all.result c.all.ensures.ran
    (YieldsList-from_zip (YieldsList-from_slice figures.reserves (search rules)) (YieldsList-from_slice figures.ceilings (search rules))) (λ x b q k. search (rules, tests))
    ∙ all_pairs _ _ few many 0 is_share
