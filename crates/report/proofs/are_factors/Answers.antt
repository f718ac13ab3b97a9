-- `report::are_factors` meets its contract: each of the five is judged.
use Rattle.std.proofs.Common.{rules, tests, ap, ◌∙◌}
use Rattle.std.proofs.lemmas.Iterator.{YieldsList-from_slice}
use Rattle.std.proofs.lemmas.Iterator.Search.{all_from_yields_List}
use Rattle.ranges.specs.Table.{run_factor_ok}
use Rattle.report.proofs.Laws.{all_in_range}
use Rattle.report.specs.Judged.{factors_ok}
use Rattle.report.proofs.are_factors.Goals as goal

pub returns : goal.returns
returns c = all_from_yields_List run_factor_ok _ _ c.all.result c.all.ensures.ran (YieldsList-from_slice c.list.result c.iter.ensures.rest) (λ x b q k. search (rules, tests))
    ∙ all_in_range c.list.result ∙ ap factors_ok c.list.ensures
