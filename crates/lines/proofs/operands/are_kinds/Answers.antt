-- `lines::operands::are_kinds` meets its contract: each word is of its kind.
use Rattle.std.proofs.Common.{rules, tests, ◌∙◌}
use Rattle.std.proofs.lemmas.Iterator.{YieldsList-from_slice}
use Rattle.std.proofs.lemmas.Iterator.Consumers.{YieldsList-at, YieldsList-from_enumerate}
use Rattle.std.proofs.lemmas.Iterator.Search.{all_from_yields_List}
use Rattle.lines.proofs.Forms.{kind_at, all_kinds}
use Rattle.lines.proofs.operands.are_kinds.Goals as goal

pub returns : goal.returns
returns c = let line = c.args.line.now in
    let kinds = c.args.kinds.now in
    all_from_yields_List (kind_at line) _ _ _ c.all.ensures.ran (YieldsList-from_enumerate (YieldsList-at c.enumerate.ensures.source (YieldsList-from_slice kinds c.iter.ensures.rest)) c.enumerate.ensures.count) (λ x b q k. search (rules, tests)) ∙ all_kinds line kinds 0
