-- `words::count_words` meets its contract: the spaces, and one more.
use Rattle.std.proofs.Common.{rules, tests, ap, ◌∙◌, ◌+◌, ℕ}
use Rattle.std.proofs.lemmas.List.Sums.{length-filter}
use Rattle.std.proofs.lemmas.Iterator.{YieldsList-from_slice}
use Rattle.std.proofs.lemmas.Iterator.Consumers.{YieldsList-from_filter, YieldsList-at, count_from_yields_List}
use Rattle.words.proofs.Words.{is_space, count_is}
use Rattle.words.proofs.count_words.Goals as goal

pub returns : goal.returns
returns c = let s = c.args.s.now in
    ap (λ (n : ℕ). n + 1)
    (count_from_yields_List c.filter.result _ c.count.ensures.ran
    (YieldsList-from_filter _ is_space (YieldsList-at c.filter.ensures.source (YieldsList-from_slice s c.iter.ensures.rest)) c.filter.ensures.closure (λ x b q k. search (rules, tests)))
    ∙ length-filter is_space s)
    ∙ count_is s
