-- `words::word` meets its contract: the part of its number.
use Rattle.std.proofs.Common.{rules, tests, ◌≡◌, ap, ◌∙◌, List, [], ℕ, Bor, Option, Some, None}
use Rattle.std.specs.Option.{option_map, unwrap_or}
use Rattle.std.specs.List.{slice_split}
use Rattle.std.proofs.lemmas.Option.{unwrap_or-slice_get}
use Rattle.std.proofs.lemmas.Iterator.Consumers.{nth_from_yields_List}
use Rattle.std.proofs.lemmas.Iterator.Splits.{YieldsList-from_slice_split}
use Rattle.words.proofs.Words.{is_space, word_is}
use Rattle.words.proofs.word.Goals as goal

-- what is lent where there is no part holds no bytes
read : (r : Option (Bor (List ℕ))) (d : Bor (List ℕ)) {w : Bor (List ℕ)} → w ≡ unwrap_or r d → w.now ≡ unwrap_or (option_map (λ p. p.now) r) d.now
read None d e = ap (λ (w : Bor (List ℕ)). w.now) e
read (Some p) d e = ap (λ (w : Bor (List ℕ)). w.now) e

pub returns : goal.returns
returns c = let s = c.args.s.now in
    read c.nth.result _ c.unwrap_or.ensures
    ∙ ap (λ (w : Option (List ℕ)). unwrap_or w []) (nth_from_yields_List _ _ c.args.n c.nth.ensures.ran (YieldsList-from_slice_split _ is_space s c.split.ensures.rest c.split.ensures.done c.split.ensures.closure (λ x b q k. search (rules, tests))))
    ∙ unwrap_or-slice_get (slice_split is_space s) c.args.n []
    ∙ word_is s c.args.n
