-- `hex_words::are_hex` meets its contract: each byte is a digit.
use Rattle.std.proofs.Common.{rules, tests, ◌∙◌}
use Rattle.std.proofs.lemmas.Iterator.{YieldsList-from_slice}
use Rattle.std.proofs.lemmas.Iterator.Search.{all_from_yields_List}
use Rattle.hex_words.proofs.Hex.{is_digit, is_some_if, all_digits}
use Rattle.hex_words.proofs.are_hex.Goals as goal

pub returns : goal.returns
returns c = let w = c.args.word.now in
    all_from_yields_List is_digit _ _ _ c.all.ensures.ran (YieldsList-from_slice w c.iter.ensures.rest) (λ x b q k. search (rules, tests, is_some_if)) ∙ all_digits w
