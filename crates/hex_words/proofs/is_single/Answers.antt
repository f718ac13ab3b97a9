-- `hex_words::is_single` meets its contract: of bytes the count decides.
use Rattle.std.proofs.Common.{length, sym, ◌∙◌}
use lib.Dec.{eqb}
use Rattle.hex_words.specs.Hex.{is_single}
use Rattle.hex_words.proofs.Hex.{both_true}
use Rattle.hex_words.proofs.is_single.Goals as goal

pub returns-then-are_bytes : goal.returns-then-are_bytes
unfolding is_single
returns-then-are_bytes c = both_true (eqb (length c.args.word.now) 8) (sym c.are_bytes.ensures ∙ c.if-are_bytes.true)
