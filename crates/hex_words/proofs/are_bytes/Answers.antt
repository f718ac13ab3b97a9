-- `hex_words::are_bytes` meets its contract: of digits the count decides.
use Rattle.std.proofs.Common.{arith, ◌≡◌, ◌<◌, true, length, sym}
use Rattle.std.proofs.lemmas.Bool.Decides.{nat_tests}
use Rattle.hex_words.specs.Hex.{are_hex}
use Rattle.hex_words.proofs.Hex.{even_is}
use Rattle.hex_words.proofs.are_bytes.Goals as goal

pub returns-then-are_hex : goal.returns-then-are_hex
returns-then-are_hex c = let w = c.args.word.now in
    let some : 0 < length w = grind (arith, nat_tests) in
    let hex : are_hex w ≡ true = grind (arith, nat_tests) in
    even_is w (sym c.if-is_dash.ensures) some hex
