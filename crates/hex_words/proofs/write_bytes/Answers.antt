-- `hex_words::write_bytes` meets its contract: no bytes are a `-`.
use Rattle.std.proofs.Common.{arith, ◌≡◌, sym, ap, ◌∙◌, length}
use Rattle.std.proofs.lemmas.Bool.Decides.{nat_tests}
use Rattle.octets.specs.Octets.{written_at}
use Rattle.words.specs.Written.{place_after}
use Rattle.hex_words.proofs.Spelling.{dash_word}
use Rattle.hex_words.proofs.write_bytes.Goals as goal

pub returns-then-is_empty : goal.returns-then-is_empty
returns-then-is_empty c = let a = c.args in
    let none : length a.bytes.now ≡ 0 = grind (arith, nat_tests) in
    let e = sym (dash_word a.bytes.now none) in
    record { place = c.write_text.ensures.place ∙ ap (place_after a.out.now a.at) e; left = c.write_text.ensures.left ∙ ap (written_at a.out.now a.at) e }
