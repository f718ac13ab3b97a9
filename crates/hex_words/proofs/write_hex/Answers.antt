-- `hex_words::write_hex` meets its contract. The loop's invariant: the digits of the first i bytes stand in their places, and the rest is as it was.
use mathlib.Core.Path.{◌≡◌, sym, ◌∙◌}
use Prim.Native.Nat.{◌+◌, ◌*◌}
use native.Mathlib.Omega.{arith}
use lib.ListN.{length}
use Rattle.hex_words.specs.Hex.{hex_text}
use Rattle.hex_words.proofs.Spelling.{text_length, text_high, text_low, two_more, all_text}
use Rattle.words.proofs.Written.{place_fits}
use Rattle.hex_words.proofs.write_hex.Goals as goal

pub loop-i-preserved : goal.loop-i-preserved
loop-i-preserved c = let l = c.loop-i in
    let a = c.args in
    let t = hex_text a.bytes.now in
    let n = text_length a.bytes.now in
    two_more a.out.now t l.out a.at l.i _ _ (omega arith) (omega arith) l.invariant
    (c.spell_hex.ensures ∙ sym (text_high a.bytes.now l.i (omega arith))) (c.spell_hex-in-loop-i.ensures ∙ sym (text_low a.bytes.now l.i (omega arith)))

pub returns : goal.returns
returns c = let l = c.loop-i in
    let a = c.args in
    let t = hex_text a.bytes.now in
    let n = text_length a.bytes.now in
    let e : a.at + length t ≡ a.at + 2 * length a.bytes.now = omega arith in
    record { place = sym (place_fits a.out.now a.at t (omega arith) ∙ e); left = all_text a.out.now t l.out a.at (2 * l.i) (omega arith) (omega arith) l.invariant }
