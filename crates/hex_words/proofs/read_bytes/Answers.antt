-- `hex_words::read_bytes` meets its contract. The loop's invariant: the first i bytes stand in their places, and the rest is as it was.
use mathlib.Core.Path.{◌≡◌, refl, sym, ap, ◌∙◌}
use Prim.Native.Nat.{◌+◌, ◌/◌}
use native.Mathlib.Omega.{arith}
use lib.ListN.{length}
use lib.Seq.{length-take-le}
use Rattle.octets.specs.Octets.{written_at}
use Rattle.octets.proofs.Laws.{written_not}
use Rattle.hex_words.specs.Hex.{pairs}
use Rattle.words.specs.Written.{place_after}
use Rattle.hex_words.proofs.Hex.{pairs_length, pairs_at, bytes_some, one_pair, all_pairs, as_long}
use Rattle.words.proofs.Written.{place_fits, place_not}
use Rattle.hex_words.proofs.read_bytes.Goals as goal

pub returns-then-into-count : goal.returns-then-into-count
returns-then-into-count c = let a = c.args in
    let e = bytes_some a.word.now (sym c.are_bytes.ensures ∙ c.if-not-are_bytes.false) in
    let n = pairs_length a.word.now in
    record {
      counts = (omega arith, refl);
      place = sym (ap (place_after a.into.now 0) e ∙ place_not a.into.now 0 (pairs a.word.now) (omega arith));
      left = sym (ap (written_at a.into.now 0) e ∙ written_not a.into.now 0 (pairs a.word.now) (omega arith));
    }

pub loop-i-preserved : goal.loop-i-preserved
loop-i-preserved c = let l = c.loop-i in
    let w = c.args.word.now in
    let n = pairs_length w in
    one_pair c.args.into.now w l.into l.i c.join_hex.result (omega arith) (omega arith) l.invariant (c.join_hex.ensures ∙ sym (pairs_at w l.i (omega arith)))

pub returns : goal.returns
returns c = let l = c.loop-i in
    let a = c.args in
    let w = a.word.now in
    let n = pairs_length w in
    let e = bytes_some w (sym c.are_bytes.ensures ∙ c.if-not-are_bytes.false) in
    let k = as_long a.into.now w l.into l.i (omega arith) (omega arith) l.invariant in
    record {
      counts = (omega arith, sym (length-take-le _ l.into (omega arith)));
      place = sym (ap (place_after a.into.now 0) e ∙ place_fits a.into.now 0 (pairs w) (omega arith) ∙ (let z : 0 + length (pairs w) ≡ length w / 2 = omega arith in z));
      left = all_pairs a.into.now w l.into l.i (omega arith) (omega arith) l.invariant ∙ sym (ap (written_at a.into.now 0) e);
    }
