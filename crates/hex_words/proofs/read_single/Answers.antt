-- `hex_words::read_single` meets its contract: of a single the four bytes, turned round, are its 32 bits.
use mathlib.Core.Bool.{Bool, cond}
use mathlib.Core.Path.{◌≡◌, ap, sym, ◌∙◌}
use mathlib.Core.List.{List}
use Prim.Native.Nat.{ℕ}
use Rattle.std.specs.Int.{w32, from_be_bytes}
use Rattle.hex_words.specs.Hex.{is_single, pairs, most_first, single_of}
use Rattle.hex_words.proofs.Hex.{single_bytes, most_joined}
use Rattle.hex_words.proofs.read_single.Goals as goal

by-test : (w : List ℕ) {t : Bool} → is_single w ≡ t → cond t (most_first 0 (pairs w)) 0 ≡ single_of w
unfolding single_of
by-test w is = ap (λ (t : Bool). cond t (most_first 0 (pairs w)) 0) (sym is)

pub returns-then-not-is_single : goal.returns-then-not-is_single
returns-then-not-is_single c = by-test c.args.word.now (sym c.is_single.ensures ∙ c.if-not-is_single.true)

pub returns : goal.returns
returns c = let w = c.args.word.now in
    let is = sym c.is_single.ensures ∙ c.if-not-is_single.false in
    c.from_be_bytes.ensures
    ∙ ap (from_be_bytes w32) (c.read_bytes-count.ensures.left ∙ single_bytes w is)
    ∙ most_joined w is
    ∙ by-test w is
