-- `octets::signed_at` meets its contract: the machine's two's complement is the paper's signed word.
use mathlib.Core.Path.{◌≡◌, sym, ◌∙◌, ap}
use mathlib.Core.Logic.{by_cases}
use Prim.Native.Nat.{ℕ, suc, ◌-◌, ◌≤◌, ◌<◌}
use native.Mathlib.Decide.{dec_lt}
use native.Mathlib.Omega.{arith}
use Rattle.std.proofs.Common.{rules}
use borrow.Author.Tests.{lt-ltb, le-ltb}
use lib.IntN.{ℤ}
use mir.Syntax.{w16}
use mir.Val.{to_z, of_z}
use Rattle.std.proofs.Math.Facts.{of_z-to_z}
use Rattle.octets.specs.Octets.{signed_at, signed_of}
use Rattle.octets.proofs.Laws.{signed_low, signed_high}
use Rattle.octets.proofs.signed_at.Goals as goal

machine-low : (x : ℕ) → x < 32768 → to_z w16 x ≡ signed_of x
machine-low x h = rw (lt-ltb x 32768 h) (sym (signed_low x h))

machine-high : (x : ℕ) → 32768 ≤ x → x < 65536 → to_z w16 x ≡ signed_of x
machine-high x h l =
    let less : 65536 - suc x ≡ 65535 - x = omega arith in
    rw (le-ltb x 32768 h, less) (sym (signed_high x h l))

machine : (x : ℕ) → x < 65536 → to_z w16 x ≡ signed_of x
machine x small = by_cases (dec_lt x 32768) (machine-low x) (λ high. machine-high x (omega arith) small)

pub returns : goal.returns
unfolding signed_at
returns c = let x = c.word_at in
    let small : x.result < 65536 = omega arith in
    ap (λ (z : ℤ). to_z w16 (of_z w16 z)) c.cast_signed.ensures ∙ ap (to_z w16) (of_z-to_z {w = w16} {n = x.result} (search rules)) ∙ machine x.result small ∙ ap signed_of x.ensures
