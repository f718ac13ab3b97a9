-- `moving::lengthen` meets its contract: three writes, one behind the other, are one.
use mathlib.Core.List.{List, ◌++◌}
use mathlib.Core.Path.{◌≡◌, ap, sym, ◌∙◌}
use Prim.Native.Nat.{ℕ, ◌+◌, ◌*◌, ◌-◌, ◌≤◌}
use native.Mathlib.Omega.{arith}
use lib.ListN.{length, take, drop, replicate, length-append, length-replicate}
use Rattle.octets.specs.Octets.{long_at, bytes_of, written_at}
use Rattle.octets.proofs.Laws.{length_bytes, written_both}
use Rattle.moving.proofs.Laws.{part_length}
use Rattle.moving.specs.Moved.{lengthened}
use Rattle.moving.proofs.lengthen.Goals as goal

-- what is written behind what was, and then the zeros
all-written : (s to : List ℕ) (i : ℕ) → 32 * i + 32 ≤ length s → 48 * i + 48 ≤ length to
    → written_at (written_at (written_at to (48 * i) (bytes_of 8 (long_at s (32 * i) * 1000))) (48 * i + 8) (take 28 (drop (32 * i + 4) s))) (48 * i + 36) (replicate 12 0) ≡ written_at to (48 * i) (lengthened s i)
unfolding lengthened
all-written s to i lent room =
    let count : List ℕ = bytes_of 8 (long_at s (32 * i) * 1000) in
    let part : List ℕ = take 28 (drop (32 * i + 4) s) in
    let eight : length count ≡ 8 = length_bytes 8 (long_at s (32 * i) * 1000) in
    let more : length part ≡ 28 = part_length s (32 * i + 4) (omega arith) in
    let both : length (count ++ part) ≡ 36 = length-append count part ∙ (λ t. eight t + more t) in
    let zeros : length (replicate {A = ℕ} 12 0) ≡ 12 = length-replicate {A = ℕ} 12 0 in
    ap (λ (n : ℕ). written_at (written_at (written_at to (48 * i) count) (48 * i + n) part) (48 * i + 36) (replicate 12 0)) (sym eight)
    ∙ ap (λ (l : List ℕ). written_at l (48 * i + 36) (replicate 12 0)) (written_both to (48 * i) count part (omega (arith, eight, more)))
    ∙ ap (λ (n : ℕ). written_at (written_at to (48 * i) (count ++ part)) (48 * i + n) (replicate 12 0)) (sym both)
    ∙ written_both to (48 * i) (count ++ part) (replicate 12 0) (omega (arith, both, zeros))

pub returns : goal.returns
returns c = let a = c.args in
    let s = a.records.now in
    let to = a.buffer.now in
    let i = a.i in
    let count = c.quad_bytes-pulses.ensures ∙ ap (λ (n : ℕ). bytes_of 8 (n * 1000)) c.long_at.ensures in
    let size : 32 * i + 32 - (32 * i + 4) ≡ 28 = omega arith in
    c.write_at-3.ensures
    ∙ ap (λ (l : List ℕ). written_at l (48 * i + 36) (replicate 12 0)) c.write_at-2.ensures
    ∙ (λ t. written_at (written_at ((c.write_at.ensures ∙ ap (written_at to (48 * i)) count) t) (48 * i + 8) (take (size t) (drop (32 * i + 4) s))) (48 * i + 36) (replicate 12 0))
    ∙ all-written s to i c.requires.1 c.requires.2
