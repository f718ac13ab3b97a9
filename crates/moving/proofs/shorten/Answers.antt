-- `moving::shorten` meets its contract: two writes, one behind the other, are one.
use mathlib.Core.List.{List}
use mathlib.Core.Path.{◌≡◌, ap, sym, ◌∙◌}
use Prim.Native.Nat.{ℕ, ◌+◌, ◌*◌, ◌-◌, ◌/◌, ◌≤◌}
use native.Mathlib.Omega.{arith}
use lib.ListN.{length, take, drop}
use Rattle.octets.specs.Octets.{quad_at, bytes_of, written_at}
use Rattle.octets.proofs.Laws.{length_bytes, written_both}
use Rattle.moving.proofs.Laws.{part_length}
use Rattle.moving.specs.Moved.{shortened}
use Rattle.moving.proofs.shorten.Goals as goal

both-written : (s to : List ℕ) (i : ℕ) → 48 * i + 48 ≤ length s → 32 * i + 32 ≤ length to
    → written_at (written_at to (32 * i) (bytes_of 4 (quad_at s (48 * i) / 1000))) (32 * i + 4) (take 28 (drop (48 * i + 8) s)) ≡ written_at to (32 * i) (shortened s i)
unfolding shortened
both-written s to i lent room =
    let count : List ℕ = bytes_of 4 (quad_at s (48 * i) / 1000) in
    let part : List ℕ = take 28 (drop (48 * i + 8) s) in
    let four : length count ≡ 4 = length_bytes 4 (quad_at s (48 * i) / 1000) in
    let more : length part ≡ 28 = part_length s (48 * i + 8) (omega arith) in
    ap (λ (n : ℕ). written_at (written_at to (32 * i) count) (32 * i + n) part) (sym four)
    ∙ written_both to (32 * i) count part (omega (arith, four, more))

pub returns : goal.returns
returns c = let a = c.args in
    let s = a.records.now in
    let to = a.buffer.now in
    let i = a.i in
    let count = c.long_bytes-pulses.ensures ∙ ap (λ (n : ℕ). bytes_of 4 (n / 1000)) c.quad_at.ensures in
    let size : 48 * i + 36 - (48 * i + 8) ≡ 28 = omega arith in
    c.write_at-2.ensures
    ∙ (λ t. written_at ((c.write_at.ensures ∙ ap (written_at to (32 * i)) count) t) (32 * i + 4) (take (size t) (drop (48 * i + 8) s)))
    ∙ both-written s to i c.requires.1 c.requires.2
