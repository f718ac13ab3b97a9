-- `moving::write_all` meets its contract: each record goes behind those before it.
use mathlib.Core.List.{List}
use mathlib.Core.Path.{◌≡◌, ap, sym, ◌∙◌}
use Prim.Native.Nat.{ℕ, ◌*◌}
use native.Mathlib.Omega.{arith}
use Rattle.octets.specs.Octets.{written_at}
use Rattle.octets.specs.Records.{joined}
use Rattle.octets.proofs.Laws.{written_none, written_whole}
use Rattle.run.specs.Record.{size_of}
use Rattle.moving.proofs.Laws.{moved_length, moved_next}
use Rattle.moving.specs.Moved.{other, moved_at, moved_bytes}
use Rattle.moving.proofs.write_all.Goals as goal

pub loop-place-init : goal.loop-place-init
unfolding joined
loop-place-init c = sym (written_none _)

pub loop-place-preserved : goal.loop-place-preserved
loop-place-preserved c = let a = c.args in
    let p = c.requires in
    let i = c.loop-place.place in
    c.rewrite.ensures ∙ ap (λ (b : List ℕ). written_at b (size_of (other a.form) * i) (moved_at a.form a.records.now i)) c.loop-place.invariant
    ∙ moved_next a.form a.records.now a.count p.1 a.buffer.now i (omega arith) p.2

pub returns : goal.returns
returns c = let a = c.args in
    let p = c.requires in
    let all : c.loop-place.place ≡ a.count = omega arith in
    c.loop-place.invariant ∙ ap (λ (n : ℕ). written_at a.buffer.now 0 (moved_bytes a.form a.records.now n)) all
    ∙ written_whole a.buffer.now (moved_bytes a.form a.records.now a.count) (moved_length a.form a.records.now a.count p.1 a.count (omega arith) ∙ sym p.2)
