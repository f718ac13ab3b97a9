-- The records before this place stand in their places, and the rest is as it was.
use mathlib.Core.Path.{◌≡◌}
use Rattle.octets.specs.Octets.{written_at}
use Rattle.moving.specs.Moved.{moved_bytes}
use Rattle.moving.proofs.write_all.Given as goal

abbrev pub invariant-loop-place : goal.invariant-loop-place
invariant-loop-place l = l.buffer ≡ written_at l.initial.buffer 0 (moved_bytes l.form l.records l.place)
