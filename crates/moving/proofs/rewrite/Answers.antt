-- `moving::rewrite` meets its contract: each form by its own.
use mathlib.Core.Bool.{true}
use mathlib.Core.Path.{◌≡◌, subst}
use Prim.Native.Nat.{◌+◌, ◌*◌, ◌≤◌}
use lib.ListN.{length}
use Rattle.run.specs.Record.{size_of, run_at, run_ok}
use Rattle.run.specs.declared.Form.{Form}
use Rattle.moving.proofs.Laws.{pulses_most}
use Rattle.moving.specs.Moved.{other}
use Rattle.moving.proofs.rewrite.Goals as goal

pub shorten-requires : goal.shorten-requires
shorten-requires c = let is = c.in-Long.is in (
  c.requires.0,
  subst (λ (f : Form). size_of f * c.args.i + size_of f ≤ length c.args.records.now) is c.requires.1,
  subst (λ (f : Form). size_of (other f) * c.args.i + size_of (other f) ≤ length c.args.buffer.now) is c.requires.2,
  pulses_most c.args.records.now c.args.i (subst (λ (f : Form). run_ok (run_at f c.args.records.now c.args.i) ≡ true) is c.requires.3),
)
