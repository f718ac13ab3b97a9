-- `run::records::read_run` meets its contract: the form's count, and the fields where the form has them.
use mathlib.Core.Path.{◌∙◌}
use Prim.Native.Nat.{◌+◌}
use Rattle.run.specs.Record.{fields_from, run_from}
use Rattle.run.proofs.records.read_run.Goals as goal

pub returns : goal.returns
unfolding run_from
returns c = let a = c.args in
    c.read_fields.ensures ∙ (λ i. fields_from (c.read_pulses-pulses.ensures i) a.s.now (a.at + c.shift.ensures i))
