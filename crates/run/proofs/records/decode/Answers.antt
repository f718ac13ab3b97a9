-- `run::records::decode` meets its contract: a record that begins past the end reads as the end does.
use mathlib.Core.Path.{◌∙◌}
use Rattle.run.proofs.Places.{begun_min}
use Rattle.run.specs.Record.{run_at}
use Rattle.run.proofs.records.decode.Goals as goal

pub returns : goal.returns
unfolding run_at
returns c = let a = c.args in
    c.read_run.ensures ∙ begun_min a.form a.s.now a.i c.begin.ensures
