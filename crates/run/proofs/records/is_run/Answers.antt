-- `run::records::is_run` meets its contract.
use mathlib.Core.Bool.{◌&&◌}
use Rattle.run.specs.Record.{run_ok}
use Rattle.run.proofs.records.is_run.Goals as goal

pub returns : goal.returns
unfolding run_ok
returns c = λ i. c.are_pulses.ensures i && (c.is_side.ensures i && c.is_side-2.ensures i)
