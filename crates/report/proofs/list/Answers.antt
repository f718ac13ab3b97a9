-- `report::list` meets its contract.
use mathlib.Core.Path.{refl}
use Rattle.report.specs.Record.{list_of}
use Rattle.report.proofs.list.Goals as goal

pub returns : goal.returns
unfolding list_of
returns c = refl
