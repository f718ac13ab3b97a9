-- `report::mean` meets its contract: the mean of numbers of 16 bits has 16 bits.
use mathlib.Core.Path.{ap, ◌∙◌}
use native.Mathlib.Omega.{arith}
use Rattle.exact.specs.Rounding.{rounded_div}
use Rattle.exact.specs.Words.{sum_of}
use Rattle.group.specs.Mean.{mean_of}
use Rattle.report.specs.Record.{list_of}
use Rattle.report.proofs.mean.Goals as goal

pub overflow_cast-result : goal.overflow_cast-result
unfolding rounded_div sum_of mean_of list_of
overflow_cast-result c = omega (arith, c.mean.ensures ∙ ap mean_of c.list.ensures)
