-- `api::reports::endakuro_write` meets its contract: the answer of `report::write`, flattened, and the bytes that it leaves.
use mathlib.Core.Path.{ap, ◌∙◌}
use Rattle.api.specs.Flat.{flat_report}
use Rattle.api.proofs.reports.endakuro_write.Goals as goal

pub returns : goal.returns
returns c = record { answer = c.flatten.ensures ∙ ap flat_report c.write.ensures.answer; left = c.write.ensures.left }
