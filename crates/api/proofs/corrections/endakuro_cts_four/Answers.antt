-- `api::corrections::endakuro_cts_four` meets its contract: CTS at four places.
use Rattle.api.proofs.corrections.Passed.{cts_passed}
use Rattle.api.proofs.corrections.endakuro_cts_four.Goals as goal

pub returns : goal.returns
returns c = cts_passed 4 _ _ c.ranges.t c.work_out_cts.ensures
