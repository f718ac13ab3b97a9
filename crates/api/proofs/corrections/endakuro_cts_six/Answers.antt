-- `api::corrections::endakuro_cts_six` meets its contract: CTS at six places.
use Rattle.api.proofs.corrections.Passed.{cts_passed}
use Rattle.api.proofs.corrections.endakuro_cts_six.Goals as goal

pub returns : goal.returns
returns c = cts_passed 6 _ _ c.ranges.t c.work_out_cts.ensures
