-- `report::is_report` meets its contract: the job is judged, and the mean compared.
use Rattle.report.specs.Judged.{report_ok}
use Rattle.report.proofs.is_report.Goals as goal

pub returns : goal.returns
unfolding report_ok
returns c = rw (c.is_job.ensures, c.mean.ensures)
