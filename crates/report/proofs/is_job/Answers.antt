-- `report::is_job` meets its contract: runs, first run and factors are judged as the paper lists them.
use Rattle.report.specs.Judged.{first_ok, job_ok}
use Rattle.report.proofs.is_job.Goals as goal

pub returns : goal.returns
unfolding first_ok job_ok
returns c = rw (c.are_runs.ensures, c.are_factors.ensures)
