-- `api::jobs::endakuro_run_long` meets its contract: one long record's figures.
use Rattle.api.proofs.jobs.endakuro_run_long.Goals as goal

pub returns : goal.returns
returns c = c.show.ensures
