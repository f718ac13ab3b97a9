-- `api::jobs::endakuro_run` meets its contract: one short record's figures.
use Rattle.api.proofs.jobs.endakuro_run.Goals as goal

pub returns : goal.returns
returns c = c.show.ensures
