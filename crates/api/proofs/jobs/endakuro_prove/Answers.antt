-- `api::jobs::endakuro_prove` meets its contract: a job of short records.
use Rattle.api.proofs.jobs.endakuro_prove.Goals as goal

pub returns : goal.returns
returns c = record { answer = c.prove.ensures.answer; left = c.prove.ensures.left }
