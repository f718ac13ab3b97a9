-- `api::jobs::endakuro_prove_long` meets its contract: a job of long records.
use Rattle.api.proofs.jobs.endakuro_prove_long.Goals as goal

pub returns : goal.returns
returns c = record { answer = c.prove.ensures.answer; left = c.prove.ensures.left }
