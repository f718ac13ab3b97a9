-- `api::jobs::prove` meets its contract: the answer of `proving::prove`, flattened, and the bytes that it leaves.
use mathlib.Core.Path.{ap, ◌∙◌}
use lib.ListN.{length}
use Rattle.factors.specs.declared.Prover.{Prover}
use Rattle.refusals.specs.Told.{left_by}
use Rattle.report.specs.Record.{bytes_of_report}
use Rattle.proving.specs.Job.{job_of}
use Rattle.api.specs.Flat.{flat_report}
use Rattle.api.proofs.jobs.prove.Goals as goal

pub returns : goal.returns
returns c = let a = c.args in
    let job = ap (λ (p : Prover). job_of a.request p a.k a.limit a.form a.records.now (length a.buffer.now)) c.take_up-settings.ensures in
    record { answer = c.flatten.ensures ∙ ap flat_report (c.prove.ensures.answer ∙ job); left = c.prove.ensures.left ∙ (λ i. left_by (job i) bytes_of_report a.buffer.now) }
