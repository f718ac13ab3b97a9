-- `api::jobs::show` meets its contract: the answer of `run::show`, flattened.
use mathlib.Core.Path.{ap, ◌∙◌}
use Rattle.factors.specs.declared.Prover.{Prover}
use Rattle.run.specs.Answers.{shown_of}
use Rattle.api.specs.Flat.{flat_run}
use Rattle.api.proofs.jobs.show.Goals as goal

pub returns : goal.returns
returns c = let a = c.args in
    c.flatten_run.ensures ∙ ap flat_run (c.show.ensures ∙ ap (λ (p : Prover). shown_of p a.k a.form a.bytes.now) c.take_up-settings.ensures)
