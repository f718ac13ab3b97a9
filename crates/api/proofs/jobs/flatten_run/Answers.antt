-- `api::jobs::flatten_run` meets its contract: the number, the record and the values that the answer tells.
use Rattle.std.proofs.Common.{◌∙◌}
use Rattle.api.specs.Flat.{flat_run, run_with, no_figures}
use Rattle.api.proofs.Values.{values_told}
use Rattle.api.proofs.jobs.flatten_run.Goals as goal

pub returns : goal.returns
unfolding flat_run
returns c =
    let given = c.give_back-given.ensures in
    λ i. run_with (given.number i) (given.record i) ((c.unwrap_or-figures.ensures ∙ values_told no_figures c.args.worked) i)
