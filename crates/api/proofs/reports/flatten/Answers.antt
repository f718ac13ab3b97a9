-- `api::reports::flatten` meets its contract: the number, the record and the values that the answer tells.
use Rattle.std.proofs.Common.{◌∙◌}
use Rattle.api.specs.Flat.{flat_report, report_with, no_report}
use Rattle.api.proofs.Values.{values_told}
use Rattle.api.proofs.reports.flatten.Goals as goal

pub returns : goal.returns
unfolding flat_report
returns c =
    let given = c.give_back-given.ensures in
    λ i. report_with (given.number i) (given.record i) ((c.unwrap_or-report.ensures ∙ values_told no_report c.args.answer) i)
