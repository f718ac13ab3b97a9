-- `report::read` meets its contract: 14, then 15.
use Rattle.std.proofs.Common.{◌≡◌, ◌&&◌, eqb, length, ap, ◌∙◌, arith}
use Rattle.std.proofs.lemmas.Grind.{common_steps}
use Rattle.refusals.specs.Answered.{fault_of}
use Rattle.refusals.specs.Told.{demand}
use Rattle.report.specs.Judged.{report_ok, is_report, read_of}
use Rattle.report.proofs.read.Goals as goal

pub returns-in_err-demand : goal.returns-in_err-demand
unfolding read_of
returns-in_err-demand c = let size : fault_of c.demand.result ≡ demand (eqb (length c.args.bytes.now) 32) 14 = c.demand.ensures in
    grind (arith, common_steps, size)

pub returns-in_err-demand-2 : goal.returns-in_err-demand-2
unfolding is_report read_of
returns-in_err-demand-2 c = let ok = c.is_report.ensures ∙ ap report_ok c.decode-report.ensures in
    let report : fault_of c.demand-2.result ≡ demand (is_report c.args.bytes.now) 15 = c.demand-2.ensures ∙ (λ i. demand (ok i && c.are_zero.ensures i) 15) in
    grind (arith, common_steps, report)

pub returns : goal.returns
unfolding is_report read_of
returns c = grind (arith, common_steps)
