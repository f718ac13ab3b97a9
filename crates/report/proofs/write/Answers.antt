-- `report::write` meets its contract: 14, 22, 15; and the record takes the place of all 32 bytes.
use Rattle.std.proofs.Common.{Bool, sym, ap, ◌∙◌, arith}
use Rattle.std.proofs.lemmas.Grind.{common_steps}
use Rattle.refusals.proofs.Laws.{judged_fine}
use Rattle.refusals.specs.Told.{Told, done, demand, or_else, left_by}
use Rattle.report.specs.Judged.{report_of, write_of}
use Rattle.report.specs.Record.{bytes_of_report}
use Rattle.report.specs.declared.Report.{Report}
use Rattle.report.proofs.write.Goals as goal

pub returns-in_err-demand : goal.returns-in_err-demand
unfolding write_of
returns-in_err-demand c = record { answer = grind (arith, common_steps); left = grind (arith, common_steps) }

pub returns-in_err-demand-2 : goal.returns-in_err-demand-2
unfolding write_of
returns-in_err-demand-2 c = record { answer = grind (arith, common_steps); left = grind (arith, common_steps) }

pub returns-in_err-demand-3 : goal.returns-in_err-demand-3
unfolding write_of
returns-in_err-demand-3 c = record { answer = grind (arith, common_steps); left = grind (arith, common_steps) }

pub returns : goal.returns
unfolding report_of write_of
returns c = let a = c.args in
    let job = c.in_ok-demand-3.ensures ∙ ap (λ (b : Bool). demand b 15) c.is_job.ensures in
    let clear = sym (λ i. or_else (c.in_ok-demand.ensures i) (or_else (c.in_ok-demand-2.ensures i) (job i))) in
    let told = ap done (λ i. record { number = a.number; factor = c.mean.ensures i; first = a.first; runs = a.runs; factors = a.factors })
    ∙ sym (judged_fine (report_of a.number a.runs a.first a.factors) clear) in
    record { answer = told; left = c.copy_from_slice.ensures.after ∙ c.lay_out.ensures ∙ ap (λ (t : Told Report). left_by t bytes_of_report a.buffer.now) told }
