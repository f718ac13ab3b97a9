-- `proving::prove` meets its contract: 14 and 22 first, and the report of what was found.
use Rattle.std.proofs.Common.{◌≡◌, ◌+◌, length, sym, ap, ◌∙◌, arith}
use Rattle.std.proofs.lemmas.Grind.{common_steps}
use borrow.Author.Tests.{eqb-true, eqb-false, not-true}
use Rattle.refusals.proofs.Laws.{demand_was}
use Rattle.refusals.specs.Told.{Told, done, left_by, or_else, unless}
use Rattle.octets.specs.Records.{records_in}
use Rattle.group.specs.Repeatability.{nine_unless}
use Rattle.report.specs.Judged.{write_of}
use Rattle.report.specs.Record.{bytes_of_report}
use Rattle.report.specs.declared.Report.{Report}
use Rattle.proving.proofs.Laws.{refused_alike}
use Rattle.proving.proofs.Facts.{Proved, proved, written}
use Rattle.proving.specs.Job.{first_five, five_from, five_of, report_at, job_of}
use Rattle.proving.specs.Judging.{input_fault}
use Rattle.proving.proofs.prove.Goals.{In_ok-five}
use Rattle.proving.proofs.prove.Goals as goal

five : (c : In_ok-five) → Proved c.args.prover c.args.k c.args.limit c.args.form c.args.records.now c.in_ok-five.five
five c = proved _ _ _ _ _ (sym c.in_ok-five.ensures)

pub returns-in_err-demand : goal.returns-in_err-demand
unfolding job_of
returns-in_err-demand c = record { answer = grind (arith, common_steps); left = grind (arith, common_steps) }

pub returns-in_err-demand-2 : goal.returns-in_err-demand-2
unfolding job_of
returns-in_err-demand-2 c = record { answer = grind (arith, common_steps); left = grind (arith, common_steps) }

pub returns-in_err-five : goal.returns-in_err-five
unfolding job_of five_of
returns-in_err-five c = let a = c.args in
    let gone = refused_alike (input_fault a.prover a.k a.limit a.form a.records.now) (first_five a.prover a.k a.limit a.form a.records.now) (five_from a.prover a.k a.form a.records.now) (report_at a.request a.prover a.k a.form a.records.now) (sym c.in_err-five.ensures) in
    record { answer = grind (arith, common_steps, gone); left = grind (arith, common_steps, gone) }

pub overflow_cast-runs : goal.overflow_cast-runs
unfolding records_in
overflow_cast-runs c = omega (arith, c.count_runs-runs.ensures, (five (goal.at.overflow_cast-runs c).In_ok-five).found.settled.most)

pub overflow_add-five : goal.overflow_add-five
overflow_add-five c = let f = (five (goal.at.overflow_add-five c).In_ok-five).found in omega (arith, f.inside, f.settled.most)

pub overflow_cast-five : goal.overflow_cast-five
overflow_cast-five c = let f = (five (goal.at.overflow_cast-five c).In_ok-five).found in omega (arith, f.inside, f.settled.most)

pub returns : goal.returns
unfolding job_of
returns c = let a = c.args in
    let p = five (goal.at.returns c).In_ok-five in
    let sized = eqb-true (length a.buffer.now) 32 (demand_was _ 14 (sym c.in_ok-demand.ensures)) in
    let asked = eqb-false a.request 0 (not-true _ (demand_was _ 22 (sym c.in_ok-demand-2.ensures))) in
    let at = c.in_ok-five.five.at in
    let report = report_at a.request a.prover a.k a.form a.records.now in
    let wrote : write_of (length a.buffer.now) a.request c.count_runs-runs.result (at + 1) c.in_ok-five.five.factors ≡ done (report at) =
    (λ i. write_of (sized i) a.request (c.count_runs-runs.ensures i) (at + 1) (p.factors i)) ∙ written a.request a.prover a.k a.limit a.form a.records.now asked p.found in
    let judged : job_of a.request a.prover a.k a.limit a.form a.records.now (length a.buffer.now) ≡ done (report at) =
    λ i. unless (or_else (sym c.in_ok-demand.ensures i) (sym c.in_ok-demand-2.ensures i)) (unless (p.found.judged i) (nine_unless (p.found.first i) report)) in
    let same = wrote ∙ sym judged in
    record { answer = c.write.ensures.answer ∙ same; left = c.write.ensures.left ∙ ap (λ (t : Told Report). left_by t bytes_of_report a.buffer.now) same }
