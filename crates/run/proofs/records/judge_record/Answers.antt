-- `run::records::judge_record` meets its contract: 5, then 2, of the record where it begins.
use Rattle.std.proofs.Common.{◌≡◌, ◌+◌, Bool, ap, ◌∙◌, arith}
use Rattle.std.proofs.lemmas.Grind.{common_steps}
use Rattle.octets.specs.Octets.{zero_between}
use Rattle.refusals.specs.Answered.{fault_of}
use Rattle.refusals.specs.Told.{demand_at}
use Rattle.run.proofs.Places.{begun_min, begun_unnamed_min}
use Rattle.run.specs.Answers.{record_fault}
use Rattle.run.specs.Record.{run_at, run_ok, unnamed_ok}
use Rattle.run.proofs.records.judge_record.Goals as goal

pub returns-in_err-demand : goal.returns-in_err-demand
unfolding record_fault run_at
returns-in_err-demand c = let a = c.args in
    let five : fault_of c.demand.result ≡ demand_at (run_ok (run_at a.form a.s.now a.i)) 5 a.number =
    c.demand.ensures ∙ ap (λ (y : Bool). demand_at y 5 a.number) (c.is_run.ensures ∙ ap run_ok (c.read_run-run.ensures ∙ begun_min a.form a.s.now a.i c.begin-at.ensures)) in
    grind (arith, common_steps, five)

pub returns : goal.returns
unfolding record_fault run_at unnamed_ok
returns c = let a = c.args in
    let zeros = c.are_zero.ensures ∙ (λ i. zero_between a.s.now (c.begin-at.result + c.shift.ensures i + 24) (c.begin-at.result + c.size.ensures i))
    ∙ begun_unnamed_min a.form a.s.now a.i c.begin-at.ensures _ 24 _ in
    let two : fault_of c.demand-2.result ≡ demand_at (unnamed_ok a.form a.s.now a.i) 2 a.number = c.demand-2.ensures ∙ ap (λ (y : Bool). demand_at y 2 a.number) zeros in
    grind (arith, common_steps, two, begun_min)
