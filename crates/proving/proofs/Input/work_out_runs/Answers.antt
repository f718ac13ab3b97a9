-- `proving::Input::work_out_runs` meets its contract. The loop's invariant: no run before i is at fault, and the array holds the factors of those runs.
use Rattle.std.proofs.Common.{◌≡◌, ◌+◌, ap, sym, ◌∙◌, arith}
use lib.ListN.{length-set}
use Rattle.refusals.specs.Told.{judged}
use Rattle.refusals.specs.Answered.{told}
use Rattle.refusals.proofs.Laws.{judged_was, judged_done, judged_refused}
use Rattle.octets.proofs.FirstToLast.{faults, next, scan_hit, done}
use Rattle.group.proofs.Listed.{filled}
use Rattle.run.specs.Record.{run_at}
use Rattle.run.specs.Figures.{figures_of}
use Rattle.run.specs.Answers.{worked_of}
use Rattle.run.specs.declared.Figures.{Figures}
use Rattle.run.specs.declared.Run.{Run}
use Rattle.proving.specs.Answers.{refused_in}
use Rattle.proving.specs.Judging.{run_fault}
use Rattle.proving.specs.Job.{factor_at}
use Rattle.proving.proofs.Laws.{run_judged}
use Rattle.proving.proofs.Input.work_out_runs.Goals.{After-work_out-worked}
use Rattle.proving.proofs.Input.work_out_runs.Goals as goal

-- the run's answer is its own 7 or 8, or its figures
answered : (c : After-work_out-worked) → told c.work_out-worked.result
    ≡ judged (run_fault c.args.self.prover c.args.self.k c.args.self.form c.args.self.records.now c.loop-i.i) (figures_of c.args.self.prover c.args.self.k (run_at c.args.self.form c.args.self.records.now c.loop-i.i))
answered c =
    let a = c.args.self in
    c.work_out-worked.ensures
    ∙ ap (λ (run : Run). worked_of a.prover a.k run (c.loop-i.i + 1)) c.decode-run.ensures
    ∙ run_judged a.prover a.k a.form a.records.now c.loop-i.i c.requires.0 c.requires.1 (c.requires.3 c.loop-i.i c.loop-i-test.true)

pub returns-in_default-clause-fault : goal.returns-in_default-clause-fault
returns-in_default-clause-fault c = let a = c.args.self in
    let l = c.loop-i in
    let fault = run_fault a.prover a.k a.form a.records.now in
    let is = c.in_default.is in
    let own = judged_refused (fault l.i) _ (sym (answered (goal.at.returns-in_default-clause-fault c).After-work_out-worked) ∙ ap told is) in
    ap refused_in (rw is at c.map.ensures.cases) ∙ sym (scan_hit fault c.args.count l.i c.loop-i-test.true own l.invariant.fault)

pub loop-i-preserved : goal.loop-i-preserved
unfolding factor_at
loop-i-preserved c = let a = c.args.self in
    let l = c.loop-i in
    let fault = run_fault a.prover a.k a.form a.records.now in
    let figures = figures_of a.prover a.k (run_at a.form a.records.now l.i) in
    let is = sym (answered (goal.at.loop-i-preserved c).After-work_out-worked) ∙ ap told c.in-Ok.is in
    record {
      fault = next faults fault c.args.count l.i c.loop-i-test.true (judged_was (fault l.i) figures is) l.invariant.fault;
      sized = length-set l.values l.i _ ∙ l.invariant.sized;
      factors = filled l.values l.i _ (factor_at a.prover a.k a.form a.records.now) (omega arith) l.invariant.factors (sym (ap (λ (s : Figures). s.factor) (judged_done (fault l.i) figures is)));
    }

pub returns-clause-fault : goal.returns-clause-fault
returns-clause-fault c = sym (done faults (run_fault c.args.self.prover c.args.self.k c.args.self.form c.args.self.records.now) c.args.count c.loop-i.i c.loop-i-test.false c.loop-i.invariant.fault)
