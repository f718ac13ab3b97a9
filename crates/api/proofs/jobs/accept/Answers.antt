-- `api::jobs::accept` meets its contract: the report's first run is where the accepted runs begin.
use mathlib.Core.Path.{◌≡◌, ap, sym, ◌∙◌}
use Prim.Native.Nat.{ℕ, ◌*◌, ◌-◌}
use native.Mathlib.Omega.{arith}
use Rattle.factors.specs.declared.Prover.{Prover}
use Rattle.proving.specs.Job.{job_of}
use Rattle.proving.proofs.Accepted.{same_number, Begins, done_begins}
use Rattle.api.specs.Flat.{part_of}
use Rattle.api.specs.Given.{prover_by}
use Rattle.api.proofs.jobs.accept.Lts.View as view
use Rattle.api.proofs.jobs.accept.Goals.{After-struct_known-1, After-unread-2-1}
use Rattle.api.proofs.jobs.accept.Goals as goal
use Rattle.refusals.specs.Answered.{told}

job : (c : After-unread-2-1) → told c.prove-job.result ≡ job_of 1 (prover_by c.args.prover) c.args.k c.args.limit c.args.form c.args.records.now 32
job c =
    let a = c.args in
    c.prove-job.ensures.answer ∙ ap (λ (p : Prover). job_of 1 p a.k a.limit a.form a.records.now 32) c.take_up-settings.ensures

-- the request number 1 is not zero
asked : ◌≡◌ {A = ℕ} 1 0 → ⊥
asked is = omega arith

begun : (c : After-struct_known-1) → Begins 1 (prover_by c.args.prover) c.args.k
    c.args.limit c.args.form c.args.records.now asked c.in-Ok.report
begun c =
    let a = c.args in
    done_begins 1 (prover_by a.prover) a.k a.limit a.form a.records.now asked (sym (job (view.up-After-unread-2-1 _ _ _ _ c.before.before.before)) ∙ ap told c.in-Ok.is)

place : (c : After-struct_known-1) → c.in-Ok.report.first - 1 ≡ (begun c).place
place c = omega (arith, (begun c).first)

pub overflow_sub-result : goal.overflow_sub-result
overflow_sub-result c = omega (arith, (begun (goal.at.overflow_sub-result c).After-struct_known-1).first)

pub returns-in-Ok : goal.returns-in-Ok
returns-in-Ok c = (λ i. record { start = c.size-size.ensures i * place (goal.at.returns-in-Ok c).After-struct_known-1 i; length = 5 * c.size-size.ensures i }) ∙ sym (ap (part_of c.args.form) (begun (goal.at.returns-in-Ok c).After-struct_known-1).found)

pub returns-in-Err : goal.returns-in-Err
returns-in-Err c = let a = c.args in
    sym (ap (part_of a.form) (same_number 1 (prover_by a.prover) a.k a.limit a.form a.records.now asked (sym (job (goal.at.returns-in-Err c).After-unread-2-1) ∙ ap told c.in-Err.is)))
