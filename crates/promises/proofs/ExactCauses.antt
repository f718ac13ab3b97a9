-- Demand 1, exactly, of the contracts: each answer tells its meaning, which is accepted or refused for its one cause.
use mathlib.Core.Path.{◌≡◌, refl, sym, ap, ◌∙◌}
use mathlib.Core.Logic.{◌↔◌, ⊎_elim}
use mathlib.Core.List.{List, []}
use Prim.Native.Nat.{ℕ}
use native.Mathlib.Omega.{arith}
use lib.ListN.{length}
use Rattle.refusals.specs.Told.{Told, refused}
use Rattle.refusals.specs.Answered.{told}
use Rattle.factors.specs.declared.Prover.{Prover}
use Rattle.run.specs.declared.Form.{Form}
use Rattle.run.proofs.Places.{size_positive}
use Rattle.proving.specs.Job.{found_of, job_of, accepted_of}
use Rattle.proving.proofs.Accepted.{whole_when_done}
use Rattle.draw.specs.Answers.{count_of, draw_of}
use Rattle.draw.specs.Volumes.{counted}
use Rattle.draw.proofs.Outcome.{refused_counted}
use Rattle.promises.specs.Arguments.{first, second, third, fourth, fifth, sixth, seventh}
use Rattle.promises.specs.Causes.{ProvingCause}
use Rattle.promises.specs.ExactCauses.{ExactCauses}
use Rattle.promises.proofs.Reasons.{Tells, one_cause}
use Rattle.promises.proofs.Judging.{found_tells, job_tells, volumes_tell, draw_tells}
use Rattle.promises.proofs.Demand1.{none_when_refused}
use Rattle.promises.proofs.Demand2.{accepted_when}

-- an answer that tells its meaning is refused exactly for the meaning's cause
pub told_exactly : {R A : Type 0} {C : ℕ → ℕ → Type 0} {t m : Told R} (number at : ℕ) → Tells A C m → t ≡ m → (t ≡ refused number at) ↔ C number at
told_exactly number at tells same = ((λ is. tells.because (sym same ∙ is)), (λ why. same ∙ tells.refuses why))

-- no run records are handed back exactly when there is a cause: an acceptable job's are five records
none_handed : (prover : Prover) (k limit : ℕ) (form : Form) (s : List ℕ) → (accepted_of prover k limit form s ≡ []) ↔ ((number : ℕ) × (at : ℕ) × ProvingCause prover k limit form s number at)
none_handed prover k limit form s = (
  (λ is.
      ⊎_elim
      (λ ok.
      let job = accepted_when prover k limit form s 1 32 (record { buffer = refl; number = λ none. omega arith }) ok in
      absurd (omega (arith, ap length is, whole_when_done 1 prover k limit form s (λ none. omega arith) job.1, size_positive form refl)))
      (λ why. why)
      (one_cause (found_of prover k limit form s) (found_tells prover k form s limit)).either),
  (λ why. none_when_refused prover k limit form s ((found_tells prover k form s limit).refuses why.2)),
)

pub exact_causes : ExactCauses
exact_causes =
    record {
      one_of_proving = λ prover k limit form s. one_cause (found_of prover k limit form s) (found_tells prover k form s limit);
      one_of_job = λ request prover k limit form s size. one_cause (job_of request prover k limit form s size) (job_tells prover k form s limit request size);
      one_of_passes = λ profile prover s. one_cause (count_of profile prover s) (volumes_tell profile prover s);
      one_of_draw = λ profile prover s. one_cause (draw_of profile prover s) (draw_tells profile prover s);
      prove-exactly = λ κ a r x number at p. told_exactly number at (job_tells (second a) (third a) (fifth a) (sixth a).now (fourth a) (first a) (length (seventh a).now)) p.0;
      accept_exactly = λ κ a r x p. let none = none_handed (first a) (second a) (third a) (fourth a) (fifth a).now in ((λ is. none.0 (sym p ∙ is)), (λ why. p ∙ none.1 why));
      volumes_exactly = λ κ a r x number at p.
          let exactly = told_exactly number at (volumes_tell (first a) (second a) (third a).now) p.0 in
          ((λ is. exactly.0 (ap counted is)), (λ why. refused_counted (told r) (exactly.1 why)));
      draw_exactly = λ κ a r x number at p. told_exactly number at (draw_tells (first a) (second a) (third a).now) p;
    }
