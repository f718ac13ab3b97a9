-- What follows from a five that is found, or that is not; and a run's answer, once its settings and fields are judged.
use Rattle.std.specs.Prelude.{Option, None, Some}
use mathlib.Core.Path.{◌≡◌, refl, ap, ◌∙◌}
use mathlib.Core.Bool.{true}
use mathlib.Core.List.{List}
use Prim.Native.Nat.{ℕ, ◌+◌}
use Rattle.refusals.specs.Told.{done, refused, Fault, fine, fault, unless, judged}
use Rattle.refusals.proofs.Laws.{done_one, refused_number, refused_record, refused_not_done, demand_holds, demand_at_holds, or_else_next}
use Rattle.ranges.specs.Table.{k_factor_ok}
use Rattle.factors.specs.Prover.{prover_ok}
use Rattle.factors.specs.declared.Prover.{Prover}
use Rattle.group.specs.Repeatability.{nine_unless}
use Rattle.run.specs.Record.{run_at, run_ok}
use Rattle.run.specs.Figures.{figures_of}
use Rattle.run.specs.Answers.{given_fault, figures_told, worked_of}
use Rattle.run.specs.declared.Form.{Form}
use Rattle.proving.specs.Judging.{run_fault}

module _ {A : Type 0} where
  -- a result shows that judging found no fault, the place of the five, and that the result follows from it
  pub record Reached (f : Fault) (o : Option ℕ) (follows : ℕ → A) (x : A) : Type 0 where
    pub clear : f ≡ fine
    pub place : ℕ
    pub first : o ≡ Some place
    pub gives : follows place ≡ x

  pub reached : (f : Fault) (o : Option ℕ) (follows : ℕ → A) {x : A} → unless f (nine_unless o follows) ≡ done x → Reached f o follows x
  reached fine None follows is = absurd (refused_not_done is)
  reached fine (Some at) follows is = record { clear = refl; place = at; first = refl; gives = done_one is }
  reached (fault number at) o follows is = absurd (refused_not_done is)

-- a five that is not found is refused alike, whatever was to follow from it
pub refused_alike : {A B : Type 0} (f : Fault) (o : Option ℕ) (follows : ℕ → A) (also : ℕ → B) {number at : ℕ} → unless f (nine_unless o follows) ≡ refused number at → unless f (nine_unless o also) ≡ refused number at
refused_alike fine None follows also is = λ i. refused (refused_number is i) (refused_record is i)
refused_alike fine (Some at) follows also is = cc
refused_alike (fault number at) o follows also is = λ i. refused (refused_number is i) (refused_record is i)

-- a run whose settings, K and fields were judged answers with its own 7 or 8, or with its figures
pub run_judged : (prover : Prover) (k : ℕ) (form : Form) (s : List ℕ) (i : ℕ) → prover_ok prover ≡ true → k_factor_ok k ≡ true → run_ok (run_at form s i) ≡ true
    → worked_of prover k (run_at form s i) (i + 1) ≡ judged (run_fault prover k form s i) (figures_of prover k (run_at form s i))
unfolding given_fault figures_told worked_of run_fault
run_judged prover k form s i p kok fields =
    ap (λ (f : Fault). unless f (figures_told prover k (run_at form s i) (i + 1))) (or_else_next _ (demand_holds 3 p) ∙ or_else_next _ (demand_holds 4 kok) ∙ demand_at_holds 5 (i + 1) fields)
