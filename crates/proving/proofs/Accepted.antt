-- The accepted runs beside the job, given the same input, a 32-byte buffer and a request number that is not zero: they are empty exactly
-- when the job refuses, and otherwise they are the five records from the report's first run on.
use mathlib.Core.Path.{◌≡◌, sym, ap, ◌∙◌}
use mathlib.Core.Bool.{not}
use mathlib.Core.List.{List, []}
use Prim.Native.Nat.{ℕ, ◌+◌, ◌*◌, ◌-◌}
use native.Mathlib.Omega.{arith}
use borrow.Author.Tests.{ne_eqb}
use lib.ListN.{length, take, drop, length-take, length-drop}
use Rattle.refusals.specs.Told.{Told, done, refused, Fault, unless}
use Rattle.refusals.proofs.Laws.{demand_holds}
use Rattle.factors.specs.declared.Prover.{Prover}
use Rattle.group.specs.Repeatability.{nine_unless}
use Rattle.report.specs.Judged.{report_of}
use Rattle.report.specs.declared.Report.{Report}
use Rattle.run.specs.Record.{size_of}
use Rattle.run.specs.declared.Form.{Form}
use Rattle.proving.specs.Judging.{input_fault}
use Rattle.proving.specs.Job.{first_five, found_of, report_at, job_of, accepted_by, accepted_of}
use Rattle.proving.proofs.Laws.{reached, refused_alike}
use Rattle.proving.proofs.Facts.{FoundAt, found_at, five_inside}

module _ (request : ℕ) (prover : Prover) (k limit : ℕ) (form : Form) (s : List ℕ) (asked : request ≡ 0 → ⊥) where
  -- past 14 and 22 the job is what follows from its input and its five
  past : job_of request prover k limit form s 32 ≡ unless (input_fault prover k limit form s) (nine_unless (first_five prover k limit form s) (report_at request prover k form s))
  unfolding job_of
  past = ap (λ (f : Fault). unless f (unless (input_fault prover k limit form s) (nine_unless (first_five prover k limit form s) (report_at request prover k form s)))) (demand_holds 22 (ap not (ne_eqb request 0 asked)))

  -- the number is the one that the job itself gives
  pub same_number : {number at : ℕ} → job_of request prover k limit form s 32 ≡ refused number at → found_of prover k limit form s ≡ refused number at
  unfolding found_of
  same_number is = refused_alike (input_fault prover k limit form s) (first_five prover k limit form s) (report_at request prover k form s) (λ at. at) (sym past ∙ is)

  pub empty_when_refused : {number at : ℕ} → job_of request prover k limit form s 32 ≡ refused number at → accepted_of prover k limit form s ≡ []
  unfolding accepted_of
  empty_when_refused is = ap (λ (t : Told ℕ). accepted_by (size_of form) t s) (same_number is)

  -- a job that is done found its five, and its report's first run is theirs
  pub record Begins (r : Report) : Type 0 where
    pub place : ℕ
    pub found : found_of prover k limit form s ≡ done place
    pub first : r.first ≡ place + 1

  pub done_begins : {r : Report} → job_of request prover k limit form s 32 ≡ done r → Begins r
  unfolding found_of report_at report_of
  done_begins {r} is =
      let d = reached (input_fault prover k limit form s) (first_five prover k limit form s) (report_at request prover k form s) (sym past ∙ is) in
      record {
        place = d.place;
        found = λ i. unless (d.clear i) (nine_unless (d.first i) (λ at. at));
        first = sym (ap (λ (q : Report). q.first) d.gives);
      }

  pub begins_at_first_run : {r : Report} → job_of request prover k limit form s 32 ≡ done r → accepted_of prover k limit form s ≡ take (5 * size_of form) (drop (size_of form * (r.first - 1)) s)
  unfolding accepted_of
  begins_at_first_run {r} is =
      let b = done_begins is in
      let place : b.place ≡ r.first - 1 = omega (arith, b.first) in
      ap (λ (t : Told ℕ). accepted_by (size_of form) t s) b.found ∙ ap (λ (n : ℕ). take (5 * size_of form) (drop (size_of form * n) s)) place

  -- so they are not empty
  pub whole_when_done : {r : Report} → job_of request prover k limit form s 32 ≡ done r → length (accepted_of prover k limit form s) ≡ 5 * size_of form
  unfolding accepted_of
  whole_when_done is =
      let b = done_begins is in
      let f : FoundAt prover k limit form s b.place = found_at prover k limit form s b.found in
      ap (λ (t : Told ℕ). length (accepted_by (size_of form) t s)) b.found ∙ simp (length-take, length-drop) (omega (arith, five_inside form (length s) b.place f.inside))
