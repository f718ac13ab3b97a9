-- Demand 1: 'it ends with either its result or one number from the table .., with the record at fault where there is one', exactly. A
-- proving, a job, the passes of a water draw and the draw are accepted, or there is a cause (Causes.antt) to refuse them; not both, and
-- no two causes: number and record are fixed. And the entries' own contracts refuse with a number and a record exactly for that cause.
-- `f.Post κ a r x` is what f ensures of the arguments a at entry, the answer r and the arguments x at exit, as in Entries.antt.
use Rattle.std.specs.Prelude.{◌≡◌, ◌↔◌, ◌⊎◌, List, [], ℕ, length}
use Rattle.refusals.specs.Told.{refused}
use Rattle.factors.specs.declared.Prover.{Prover}
use Rattle.run.specs.declared.Form.{Form}
use Rattle.draw.specs.declared.Profile.{Profile}
use Rattle.proving.proofs.prove.Reads as prove
use Rattle.proving.proofs.accept.Reads as accept
use Rattle.draw.proofs.volumes.Reads as volumes
use Rattle.draw.proofs.draw.Reads as draw
use Rattle.promises.specs.Arguments.{first, second, third, fourth, fifth, sixth, seventh}
use Rattle.promises.specs.Proving.{Asked, Acceptable}
use Rattle.promises.specs.WaterDraw as water
use Rattle.promises.specs.Causes.{ProvingCause, JobCause, PassesCause, DrawCause}
use Rattle.refusals.specs.Answered.{told}

-- accepted, or refused for one cause
pub record OneCause (Accepted : Type 0) (Cause : ℕ → ℕ → Type 0) : Type 0 where
  pub either : Accepted ⊎ ((number : ℕ) × (at : ℕ) × Cause number at)
  pub not_both : {number at : ℕ} → Accepted → Cause number at → ⊥
  pub no_other : {number at number' at' : ℕ} → Cause number at → Cause number' at' → (number ≡ number') × (at ≡ at')

pub record ExactCauses : Type 0 where
  pub one_of_proving : (prover : Prover) (k limit : ℕ) (form : Form) (s : List ℕ) → OneCause (Acceptable prover k limit form s) (ProvingCause prover k limit form s)
  pub one_of_job : (request : ℕ) (prover : Prover) (k limit : ℕ) (form : Form) (s : List ℕ) (size : ℕ)
      → OneCause (Asked request size × Acceptable prover k limit form s) (JobCause request prover k limit form s size)
  pub one_of_passes : (profile : Profile) (prover : Prover) (s : List ℕ) → OneCause (water.InputWithin profile prover s) (PassesCause profile prover s)
  pub one_of_draw : (profile : Profile) (prover : Prover) (s : List ℕ) → OneCause (water.Acceptable profile prover s) (DrawCause profile prover s)
  pub prove-exactly : (κ : _) (a : _) (r : _) (x : _) (number at : ℕ) → prove.Post κ a r x
      → (told r ≡ refused number at) ↔ JobCause (first a) (second a) (third a) (fourth a) (fifth a) (sixth a).now (length (seventh a).now) number at
  -- the entry that hands run records back gives no number: it hands back none exactly when there is a cause
  pub accept_exactly : (κ : _) (a : _) (r : _) (x : _) → accept.Post κ a r x
      → (r.now ≡ []) ↔ ((number : ℕ) × (at : ℕ) × ProvingCause (first a) (second a) (third a) (fourth a) (fifth a).now number at)
  pub volumes_exactly : (κ : _) (a : _) (r : _) (x : _) (number at : ℕ) → volumes.Post κ a r x
      → (told r ≡ refused number at) ↔ PassesCause (first a) (second a) (third a).now number at
  pub draw_exactly : (κ : _) (a : _) (r : _) (x : _) (number at : ℕ) → draw.Post κ a r x
      → (told r ≡ refused number at) ↔ DrawCause (first a) (second a) (third a).now number at
