-- The answers lose nothing: two that tell the same are the same. What the passes' answer says to the draw. And when a draw is accepted.
use Rattle.std.specs.Prelude.{Result, Ok, Err, Option, None, Some}
use Rattle.std.specs.Result.{IsErrAnd}
use mathlib.Core.Path.{◌≡◌, refl, sym, ap, ◌∙◌}
use mathlib.Core.List.{List, []}
use Prim.Native.Nat.{ℕ, ◌≤◌}
use native.Mathlib.Omega.{arith}
use lib.ListN.{length, take}
use Rattle.refusals.specs.Table.{number_of, record_of}
use Rattle.refusals.specs.Told.{Told, done, refused, fine, fault, left_by}
use Rattle.refusals.specs.declared.Refusal.{Refusal}
use Rattle.refusals.proofs.Laws.{judged_fault, refusal_one, done_one, refused_number, refused_record, judged_was, judged_done, judged_refused, refused_not_done, unless_done}
use Rattle.octets.specs.Records.{zeros_after}
use Rattle.group.specs.Repeatability.{group_at, first_group, nine_unless}
use Rattle.group.proofs.Groups.{FirstGroup, first_found}
use Rattle.group.proofs.Listed.{listed_length}
use Rattle.factors.specs.declared.Prover.{Prover}
use Rattle.draw.specs.Profile.{volume_count, volume_of, volumes_of}
use Rattle.draw.specs.Base.{base_from, base_of}
use Rattle.draw.specs.Answers.{draw_fault, count_of, held_for, draw_of}
use Rattle.draw.specs.Volumes.{counted, held}
use Rattle.draw.specs.declared.DrawVolumes.{DrawVolumes}
use Rattle.draw.specs.declared.BaseVolume.{BaseVolume}
use Rattle.draw.specs.declared.Profile.{Profile}
use Rattle.draw.proofs.Judged.{refusal_back}
use Rattle.draw.proofs.Sound.{few_volumes}
use Rattle.draw.proofs.Filling.{length_zeros, held_values}
use Rattle.refusals.specs.Answered.{told}

-- a refusal that tells the same is the same
refusal_same : {A : Type 0} (r q : Refusal) → ◌≡◌ {A = Told A} (refused (number_of r) (record_of r)) (refused (number_of q) (record_of q)) → r ≡ q
refusal_same r q is = refusal_one r q (refused_number is) (refused_record is)

pub volumes_length : (profile : Profile) (prover : Prover) (s : List ℕ) → length (volumes_of profile prover s) ≡ volume_count profile s
unfolding volumes_of
volumes_length profile prover s = listed_length (volume_of profile prover s) (volume_count profile s) 1

-- the array beside an answer
pub held_by : (profile : Profile) (prover : Prover) (s : List ℕ) {told : Told ℕ} → count_of profile prover s ≡ told → held_for profile prover s ≡ zeros_after 20 (left_by told (λ n. volumes_of profile prover s) [])
unfolding held_for
held_by profile prover s is = rw is

-- what a count of volumes says: judging found nothing, and the array begins with all the profile's volumes
pub record Found (profile : Profile) (prover : Prover) (s volumes : List ℕ) (count : ℕ) : Type 0 where
  pub nothing : draw_fault profile prover s ≡ fine
  pub few : count ≤ 20
  pub places : length volumes ≡ 20
  pub used : take count volumes ≡ volumes_of profile prover s

-- a refused draw: of its volumes is told what was found, and they are zeros alone
pub volumes_refused : (profile : Profile) (prover : Prover) (s : List ℕ) (r : Result DrawVolumes Refusal) (q : Refusal) → IsErrAnd r (λ e. e ≡ q)
    → draw_fault profile prover s ≡ fault (number_of q) (record_of q) → (counted (told r) ≡ count_of profile prover s) × (held (told r) ≡ held_for profile prover s)
unfolding count_of
volumes_refused profile prover s r q is found =
    let refusal = judged_fault (volume_count profile s) found in
    let back = refusal_back r q is refl in
    (ap counted back ∙ sym refusal, ap held back ∙ sym (held_by profile prover s refusal))

-- the count is refused as the answer is
pub refused_counted : {number at : ℕ} (t : Told DrawVolumes) → counted t ≡ refused number at → t ≡ refused number at
refused_counted (done found) is = cc
refused_counted (refused number at) is = λ i. refused (refused_number is i) (refused_record is i)

-- two answers with the same count, or refusal, and the same volumes are the same
pub volumes_one : (a b : Result DrawVolumes Refusal) → counted (told a) ≡ counted (told b) → held (told a) ≡ held (told b) → a ≡ b
volumes_one (Ok x) (Ok y) count volumes = λ i. Ok (record { count = done_one count i; volumes = volumes i })
volumes_one (Ok x) (Err r) count volumes = absurd (refused_not_done (sym count))
volumes_one (Err r) (Ok y) count volumes = absurd (refused_not_done count)
volumes_one (Err r) (Err q) count volumes = ap Err (refusal_same r q count)

module _ (profile : Profile) (prover : Prover) (s : List ℕ) {answer : Result DrawVolumes Refusal} (tells : counted (told answer) ≡ count_of profile prover s) where
  pub volumes_found : {found : DrawVolumes} → held (told answer) ≡ held_for profile prover s → answer ≡ Ok found → Found profile prover s found.volumes found.count
  unfolding count_of
  volumes_found {found} holds is =
      let told-count : count_of profile prover s ≡ done found.count = sym tells ∙ ap (λ (a : Result DrawVolumes Refusal). counted (told a)) is in
      let nothing : draw_fault profile prover s ≡ fine = judged_was (draw_fault profile prover s) (volume_count profile s) told-count in
      let count : volume_count profile s ≡ found.count = judged_done (draw_fault profile prover s) (volume_count profile s) told-count in
      let few : volume_count profile s ≤ 20 = few_volumes profile prover s nothing in
      let long : length (volumes_of profile prover s) ≡ volume_count profile s = volumes_length profile prover s in
      let array : found.volumes ≡ zeros_after 20 (volumes_of profile prover s) = sym (ap (λ (a : Result DrawVolumes Refusal). held (told a)) is) ∙ holds ∙ held_by profile prover s told-count in
      record {
        nothing = nothing;
        few = omega arith;
        places = ap length array ∙ length_zeros 20 (volumes_of profile prover s) (omega arith);
        used = ap (take found.count) array ∙ held_values 20 (volumes_of profile prover s) found.count (omega arith);
      }

  pub draw_refused : {refusal : Refusal} → answer ≡ Err refusal → refused (number_of refusal) (record_of refusal) ≡ draw_of profile prover s
  unfolding draw_of count_of
  draw_refused is = rw (judged_refused (draw_fault profile prover s) (volume_count profile s) (sym tells ∙ ap (λ (a : Result DrawVolumes Refusal). counted (told a)) is))

-- ---- when a draw is accepted

record Chosen {A : Type 0} (place : Option ℕ) (follows : ℕ → A) (x : A) : Type 0 where
  at : ℕ
  here : place ≡ Some at
  gives : x ≡ follows at

chosen : {A : Type 0} (place : Option ℕ) (follows : ℕ → A) {x : A} → nine_unless place follows ≡ done x → Chosen place follows x
chosen None follows is = absurd (refused_not_done is)
chosen (Some at) follows is = record { at = at; here = refl; gives = done_one (sym is) }

-- demand 2: judging found nothing, and the base volume is that of the first three consecutive volumes that qualify
pub record Accepted (profile : Profile) (prover : Prover) (s : List ℕ) (base : BaseVolume) : Type 0 where
  pub nothing : draw_fault profile prover s ≡ fine
  pub at : ℕ
  pub first : FirstGroup 2 3 (volumes_of profile prover s) at
  pub gives : base ≡ base_from profile (group_at 3 (volumes_of profile prover s) at) at

pub accepted : (profile : Profile) (prover : Prover) (s : List ℕ) {base : BaseVolume} → draw_of profile prover s ≡ done base → Accepted profile prover s base
unfolding draw_of base_of
accepted profile prover s is =
    let volumes = volumes_of profile prover s in
    let parts = unless_done (draw_fault profile prover s) (base_of profile 2 3 volumes) is in
    let by = chosen (first_group 2 3 volumes) (λ at. base_from profile (group_at 3 volumes at) at) parts.1 in
    record { nothing = parts.0; at = by.at; first = first_found 2 3 volumes by.here; gives = by.gives }
