-- Demand 2 of the contracts of the job and of the water draw: each answer tells its meaning, of which the demand is proved.
use Rattle.std.specs.Prelude.{Ok}
use mathlib.Core.Path.{◌≡◌, refl, sym, ap, ◌∙◌}
use mathlib.Core.List.{List, []}
use Prim.Native.Nat.{ℕ}
use lib.ListN.{length}
use Rattle.refusals.specs.Told.{Told, Fault, unless, judged, left_by}
use Rattle.octets.specs.Records.{zeros_after}
use Rattle.factors.specs.declared.Prover.{Prover}
use Rattle.report.specs.Record.{bytes_of_report}
use Rattle.report.specs.declared.Report.{Report}
use Rattle.draw.specs.Passes.{pass_volume}
use Rattle.draw.specs.Profile.{trip_volume, volume_count, volume_of, volumes_of}
use Rattle.draw.specs.Base.{base_of}
use Rattle.draw.specs.Answers.{fills_fault, draw_fault, count_of, held_for, draw_of}
use Rattle.draw.specs.declared.Profile.{Profile}
use Rattle.draw.proofs.Outcome.{volumes_one}
use Rattle.draw.specs.declared.Profile.TheVariants.{Unidirectional, Bidirectional}
use Rattle.promises.specs.Arguments.{first, second, third, fourth, fifth, sixth, seventh}
use Rattle.promises.specs.Jobs.{Jobs}
use Rattle.promises.proofs.Demand2.{accepted_only_when, accepted_when, first_is_used, draw_accepted_only_when, draw_accepted_when, draw_first_is_used}
use Rattle.refusals.specs.Answered.{told}
use Rattle.refusals.proofs.Laws.{told_one}

-- what takes no more of a prover than its metal and its pipe
bare : Prover → Prover
bare p = record { metal = p.metal; pipe = p.pipe; base = 0 }

without_base : {R : Type 0} (f : Profile → Prover → List ℕ → R) → ((profile : Profile) (p : Prover) (s : List ℕ) → f profile p s ≡ f profile (bare p) s)
    → {profile other : Profile} (p q : Prover) {s t : List ℕ} → profile ≡ other → p.metal ≡ q.metal → p.pipe ≡ q.pipe → s ≡ t → f profile p s ≡ f other q t
unfolding bare
without_base f takes {profile} {other} p q {s} {t} kind metal pipe records =
    takes profile p s ∙ (λ i. f (kind i) (record { metal = metal i; pipe = pipe i; base = 0 }) (records i)) ∙ sym (takes other q t)

fault_takes : (profile : Profile) (p : Prover) (s : List ℕ) → draw_fault profile p s ≡ draw_fault profile (bare p) s
unfolding bare draw_fault fills_fault
fault_takes profile p s = refl

volumes_take : (profile : Profile) (p : Prover) (s : List ℕ) → volumes_of profile p s ≡ volumes_of profile (bare p) s
unfolding bare volumes_of volume_of trip_volume pass_volume
volumes_take Unidirectional p s = refl
volumes_take Bidirectional p s = refl

count_takes : (profile : Profile) (p : Prover) (s : List ℕ) → count_of profile p s ≡ count_of profile (bare p) s
unfolding count_of
count_takes profile p s = ap (λ (f : Fault). judged f (volume_count profile s)) (fault_takes profile p s)

held_takes : (profile : Profile) (p : Prover) (s : List ℕ) → held_for profile p s ≡ held_for profile (bare p) s
unfolding held_for
held_takes profile p s = λ i. zeros_after 20 (left_by (count_takes profile p s i) (λ count. volumes_take profile p s i) [])

draw_takes : (profile : Profile) (p : Prover) (s : List ℕ) → draw_of profile p s ≡ draw_of profile (bare p) s
unfolding draw_of
draw_takes profile p s = λ i. unless (fault_takes profile p s i) (base_of profile 2 3 (volumes_take profile p s i))

pub jobs : Jobs
jobs =
    record {
      proved_only_when = λ κ a r x report p is. accepted_only_when (second a) (third a) (fourth a) (fifth a) (sixth a).now (first a) (length (seventh a).now) (sym p.0 ∙ ap told is);
      proved_of_the_first = λ κ a r x report p is.
          let job = sym p.0 ∙ ap told is in
          (first_is_used (second a) (third a) (fourth a) (fifth a) (sixth a).now (first a) (length (seventh a).now) job, p.1 ∙ ap (λ (t : Told Report). left_by t bytes_of_report (seventh a).now) job);
      proved_when = λ κ a r x p asked ok.
          let job = accepted_when (second a) (third a) (fourth a) (fifth a) (sixth a).now (first a) (length (seventh a).now) asked ok in
          (job.0, told_one r (Ok job.0) (p.0 ∙ job.1));
      drawn_only_when = λ κ a r x base p is. draw_accepted_only_when (first a) (second a) (third a).now (sym p ∙ ap told is);
      drawn_of_the_first = λ κ a r x base p is. draw_first_is_used (first a) (second a) (third a).now (sym p ∙ ap told is);
      drawn_when = λ κ a r x p ok.
          let drawn = draw_accepted_when (first a) (second a) (third a).now ok in
          (drawn.0, told_one r (Ok drawn.0) (p ∙ drawn.1));
      volumes_without_base = λ κ a r x κ' b q y p p' profile metal pipe records.
          volumes_one r q
          (p.0 ∙ without_base count_of count_takes (second a) (second b) profile metal pipe records ∙ sym p'.0)
          (p.1 ∙ without_base held_for held_takes (second a) (second b) profile metal pipe records ∙ sym p'.1);
      drawn_without_base = λ κ a r x κ' b q y p p' profile metal pipe records. told_one r q (p ∙ without_base draw_of draw_takes (second a) (second b) profile metal pipe records ∙ sym p');
    }
