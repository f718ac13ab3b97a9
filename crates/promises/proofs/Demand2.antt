-- Demand 2: 'A job is accepted exactly when its input and each run's own figures are within limits and five consecutive runs, or three
-- passes of water, meet the repeatability limit. The first such group is the one used.'
use mathlib.Core.Path.{◌≡◌, sym, ap, ◌∙◌}
use mathlib.Core.Bool.{true, not}
use mathlib.Core.List.{List, []}
use Prim.Native.Nat.{ℕ, ◌+◌, ◌*◌, ◌≤◌, ◌<◌, ◌-◌}
use native.Mathlib.Omega.{arith}
use lib.Dec.{eqb}
use lib.ListN.{length, get_or, take, drop}
use Rattle.refusals.specs.Told.{done, refused, demand, or_else}
use Rattle.refusals.proofs.Laws.{unless_done}
use Rattle.factors.specs.declared.Prover.{Prover}
use Rattle.group.specs.Mean.{mean_of}
use Rattle.group.specs.Repeatability.{qualifies}
use Rattle.group.specs.Listed.{listed}
use Rattle.group.proofs.Listed.{listed_value, listed_length}
use Rattle.group.proofs.Groups.{qualifies_repeats, repeats_qualifies}
use Rattle.report.specs.Record.{list_of}
use Rattle.report.specs.Judged.{report_of}
use Rattle.report.specs.declared.Report.{Report}
use Rattle.run.specs.Record.{size_of}
use Rattle.run.specs.declared.Form.{Form}
use Rattle.proving.specs.Judging.{input_fault}
use Rattle.proving.specs.Job.{first_five, report_at, job_of, found_of, accepted_of}
use Rattle.proving.proofs.Laws.{Reached, reached}
use Rattle.proving.proofs.Accepted.{same_number, empty_when_refused, begins_at_first_run, whole_when_done}
use Rattle.draw.specs.Profile.{volumes_of}
use Rattle.draw.specs.Base.{barrels_of, base_from}
use Rattle.draw.specs.Answers.{draw_of}
use Rattle.draw.specs.declared.BaseVolume.{BaseVolume}
use Rattle.draw.specs.declared.Profile.{Profile}
use Rattle.draw.proofs.Outcome.{Accepted, accepted}
use Rattle.promises.specs.Proving.{Asked, Acceptable, Used}
use Rattle.promises.specs.WaterDraw as draw
use Rattle.promises.proofs.Groups.{apart, Least, group_listed, first_least}
use Rattle.promises.proofs.Meeting.{five_listed, least_five, first_five_meet, volume_values, volume-count}
use Rattle.promises.proofs.Judging.{job_tells, draw_tells}

-- 'meet the repeatability limit', in plain numbers: of the n values from a place on, every two differ by no more than `limit`
-- ten-thousandths of any; and values of which that is so meet it
abbrev pub Repeatable : (ℕ → ℕ) → ℕ → ℕ → ℕ → Type 0
Repeatable f limit n at = (i j m : ℕ) → i < n → j < n → m < n → (f (at + i) - f (at + j)) * 10000 ≤ limit * f (at + m)

module _ (f : ℕ → ℕ) (limit n at : ℕ) where
  pub meeting_is_repeatable : qualifies limit (listed f n at) ≡ true → Repeatable f limit n at
  meeting_is_repeatable is i j m hi hj hm =
      let long : length (listed f n at) ≡ n = listed_length f n at in
      let said : (get_or (listed f n at) i 0 - get_or (listed f n at) j 0) * 10000 ≤ limit * get_or (listed f n at) m 0 = qualifies_repeats limit (listed f n at) is i j m (omega arith) (omega arith) (omega arith) in
      rw (listed_value f n at i hi, listed_value f n at j hj, listed_value f n at m hm) at said

  pub repeatable_is_meeting : 0 < n → Repeatable f limit n at → qualifies limit (listed f n at) ≡ true
  repeatable_is_meeting some_values each =
      let long : length (listed f n at) ≡ n = listed_length f n at in
      repeats_qualifies limit (listed f n at) (omega arith)
      (λ i j m hi hj hm. let said : (f (at + i) - f (at + j)) * 10000 ≤ limit * f (at + m) = each i j m (omega arith) (omega arith) (omega arith) in
      rw (listed_value f n at i (omega arith), listed_value f n at j (omega arith), listed_value f n at m (omega arith)) said)

module _ (prover : Prover) (k limit : ℕ) (form : Form) (s : List ℕ) where
  module _ (request size : ℕ) where
    -- 'A job is accepted exactly when ..': only then,
    pub accepted_only_when : {r : Report} → job_of request prover k limit form s size ≡ done r → Asked request size × Acceptable prover k limit form s
    accepted_only_when = (job_tells prover k form s limit request size).accepted

    -- and always then
    pub accepted_when : Asked request size → Acceptable prover k limit form s → (r : Report) × (job_of request prover k limit form s size ≡ done r)
    accepted_when asked ok = (job_tells prover k form s limit request size).gives (asked, ok)

    -- a job that is done found its five
    pub five_found : {r : Report} → job_of request prover k limit form s size ≡ done r → Reached (input_fault prover k limit form s) (first_five prover k limit form s) (report_at request prover k form s) r
    unfolding job_of
    five_found is = reached (input_fault prover k limit form s) (first_five prover k limit form s) (report_at request prover k form s) (unless_done (or_else (demand (eqb size 32) 14) (demand (not (eqb request 0)) 22)) _ is).1

    -- 'The first such group is the one used.' Its mean is the job's factor.
    pub first_is_used : {r : Report} → job_of request prover k limit form s size ≡ done r → Used request prover k limit form s r
    unfolding report_at report_of
    first_is_used {r} is =
        let c = five_found is in
        let five = first_five_meet prover k form s limit c.place c.first in
        let report : r ≡ report_at request prover k form s c.place = sym c.gives in
        record {
          place = c.place;
          five = five;
          none_before = λ j h meets. apart (sym meets.meet ∙ (least_five prover k form s limit c.place c.first).earlier j h);
          number = ap (λ (q : Report). q.number) report;
          runs = ap (λ (q : Report). q.runs) report;
          first = ap (λ (q : Report). q.first) report;
          factors = ap (λ (q : Report). list_of q.factors) report ∙ five_listed prover k form s c.place five.room;
          factor = ap (λ (q : Report). q.factor) report ∙ ap mean_of (five_listed prover k form s c.place five.room);
        }

  -- 01: 'the five accepted run records are handed back as a part of the lent records; a refused job hands back the empty part and no number.
  -- The number is the one that the job itself, with a 32-byte buffer and a non-zero request number, gives for the same input.'
  module _ (request : ℕ) (asked : request ≡ 0 → ⊥) where
    pub accepted_runs : {r : Report} → job_of request prover k limit form s 32 ≡ done r
        → (accepted_of prover k limit form s ≡ take (5 * size_of form) (drop (size_of form * (r.first - 1)) s)) × (length (accepted_of prover k limit form s) ≡ 5 * size_of form)
    accepted_runs is = (begins_at_first_run request prover k limit form s asked is, whole_when_done request prover k limit form s asked is)

    pub no_accepted_runs : {number at : ℕ} → job_of request prover k limit form s 32 ≡ refused number at → (accepted_of prover k limit form s ≡ []) × (found_of prover k limit form s ≡ refused number at)
    no_accepted_runs is = (empty_when_refused request prover k limit form s asked is, same_number request prover k limit form s asked is)

-- ---- the water draw

module _ (profile : Profile) (prover : Prover) (s : List ℕ) where
  -- 'A job is accepted exactly when ..': only then,
  pub draw_accepted_only_when : {b : BaseVolume} → draw_of profile prover s ≡ done b → draw.Acceptable profile prover s
  draw_accepted_only_when = (draw_tells profile prover s).accepted

  -- and always then
  pub draw_accepted_when : draw.Acceptable profile prover s → (b : BaseVolume) × (draw_of profile prover s ≡ done b)
  draw_accepted_when = (draw_tells profile prover s).gives

  -- 'The first such group is the one used.' Its mean is the base volume.
  pub draw_first_is_used : {b : BaseVolume} → draw_of profile prover s ≡ done b → draw.Used profile prover s b
  unfolding base_from
  draw_first_is_used {b} is =
      let d : Accepted profile prover s b = accepted profile prover s is in
      let volume = draw.volume_at profile prover s in
      let all = volumes_of profile prover s in
      let values = volume_values profile prover s in
      let least : Least volume all values 3 2 d.at = first_least volume all values 3 2 d.first in
      let three = group_listed volume all values 3 d.at least.room in
      record {
        place = d.at;
        three = record { room = omega (arith, least.room, volume-count profile prover s); meet = least.meet };
        none_before = λ j h meets. apart (sym meets.meet ∙ least.earlier j h);
        base = ap (λ (q : BaseVolume). q.base) d.gives ∙ ap mean_of three;
        barrels = ap (λ (q : BaseVolume). q.barrels) d.gives ∙ ap (λ (xs : List ℕ). barrels_of (mean_of xs)) three;
        first = ap (λ (q : BaseVolume). q.first) d.gives;
      }
