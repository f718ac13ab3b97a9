-- Demands 1 and 2 of the meanings that the contracts cite, exactly: a proving, a job, the volumes of a water draw and the draw are accepted,
-- or refused for their cause (specs/Causes).
use mathlib.Core.Path.{◌≡◌, ap}
use mathlib.Core.Logic.Iff
use mathlib.Core.Logic.{◌↔◌}
use mathlib.Core.Bool.{Bool, true, false, not, ◌&&◌}
use mathlib.Core.List.{List}
use Prim.Native.Nat.{ℕ, ◌+◌, ◌%◌}
use borrow.Author.Tests.{eqb-true, eqb-false, eq-eqb, ne_eqb, not-true, not-false}
use lib.Dec.{eqb}
use lib.ListN.{length}
use Rattle.refusals.specs.Told.{demand, or_else, unless}
use Rattle.ranges.specs.Table.{runs_ok, k_factor_ok, limit_ok, volume_ok, run_factor_ok, fills_ok}
use Rattle.ranges.proofs.Laws.{both_first, both_second, both_true}
use Rattle.octets.specs.Records.{records_in, are_records}
use Rattle.factors.specs.Metal.{metal_ok}
use Rattle.factors.specs.Prover.{pipe_ok, prover_ok}
use Rattle.factors.specs.declared.Prover.{Prover}
use Rattle.group.specs.Repeatability.{first_group, nine_unless}
use Rattle.run.specs.Record.{size_of, run_at, run_ok, unnamed_ok}
use Rattle.run.specs.declared.Form.{Form}
use Rattle.run.specs.Figures.{figures_of}
use Rattle.run.specs.Answers.{record_fault, figures_fault}
use Rattle.proving.specs.Judging.{runs_in, settings_fault, lent_fault, run_fault, input_fault}
use Rattle.proving.specs.Job.{first_five, found_of, report_at, job_of}
use Rattle.draw.specs.Fill.{fill_at, fill_ok, unnamed_ok as fill_unnamed_ok, rule_ok}
use Rattle.draw.specs.Passes.{pass_count}
use Rattle.draw.specs.Profile.{passes_fit, volume_count, volumes_of}
use Rattle.draw.specs.Base.{base_of}
use Rattle.draw.specs.Answers.{record_fault as record_fault_of_fill, fill_fault, fills_fault, draw_fault, count_of, draw_of}
use Rattle.draw.specs.declared.Profile.{Profile}
use Rattle.promises.specs.Records.{Lent, Every}
use Rattle.promises.specs.Proving.{Asked, SettingsInOrder, RunInOrder, RunWithin, FiguresWithin, FiveMeet, Acceptable}
use Rattle.promises.specs.WaterDraw as water
use Rattle.promises.specs.WaterDraw.{FillInOrder, FillsInOrder, ThreeMeet}
use Rattle.promises.specs.Causes.{ProvingCause, JobCause, PassesCause, DrawCause}
use Rattle.promises.specs.Causes as cause
use Rattle.promises.proofs.Reasons.{At, here, at_named, InTurn, sooner, later, OfFirst, of, Exactly, decided, demanded, tested, tested_both, in-turn, in_words, first-to-last, Tells, by_judging, by_unless, tells_in_words, tells_nine}
use Rattle.promises.proofs.Meeting.{no_five, first_five_meet, no_three, first_three_meet}

-- 1: 'lent records not whole, or too few or many'
pub lent_judged : (count_ok : ℕ → Bool) (size : ℕ) (s : List ℕ) → Exactly (Lent count_ok size s) (At 1 0 (Lent count_ok size s → ⊥)) (demand (are_records count_ok size (length s)) 1)
unfolding are_records records_in
lent_judged count_ok size s =
    let whole = eqb (length s % size) 0 in
    let says : (are_records count_ok size (length s) ≡ true) ↔ Lent count_ok size s = (
      (λ is. record { whole = eqb-true (length s % size) 0 (both_first whole _ is); count = both_second whole _ is }),
      (λ lent. both_true (eq-eqb (length s % size) 0 lent.whole) lent.count),
    ) in
    demanded (are_records count_ok size (length s)) 1 0 says (decided _ says)

module _ (prover : Prover) (k : ℕ) (form : Form) (s : List ℕ) where
  abbrev Volume : ℕ → Bool
  Volume i = volume_ok (figures_of prover k (run_at form s i)).indicated

  abbrev Factor : ℕ → Bool
  Factor i = run_factor_ok (figures_of prover k (run_at form s i)).factor

  -- 5 and 2 of a record, 7 and 8 of a run
  abbrev RecordCause : ℕ → ℕ → ℕ → Type 0
  RecordCause i = InTurn (At 5 (i + 1) (run_ok (run_at form s i) ≡ false)) (run_ok (run_at form s i) ≡ true) (At 2 (i + 1) (unnamed_ok form s i ≡ false))

  abbrev RunCause : ℕ → ℕ → ℕ → Type 0
  RunCause i = InTurn (At 7 (i + 1) (Volume i ≡ false)) (Volume i ≡ true) (At 8 (i + 1) (Factor i ≡ false))

  record_judged : (i : ℕ) → Exactly (RunInOrder form s i) (RecordCause i) (lent_fault form s i)
  unfolding record_fault
  record_judged i =
      in_words ((λ ok. record { fields = ok.0; unnamed = ok.1 }), (λ ok. (ok.fields, ok.unnamed))) (λ _ _. Iff.rfl)
      (in-turn (tested (run_ok (run_at form s i)) 5 (i + 1)) (tested (unnamed_ok form s i) 2 (i + 1)))

  run_judged : (i : ℕ) → Exactly (RunWithin prover k form s i) (RunCause i) (run_fault prover k form s i)
  unfolding run_fault figures_fault
  run_judged i =
      in_words ((λ ok. record { volume = ok.0; factor = ok.1 }), (λ ok. (ok.volume, ok.factor))) (λ _ _. Iff.rfl)
      (in-turn (tested (Volume i) 7 (i + 1)) (tested (Factor i) 8 (i + 1)))

  module _ (limit : ℕ) where
    -- 1, 3 and 4
    abbrev SettingsCause : ℕ → ℕ → Type 0
    SettingsCause =
        InTurn (At 1 0 (Lent runs_ok (size_of form) s → ⊥)) (Lent runs_ok (size_of form) s)
        (InTurn (At 3 0 (prover_ok prover ≡ false)) (prover_ok prover ≡ true) (At 4 0 ((k_factor_ok k && limit_ok limit) ≡ false)))

    settings_judged : Exactly (SettingsInOrder prover k limit form s) SettingsCause (settings_fault prover k limit form (length s))
    unfolding settings_fault
    settings_judged =
        in_words (
          (λ ok. record { lent = ok.0; settings = ok.1.0; k_factor = both_first (k_factor_ok k) _ ok.1.1; limits = both_second (k_factor_ok k) _ ok.1.1 }),
          (λ ok. (ok.lent, (ok.settings, both_true ok.k_factor ok.limits))),
        ) (λ _ _. Iff.rfl)
        (in-turn (lent_judged runs_ok (size_of form) s) (in-turn (tested (prover_ok prover) 3 0) (tested_both (k_factor_ok k) (limit_ok limit) 4 0)))

    -- then the records, then the runs, then 9; and the same by the names of specs/Causes
    abbrev InputCause : ℕ → ℕ → Type 0
    InputCause =
        InTurn SettingsCause (SettingsInOrder prover k limit form s)
        (InTurn (OfFirst (runs_in form s) (RunInOrder form s) RecordCause) (Every (runs_in form s) (RunInOrder form s)) (OfFirst (runs_in form s) (RunWithin prover k form s) RunCause))

    abbrev FiveCause : ℕ → ℕ → Type 0
    FiveCause =
        InTurn InputCause (SettingsInOrder prover k limit form s × (Every (runs_in form s) (RunInOrder form s) × FiguresWithin prover k form s))
        (At 9 0 (((at : ℕ) × FiveMeet prover k limit form s at) → ⊥))

    named : {number at : ℕ} → FiveCause number at → ProvingCause prover k limit form s number at
    named (sooner (sooner (sooner (here out)))) = cause.records_lent out
    named (sooner (sooner (later lent (sooner (here out))))) = cause.prover_setting lent out
    named (sooner (sooner (later lent (later ok (here out))))) = cause.k_factor_or_limit lent ok out
    named (sooner (later settled (sooner (of i h before (sooner there))))) = at_named (ProvingCause prover k limit form s) there (λ out. cause.record_field settled i h before out)
    named (sooner (later settled (sooner (of i h before (later ok there))))) = at_named (ProvingCause prover k limit form s) there (λ out. cause.unnamed_byte settled i h before ok out)
    named (sooner (later settled (later records (of i h before (sooner there))))) = at_named (ProvingCause prover k limit form s) there (λ out. cause.indicated_volume (record { settled = settled; records = records }) i h before out)
    named (sooner (later settled (later records (of i h before (later ok there))))) = at_named (ProvingCause prover k limit form s) there (λ out. cause.run_factor (record { settled = settled; records = records }) i h before ok out)
    named (later ok (here none-meet)) = cause.no_group (record { settled = ok.0; records = ok.1.0 }) ok.1.1 (λ at five. none-meet (at, five))

    meant : {number at : ℕ} → ProvingCause prover k limit form s number at → FiveCause number at
    meant (cause.records_lent out) = sooner (sooner (sooner (here out)))
    meant (cause.prover_setting lent out) = sooner (sooner (later lent (sooner (here out))))
    meant (cause.k_factor_or_limit lent ok out) = sooner (sooner (later lent (later ok (here out))))
    meant (cause.record_field settled i h before out) = sooner (later settled (sooner (of i h before (sooner (here out)))))
    meant (cause.unnamed_byte settled i h before ok out) = sooner (later settled (sooner (of i h before (later ok (here out)))))
    meant (cause.indicated_volume input i h before out) = sooner (later input.settled (later input.records (of i h before (sooner (here out)))))
    meant (cause.run_factor input i h before ok out) = sooner (later input.settled (later input.records (of i h before (later ok (here out)))))
    meant (cause.no_group input figures none-meet) = later (input.settled, (input.records, figures)) (here (λ five. none-meet five.0 five.1))

    -- with or without a buffer and a request number, whatever follows from the five
    pub proving_tells : {R : Type 0} (follows : ℕ → R) → Tells (Acceptable prover k limit form s) (ProvingCause prover k limit form s) (unless (input_fault prover k limit form s) (nine_unless (first_five prover k limit form s) follows))
    unfolding input_fault
    proving_tells follows =
        tells_in_words (
          (λ ok. record { input = record { settled = ok.0.0; records = ok.0.1.0 }; figures = ok.0.1.1; place = ok.1.0; five = ok.1.1 }),
          (λ ok. ((ok.input.settled, (ok.input.records, ok.figures)), (ok.place, ok.five))),
        ) (λ _ _. (named, meant))
        (by_unless (in-turn settings_judged (in-turn (first-to-last (lent_fault form s) (runs_in form s) record_judged) (first-to-last (run_fault prover k form s) (runs_in form s) run_judged)))
        (tells_nine (first_five prover k limit form s) follows (λ at is. (at, first_five_meet prover k form s limit at is)) (λ is five. no_five prover k form s limit is five.0 five.1)))

    pub found_tells : Tells (Acceptable prover k limit form s) (ProvingCause prover k limit form s) (found_of prover k limit form s)
    unfolding found_of
    found_tells = proving_tells (λ at. at)

    module _ (request size : ℕ) where
      -- 14 and 22
      abbrev AskingCause : ℕ → ℕ → Type 0
      AskingCause = InTurn (At 14 0 (size ≡ 32 → ⊥)) (size ≡ 32) (At 22 0 (request ≡ 0))

      asking_judged : Exactly (Asked request size) AskingCause (or_else (demand (eqb size 32) 14) (demand (not (eqb request 0)) 22))
      asking_judged =
          let sized : (eqb size 32 ≡ true) ↔ (size ≡ 32) = (eqb-true size 32, eq-eqb size 32) in
          in_words ((λ ok. record { buffer = ok.0; number = ok.1 }), (λ ok. (ok.buffer, ok.number))) (λ _ _. Iff.rfl)
          (in-turn (demanded (eqb size 32) 14 0 sized (decided _ sized)) (demanded (not (eqb request 0)) 22 0
          ((λ is. eqb-false request 0 (not-true _ is)), (λ Some-number. ap not (ne_eqb request 0 Some-number)))
          ((λ is. eqb-true request 0 (not-false _ is)), (λ none. ap not (eq-eqb request 0 none)))))

      asked_named : {number at : ℕ} → InTurn AskingCause (Asked request size) (ProvingCause prover k limit form s) number at → JobCause request prover k limit form s size number at
      asked_named (sooner (sooner (here out))) = cause.buffer_size out
      asked_named (sooner (later sized (here out))) = cause.number_zero sized out
      asked_named (later asked why) = cause.in-proving asked why

      asked_meant : {number at : ℕ} → JobCause request prover k limit form s size number at → InTurn AskingCause (Asked request size) (ProvingCause prover k limit form s) number at
      asked_meant (cause.buffer_size out) = sooner (sooner (here out))
      asked_meant (cause.number_zero sized out) = sooner (later sized (here out))
      asked_meant (cause.in-proving asked why) = later asked why

      pub job_tells : Tells (Asked request size × Acceptable prover k limit form s) (JobCause request prover k limit form s size) (job_of request prover k limit form s size)
      unfolding job_of
      job_tells = tells_in_words Iff.rfl (λ _ _. (asked_named, asked_meant)) (by_unless asking_judged (proving_tells (report_at request prover k form s)))

-- ---- the water draw

module _ (prover : Prover) (s : List ℕ) where
  abbrev Settings : Bool
  Settings = metal_ok prover.metal && pipe_ok prover.pipe

  -- 5, 2 and 6 of a record
  abbrev FillCause : ℕ → ℕ → ℕ → Type 0
  FillCause i =
      InTurn (InTurn (At 5 (i + 1) (fill_ok (fill_at s i) ≡ false)) (fill_ok (fill_at s i) ≡ true) (At 2 (i + 1) (fill_unnamed_ok s i ≡ false)))
      ((fill_ok (fill_at s i) ≡ true) × (fill_unnamed_ok s i ≡ true)) (At 6 (i + 1) (rule_ok s i ≡ false))

  fill_judged : (i : ℕ) → Exactly (FillInOrder s i) (FillCause i) (fill_fault s i)
  unfolding fill_fault record_fault_of_fill
  fill_judged i =
      in_words ((λ ok. record { fields = ok.0.0; unnamed = ok.0.1; rule = ok.1 }), (λ ok. ((ok.fields, ok.unnamed), ok.rule))) (λ _ _. Iff.rfl)
      (in-turn (in-turn (tested (fill_ok (fill_at s i)) 5 (i + 1)) (tested (fill_unnamed_ok s i) 2 (i + 1))) (tested (rule_ok s i) 6 (i + 1)))

  settled : Lent fills_ok 32 s → Settings ≡ true → water.SettingsInOrder prover s
  settled lent ok = record { lent = lent; metal = both_first (metal_ok prover.metal) _ ok; pipe = both_second (metal_ok prover.metal) _ ok }

  set : water.SettingsInOrder prover s → Settings ≡ true
  set ok = both_true ok.metal ok.pipe

  -- 1, 3 and the records
  abbrev FillsCause : ℕ → ℕ → Type 0
  FillsCause = InTurn (At 1 0 (Lent fills_ok 32 s → ⊥)) (Lent fills_ok 32 s) (InTurn (At 3 0 (Settings ≡ false)) (Settings ≡ true) (OfFirst (records_in 32 s) (FillInOrder s) FillCause))

  pub fills_judged : Exactly (FillsInOrder prover s) FillsCause (fills_fault prover s)
  unfolding fills_fault
  fills_judged =
      in_words ((λ ok. record { settled = settled ok.0 ok.1.0; records = ok.1.1 }), (λ ok. (ok.settled.lent, (set ok.settled, ok.records)))) (λ _ _. Iff.rfl)
      (in-turn (lent_judged fills_ok 32 s) (in-turn (tested Settings 3 0) (first-to-last (fill_fault s) (records_in 32 s) fill_judged)))

module _ (profile : Profile) (prover : Prover) (s : List ℕ) where
  -- these, and 1 for the passes
  abbrev CountCause : ℕ → ℕ → Type 0
  CountCause = InTurn (FillsCause prover s) (FillsInOrder prover s) (At 1 0 (passes_fit profile (pass_count s) ≡ false))

  count_named : {number at : ℕ} → CountCause number at → PassesCause profile prover s number at
  count_named (sooner (sooner (here out))) = cause.fills_lent out
  count_named (sooner (later lent (sooner (here out)))) = cause.metal_or_pipe lent out
  count_named (sooner (later lent (later ok (of i h before (sooner (sooner there)))))) = at_named (PassesCause profile prover s) there (λ out. cause.fill_field (settled prover s lent ok) i h before out)
  count_named (sooner (later lent (later ok (of i h before (sooner (later fields there)))))) = at_named (PassesCause profile prover s) there (λ out. cause.fill_unnamed_byte (settled prover s lent ok) i h before fields out)
  count_named (sooner (later lent (later ok (of i h before (later both there))))) = at_named (PassesCause profile prover s) there (λ out. cause.pass_rule (settled prover s lent ok) i h before both.0 both.1 out)
  count_named (later fills (here out)) = cause.passes_drawn fills out

  count_meant : {number at : ℕ} → PassesCause profile prover s number at → CountCause number at
  count_meant (cause.fills_lent out) = sooner (sooner (here out))
  count_meant (cause.metal_or_pipe lent out) = sooner (later lent (sooner (here out)))
  count_meant (cause.fill_field ok i h before out) = sooner (later ok.lent (later (set prover s ok) (of i h before (sooner (sooner (here out))))))
  count_meant (cause.fill_unnamed_byte ok i h before fields out) = sooner (later ok.lent (later (set prover s ok) (of i h before (sooner (later fields (here out))))))
  count_meant (cause.pass_rule ok i h before fields unnamed out) = sooner (later ok.lent (later (set prover s ok) (of i h before (later (fields, unnamed) (here out)))))
  count_meant (cause.passes_drawn fills out) = later fills (here out)

  draw_judged : Exactly (water.InputWithin profile prover s) (PassesCause profile prover s) (draw_fault profile prover s)
  unfolding draw_fault
  draw_judged =
      in_words ((λ ok. record { fills = ok.0; passes = ok.1 }), (λ ok. (ok.fills, ok.passes))) (λ _ _. (count_named, count_meant))
      (in-turn (fills_judged prover s) (tested (passes_fit profile (pass_count s)) 1 0))

  pub volumes_tell : Tells (water.InputWithin profile prover s) (PassesCause profile prover s) (count_of profile prover s)
  unfolding count_of
  volumes_tell = by_judging (volume_count profile s) draw_judged

  -- the draw: its volumes' cause, or 9
  abbrev ThreeCause : ℕ → ℕ → Type 0
  ThreeCause = InTurn (PassesCause profile prover s) (water.InputWithin profile prover s) (At 9 0 (((at : ℕ) × ThreeMeet profile prover s at) → ⊥))

  three_named : {number at : ℕ} → ThreeCause number at → DrawCause profile prover s number at
  three_named (sooner why) = cause.in-passes why
  three_named (later input (here none-meet)) = cause.no_three input (λ at three. none-meet (at, three))

  three_meant : {number at : ℕ} → DrawCause profile prover s number at → ThreeCause number at
  three_meant (cause.in-passes why) = sooner why
  three_meant (cause.no_three input none-meet) = later input (here (λ three. none-meet three.0 three.1))

  pub draw_tells : Tells (water.Acceptable profile prover s) (DrawCause profile prover s) (draw_of profile prover s)
  unfolding draw_of base_of
  draw_tells =
      tells_in_words ((λ ok. record { input = ok.0; place = ok.1.0; three = ok.1.1 }), (λ ok. (ok.input, (ok.place, ok.three)))) (λ _ _. (three_named, three_meant))
      (by_unless draw_judged (tells_nine (first_group 2 3 (volumes_of profile prover s)) _ (λ at is. (at, first_three_meet profile prover s at is)) (λ is three. no_three profile prover s is three.0 three.1)))
