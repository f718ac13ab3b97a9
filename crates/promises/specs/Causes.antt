-- Demand 1: 'one number from the table .., with the record at fault where there is one.' What each number of a proving and of a water draw
-- says is wrong, and that no number before it in the paper's order applies: not to the settings, not to an earlier record, and not to the
-- record itself. Places count from 0, records from 1.
use Rattle.std.specs.Prelude.{◌≡◌, true, false, ◌&&◌, List, ℕ, ◌+◌, ◌<◌}
use Rattle.ranges.specs.Table.{runs_ok, k_factor_ok, limit_ok, volume_ok, run_factor_ok, fills_ok}
use Rattle.octets.specs.Records.{records_in}
use Rattle.factors.specs.Metal.{metal_ok}
use Rattle.factors.specs.Prover.{pipe_ok, prover_ok}
use Rattle.factors.specs.declared.Prover.{Prover}
use Rattle.run.specs.Record.{size_of, run_at, run_ok, unnamed_ok}
use Rattle.run.specs.declared.Form.{Form}
use Rattle.run.specs.Figures.{figures_of}
use Rattle.proving.specs.Judging.{runs_in}
use Rattle.draw.specs.Fill.{fill_at, fill_ok, unnamed_ok as fill_unnamed_ok, rule_ok}
use Rattle.draw.specs.Passes.{pass_count}
use Rattle.draw.specs.Profile.{passes_fit}
use Rattle.draw.specs.declared.Profile.{Profile}
use Rattle.promises.specs.Records.{Lent, Every}
use Rattle.promises.specs.Proving.{Asked, SettingsInOrder, RunInOrder, RunWithin, InputWithin, FiguresWithin, FiveMeet}
use Rattle.promises.specs.WaterDraw as water
use Rattle.promises.specs.WaterDraw.{FillInOrder, FillsInOrder, ThreeMeet}

-- why a proving finds no five, with or without a buffer and a request number: '1, 3, 4; then records first to last, each with 5, 2; then 7
-- and 8 run by run; then 9'
pub data ProvingCause (prover : Prover) (k limit : ℕ) (form : Form) (s : List ℕ) : ℕ → ℕ → Type 0 where
  records_lent : (Lent runs_ok (size_of form) s → ⊥) → ProvingCause prover k limit form s 1 0
  prover_setting : Lent runs_ok (size_of form) s → prover_ok prover ≡ false → ProvingCause prover k limit form s 3 0
  k_factor_or_limit : Lent runs_ok (size_of form) s → prover_ok prover ≡ true → (k_factor_ok k && limit_ok limit) ≡ false → ProvingCause prover k limit form s 4 0
  record_field : SettingsInOrder prover k limit form s → (i : ℕ) → i < runs_in form s → Every i (RunInOrder form s)
      → run_ok (run_at form s i) ≡ false → ProvingCause prover k limit form s 5 (i + 1)
  unnamed_byte : SettingsInOrder prover k limit form s → (i : ℕ) → i < runs_in form s → Every i (RunInOrder form s)
      → run_ok (run_at form s i) ≡ true → unnamed_ok form s i ≡ false → ProvingCause prover k limit form s 2 (i + 1)
  indicated_volume : InputWithin prover k limit form s → (i : ℕ) → i < runs_in form s → Every i (RunWithin prover k form s)
      → volume_ok (figures_of prover k (run_at form s i)).indicated ≡ false → ProvingCause prover k limit form s 7 (i + 1)
  run_factor : InputWithin prover k limit form s → (i : ℕ) → i < runs_in form s → Every i (RunWithin prover k form s)
      → volume_ok (figures_of prover k (run_at form s i)).indicated ≡ true
      → run_factor_ok (figures_of prover k (run_at form s i)).factor ≡ false → ProvingCause prover k limit form s 8 (i + 1)
  no_group : InputWithin prover k limit form s → FiguresWithin prover k form s → ((at : ℕ) → FiveMeet prover k limit form s at → ⊥) → ProvingCause prover k limit form s 9 0

-- why a job that writes a report is refused: '14, request number zero (22), then ..'
pub data JobCause (request : ℕ) (prover : Prover) (k limit : ℕ) (form : Form) (s : List ℕ) (size : ℕ) : ℕ → ℕ → Type 0 where
  buffer_size : (size ≡ 32 → ⊥) → JobCause request prover k limit form s size 14 0
  number_zero : size ≡ 32 → request ≡ 0 → JobCause request prover k limit form s size 22 0
  in-proving : {number at : ℕ} → Asked request size → ProvingCause prover k limit form s number at → JobCause request prover k limit form s size number at

-- why the passes of a water draw are not worked out: it 'drops 14, 22, 4 and the base volume in 3'; records 'each with 5, 2, 6'; 'more or
-- fewer passes than 3 to 20 is 1, found after the records'; 02, of round trips: 'an odd count of passes, or a count outside 6 to 20, is 1'
pub data PassesCause (profile : Profile) (prover : Prover) (s : List ℕ) : ℕ → ℕ → Type 0 where
  fills_lent : (Lent fills_ok 32 s → ⊥) → PassesCause profile prover s 1 0
  metal_or_pipe : Lent fills_ok 32 s → (metal_ok prover.metal && pipe_ok prover.pipe) ≡ false → PassesCause profile prover s 3 0
  fill_field : water.SettingsInOrder prover s → (i : ℕ) → i < records_in 32 s → Every i (FillInOrder s)
      → fill_ok (fill_at s i) ≡ false → PassesCause profile prover s 5 (i + 1)
  fill_unnamed_byte : water.SettingsInOrder prover s → (i : ℕ) → i < records_in 32 s → Every i (FillInOrder s)
      → fill_ok (fill_at s i) ≡ true → fill_unnamed_ok s i ≡ false → PassesCause profile prover s 2 (i + 1)
  pass_rule : water.SettingsInOrder prover s → (i : ℕ) → i < records_in 32 s → Every i (FillInOrder s)
      → fill_ok (fill_at s i) ≡ true → fill_unnamed_ok s i ≡ true → rule_ok s i ≡ false → PassesCause profile prover s 6 (i + 1)
  passes_drawn : FillsInOrder prover s → passes_fit profile (pass_count s) ≡ false → PassesCause profile prover s 1 0

-- why a water draw is refused: its passes' cause, 'then 9'
pub data DrawCause (profile : Profile) (prover : Prover) (s : List ℕ) : ℕ → ℕ → Type 0 where
  in-passes : {number at : ℕ} → PassesCause profile prover s number at → DrawCause profile prover s number at
  no_three : water.InputWithin profile prover s → ((at : ℕ) → ThreeMeet profile prover s at → ⊥) → DrawCause profile prover s 9 0
