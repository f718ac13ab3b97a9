-- Demand 2, for a proving: 'A job is accepted exactly when its input and each run's own figures are within limits and five consecutive
-- runs .. meet the repeatability limit. The first such group is the one used.' The words of that sentence, one record each.
use Rattle.std.specs.Prelude.{◌≡◌, true, List, ℕ, ◌+◌, ◌≤◌, ◌<◌}
use Rattle.ranges.specs.Table.{runs_ok, k_factor_ok, limit_ok, volume_ok, run_factor_ok}
use Rattle.factors.specs.Prover.{prover_ok}
use Rattle.factors.specs.declared.Prover.{Prover}
use Rattle.group.specs.Mean.{mean_of}
use Rattle.group.specs.Repeatability.{qualifies}
use Rattle.group.specs.Listed.{listed}
use Rattle.report.specs.Record.{list_of}
use Rattle.report.specs.declared.Report.{Report}
use Rattle.run.specs.Record.{size_of, run_at, run_ok, unnamed_ok}
use Rattle.run.specs.declared.Form.{Form}
use Rattle.run.specs.Figures.{figures_of}
use Rattle.proving.specs.Judging.{runs_in}
use Rattle.proving.specs.Job.{factor_at}
use Rattle.promises.specs.Records.{Lent, Every}

-- 14 and 22 don't apply: a 32-byte buffer and a request number that is not zero
pub record Asked (request size : ℕ) : Type 0 where
  pub buffer : size ≡ 32
  pub number : request ≡ 0 → ⊥

-- neither do 1, 3 and 4: 5 to 20 whole records are lent, and the prover's settings, K and the limit are in range
pub record SettingsInOrder (prover : Prover) (k limit : ℕ) (form : Form) (s : List ℕ) : Type 0 where
  pub lent : Lent runs_ok (size_of form) s
  pub settings : prover_ok prover ≡ true
  pub k_factor : k_factor_ok k ≡ true
  pub limits : limit_ok limit ≡ true

-- nor 5 and 2 for the record at place i: its fields and its unnamed bytes
pub record RunInOrder (form : Form) (s : List ℕ) (i : ℕ) : Type 0 where
  pub fields : run_ok (run_at form s i) ≡ true
  pub unnamed : unnamed_ok form s i ≡ true

-- nor 7 and 8 for the run at place i: its indicated volume and its factor
pub record RunWithin (prover : Prover) (k : ℕ) (form : Form) (s : List ℕ) (i : ℕ) : Type 0 where
  pub volume : volume_ok (figures_of prover k (run_at form s i)).indicated ≡ true
  pub factor : run_factor_ok (figures_of prover k (run_at form s i)).factor ≡ true

-- 'its input .. within limits'
pub record InputWithin (prover : Prover) (k limit : ℕ) (form : Form) (s : List ℕ) : Type 0 where
  pub settled : SettingsInOrder prover k limit form s
  pub records : Every (runs_in form s) (RunInOrder form s)

-- 'each run's own figures are within limits'
abbrev pub FiguresWithin : Prover → ℕ → Form → List ℕ → Type 0
FiguresWithin prover k form s = Every (runs_in form s) (RunWithin prover k form s)

-- 'five consecutive runs .. meet the repeatability limit': there are five from place `at` on (places from 0), and their factors qualify
pub record FiveMeet (prover : Prover) (k limit : ℕ) (form : Form) (s : List ℕ) (at : ℕ) : Type 0 where
  pub room : at + 5 ≤ runs_in form s
  pub meet : qualifies limit (listed (factor_at prover k form s) 5 at) ≡ true

-- all that acceptance takes; a job that writes a report must be asked for as well
pub record Acceptable (prover : Prover) (k limit : ℕ) (form : Form) (s : List ℕ) : Type 0 where
  pub input : InputWithin prover k limit form s
  pub figures : FiguresWithin prover k form s
  pub place : ℕ
  pub five : FiveMeet prover k limit form s place

-- 'The first such group is the one used': it meets the limit, none before it does, and the report is of it
pub record Used (request : ℕ) (prover : Prover) (k limit : ℕ) (form : Form) (s : List ℕ) (r : Report) : Type 0 where
  pub place : ℕ
  pub five : FiveMeet prover k limit form s place
  pub none_before : (j : ℕ) → j < place → FiveMeet prover k limit form s j → ⊥
  pub number : r.number ≡ request
  pub runs : r.runs ≡ runs_in form s
  pub first : r.first ≡ place + 1
  pub factors : list_of r.factors ≡ listed (factor_at prover k form s) 5 place
  pub factor : r.factor ≡ mean_of (listed (factor_at prover k form s) 5 place)
