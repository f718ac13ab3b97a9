-- 01, 'Numbers given back', for one run: 3, 4, 5, then 7 and 8 on the rounded figures.
use Rattle.std.specs.Prelude.{List, ℕ, eqb, length}
use Rattle.refusals.specs.Told.{Told, Fault, demand, demand_at, or_else, unless, judged}
use Rattle.ranges.specs.Table.{k_factor_ok, volume_ok, run_factor_ok}
use Rattle.factors.specs.Prover.{prover_ok}
use Rattle.factors.specs.declared.Prover.{Prover}
use Rattle.run.specs.Record.{size_of, run_at, run_ok, unnamed_ok}
use Rattle.run.specs.Figures.{figures_of}
use Rattle.run.specs.declared.Form.{Form}
use Rattle.run.specs.declared.Run.{Run}
use Rattle.run.specs.declared.Figures.{Figures as Sheet}

-- 5, then 2, of the record at place i, counted from 0; `at` is its own number
unfoldable pub record_fault : Form → List ℕ → ℕ → ℕ → Fault
record_fault form s i at = or_else (demand_at (run_ok (run_at form s i)) 5 at) (demand_at (unnamed_ok form s i) 2 at)

-- 3, 4, 5: what is given, `at` being the run's record
unfoldable pub given_fault : Prover → ℕ → Run → ℕ → Fault
given_fault prover k run at = or_else (demand (prover_ok prover) 3) (or_else (demand (k_factor_ok k) 4) (demand_at (run_ok run) 5 at))

-- 'indicated volume out of range after rounding', 'run factor out of range', of the run's own record
unfoldable pub figures_fault : Sheet → ℕ → Fault
figures_fault figures at = or_else (demand_at (volume_ok figures.indicated) 7 at) (demand_at (run_factor_ok figures.factor) 8 at)

-- the figures of a run that is in order, or 7 or 8 on them
unfoldable pub figures_told : Prover → ℕ → Run → ℕ → Told Sheet
figures_told prover k run at = judged (figures_fault (figures_of prover k run) at) (figures_of prover k run)

-- one run worked out
unfoldable pub worked_of : Prover → ℕ → Run → ℕ → Told Sheet
worked_of prover k run at = unless (given_fault prover k run at) (figures_told prover k run at)

-- one run shown from its record alone: 1 unless it is whole, 3, 4, then 5, 2, 7, 8 with record 1
unfoldable pub shown_of : Prover → ℕ → Form → List ℕ → Told Sheet
shown_of prover k form s =
    unless
    (or_else (demand (eqb (length s) (size_of form)) 1)
    (or_else (given_fault prover k (run_at form s 0) 1)
    (demand_at (unnamed_ok form s 0) 2 1)))
    (figures_told prover k (run_at form s 0) 1)
