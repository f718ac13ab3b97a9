-- 01, 'Numbers given back': what a proving judges before it looks for a group, in its order.
use Rattle.std.specs.Prelude.{Bool, List, ℕ, ◌+◌, length}
use Rattle.octets.specs.FirstToLast.{scan}
use Rattle.octets.specs.Records.{records_in, are_records}
use Rattle.refusals.specs.Told.{Fault, demand, or_else}
use Rattle.ranges.specs.Table.{runs_ok, k_factor_ok, limit_ok}
use Rattle.factors.specs.Prover.{prover_ok}
use Rattle.factors.specs.declared.Prover.{Prover}
use Rattle.run.specs.Record.{size_of, run_at}
use Rattle.run.specs.Figures.{figures_of}
use Rattle.run.specs.Answers.{record_fault, figures_fault}
use Rattle.run.specs.declared.Form.{Form}

-- how many runs are lent, in records of a form: 'Jobs accept either form, never both in one call'
abbrev pub runs_in : Form → List ℕ → ℕ
runs_in form s = records_in (size_of form) s

-- 1: 'lent records not whole, or too few or many', by the size of what is lent
abbrev pub size_ok : Form → ℕ → Bool
size_ok form size = are_records runs_ok (size_of form) size

-- 5, then 2, of the record at place i, counted from 0
abbrev pub lent_fault : Form → List ℕ → ℕ → Fault
lent_fault form s i = record_fault form s i (i + 1)

-- 7, then 8, of the run at place i
unfoldable pub run_fault : Prover → ℕ → Form → List ℕ → ℕ → Fault
run_fault prover k form s i = figures_fault (figures_of prover k (run_at form s i)) (i + 1)

-- 1, 3, 4: K and then the limit
unfoldable pub settings_fault : Prover → ℕ → ℕ → Form → ℕ → Fault
settings_fault prover k limit form size =
    or_else (demand (size_ok form size) 1)
    (or_else (demand (prover_ok prover) 3)
    (or_else (demand (k_factor_ok k) 4)
    (demand (limit_ok limit) 4)))

-- 'then 1, 3, 4; then records first to last, each with 5, 2; then 7 and 8 run by run'
unfoldable pub input_fault : Prover → ℕ → ℕ → Form → List ℕ → Fault
input_fault prover k limit form s =
    or_else (settings_fault prover k limit form (length s))
    (or_else (scan (lent_fault form s) (runs_in form s) 0)
    (scan (run_fault prover k form s) (runs_in form s) 0))
