-- The report written and read back: 01, 'Records' and the last two orders of 'Numbers given back'.
use Rattle.std.specs.Prelude.{Bool, true, ◌&&◌, not, List, [], ◌∷◌, ℕ, ◌+◌, leb, eqb, length}
use Rattle.octets.specs.Octets.{zero_between}
use Rattle.ranges.specs.Table.{run_factor_ok, runs_ok}
use Rattle.refusals.specs.Told.{Told, demand, or_else, judged}
use Rattle.group.specs.Mean.{mean_of}
use Rattle.report.specs.Record.{list_of, fields_of}
use Rattle.report.specs.declared.Factors.{Factors}
use Rattle.report.specs.declared.Report.{Report}

-- 'the factors are in range'
unfoldable pub factors_ok : List ℕ → Bool
factors_ok [] = true
factors_ok (x ∷ xs) = run_factor_ok x && factors_ok xs

-- 'the first run is 1 to runs - 4'
unfoldable pub first_ok : ℕ → ℕ → Bool
first_ok first runs = leb 1 first && leb (first + 4) runs

-- 'runs are 5 to 20, the first run is 1 to runs - 4, the factors are in range'
unfoldable pub job_ok : ℕ → ℕ → List ℕ → Bool
job_ok runs first factors = runs_ok runs && (first_ok first runs && factors_ok factors)

-- 'its number is not zero, .. byte 4 holds their rounded mean'
unfoldable pub report_ok : Report → Bool
report_ok r = not (eqb r.number 0) && (job_ok r.runs r.first (list_of r.factors) && eqb r.factor (mean_of (list_of r.factors)))

-- '.. and the rest is zero'
unfoldable pub is_report : List ℕ → Bool
is_report s = report_ok (fields_of s) && zero_between s 18 32

-- the report of a job: its factor is the rounded mean of the five
unfoldable pub report_of : ℕ → ℕ → ℕ → Factors → Report
report_of number runs first factors =
    record { number = number; factor = mean_of (list_of factors); first = first; runs = runs; factors = factors }

-- 'the report writer alone, which takes number, runs, first run and five factors: 14, 22, 15'
unfoldable pub write_of : ℕ → ℕ → ℕ → ℕ → Factors → Told Report
write_of size number runs first factors =
    judged
    (or_else (demand (eqb size 32) 14)
    (or_else (demand (not (eqb number 0)) 22)
    (demand (job_ok runs first (list_of factors)) 15)))
    (report_of number runs first factors)

-- 'a report read: 14, 15'
unfoldable pub read_of : List ℕ → Told Report
read_of s = judged (or_else (demand (eqb (length s) 32) 14) (demand (is_report s) 15)) (fields_of s)
