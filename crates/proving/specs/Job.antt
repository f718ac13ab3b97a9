-- 01, 'Proving, by pipe prover': 'The first qualifying five decide. The job's factor is their mean, rounded.'
use Rattle.std.specs.Prelude.{not, List, [], ◌≡◌, ℕ, ◌+◌, ◌*◌, ◌<◌, eqb, get_or, take, drop, Option}
use Rattle.refusals.specs.Told.{Told, done, refused, demand, or_else, unless}
use Rattle.factors.specs.declared.Prover.{Prover}
use Rattle.group.specs.Listed.{listed}
use Rattle.group.specs.Repeatability.{first_group, nine_unless}
use Rattle.report.specs.Judged.{report_of}
use Rattle.report.specs.declared.Factors.{Factors}
use Rattle.report.specs.declared.Report.{Report}
use Rattle.run.specs.Record.{size_of, run_at}
use Rattle.run.specs.Figures.{figures_of}
use Rattle.run.specs.declared.Form.{Form}
use Rattle.proving.specs.declared.Five.{Five}
use Rattle.proving.specs.Judging.{runs_in, input_fault}

-- the factor of the run at place i, counted from 0
unfoldable pub factor_at : Prover → ℕ → Form → List ℕ → ℕ → ℕ
factor_at prover k form s i = (figures_of prover k (run_at form s i)).factor

-- the first n values are the factors of the first n runs
abbrev pub HoldsFactors : List ℕ → ℕ → Prover → ℕ → Form → List ℕ → Type 0
HoldsFactors values n prover k form s = (i : ℕ) → i < n → get_or values i 0 ≡ factor_at prover k form s i

-- and so for all runs
abbrev pub HoldsAll : List ℕ → Prover → ℕ → Form → List ℕ → Type 0
HoldsAll values prover k form s = HoldsFactors values (runs_in form s) prover k form s

-- the factors of all runs
unfoldable pub factors_of : Prover → ℕ → Form → List ℕ → List ℕ
factors_of prover k form s = listed (factor_at prover k form s) (runs_in form s) 0

-- 'Five consecutive runs qualify', the first of them, from 0
unfoldable pub first_five : Prover → ℕ → ℕ → Form → List ℕ → Option ℕ
first_five prover k limit form s = first_group limit 5 (factors_of prover k form s)

-- what proving finds without a buffer or a request number: where the first qualifying five begin, or why there are none
unfoldable pub found_of : Prover → ℕ → ℕ → Form → List ℕ → Told ℕ
found_of prover k limit form s = unless (input_fault prover k limit form s) (nine_unless (first_five prover k limit form s) (λ at. at))

-- five consecutive values, from a place on
unfoldable pub five_at : List ℕ → ℕ → Factors
five_at xs at = record { one = get_or xs at 0; two = get_or xs (at + 1) 0; three = get_or xs (at + 2) 0; four = get_or xs (at + 3) 0; five = get_or xs (at + 4) 0 }

-- the five that prove the job: where they begin, and their factors
unfoldable pub five_from : Prover → ℕ → Form → List ℕ → ℕ → Five
five_from prover k form s at = record { at = at; factors = five_at (factors_of prover k form s) at }

unfoldable pub five_of : Prover → ℕ → ℕ → Form → List ℕ → Told Five
five_of prover k limit form s = unless (input_fault prover k limit form s) (nine_unless (first_five prover k limit form s) (five_from prover k form s))

-- the report of a job whose five begin at a place: runs and first run are counted from 1
unfoldable pub report_at : ℕ → Prover → ℕ → Form → List ℕ → ℕ → Report
report_at request prover k form s at = report_of request (runs_in form s) (at + 1) (five_at (factors_of prover k form s) at)

-- 'For a job that writes a report: 14, request number zero (22), then 1, 3, 4; ..; then 9'; `size` is the buffer's
unfoldable pub job_of : ℕ → Prover → ℕ → ℕ → Form → List ℕ → ℕ → Told Report
job_of request prover k limit form s size =
    unless (or_else (demand (eqb size 32) 14) (demand (not (eqb request 0)) 22))
    (unless (input_fault prover k limit form s)
    (nine_unless (first_five prover k limit form s) (report_at request prover k form s)))

-- 'the five accepted run records are handed back as a part of the lent records; a refused job hands back the empty part'; `size` is a record's
abbrev pub accepted_by : ℕ → Told ℕ → List ℕ → List ℕ
accepted_by size (done at) s = take (5 * size) (drop (size * at) s)
accepted_by size (refused number at) s = []

unfoldable pub accepted_of : Prover → ℕ → ℕ → Form → List ℕ → List ℕ
accepted_of prover k limit form s = accepted_by (size_of form) (found_of prover k limit form s) s
