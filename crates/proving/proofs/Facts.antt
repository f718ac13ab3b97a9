-- What it says of the input that judging found no fault, and what it says of the runs that a qualifying five was found.
use Rattle.std.specs.Prelude.{Some}
use mathlib.Core.Path.{◌≡◌, refl, sym, ap, ◌∙◌}
use mathlib.Core.Bool.{true}
use mathlib.Core.List.{List}
use Prim.Native.Nat.{ℕ, ◌+◌, ◌*◌, ◌/◌, ◌%◌, ◌<◌, ◌≤◌}
use native.Mathlib.Omega.{arith}
use borrow.Author.Tests.{eqb-true, le-leb}
use lib.Dec.{eqb}
use lib.ListN.{length, get_or, take}
use Rattle.refusals.specs.Told.{done, fine, demand, demand_at, unless}
use Rattle.refusals.proofs.Laws.{demand_was, demand_at_was, or_else_fine_first, or_else_fine_next}
use Rattle.octets.specs.FirstToLast.{scan}
use Rattle.octets.specs.Records.{records_in, are_records}
use Rattle.octets.proofs.FirstToLast.{faults, empty}
use Rattle.ranges.specs.Table.{runs_ok, k_factor_ok, volume_ok, run_factor_ok}
use Rattle.ranges.proofs.Laws.{both_first, both_second, both_true, within_low, within_high, within_true}
use Rattle.factors.specs.Prover.{prover_ok}
use Rattle.factors.specs.declared.Prover.{Prover}
use Rattle.group.proofs.Groups.{first_found}
use Rattle.group.proofs.Listed.{listed_value, listed_length, filled_listed}
use Rattle.group.specs.Repeatability.{first_group, nine_unless}
use Rattle.report.specs.Record.{list_of}
use Rattle.report.specs.Judged.{factors_ok, first_ok, job_ok, write_of}
use Rattle.report.proofs.Laws.{write_yes}
use Rattle.run.specs.Record.{size_of, run_at, run_ok}
use Rattle.run.specs.Figures.{figures_of}
use Rattle.run.specs.Answers.{record_fault, figures_fault}
use Rattle.run.specs.declared.Form.{Form}
use Rattle.run.specs.declared.Form.TheVariants.{Short, Long}
use Rattle.proving.specs.Judging.{runs_in, size_ok, settings_fault, lent_fault, run_fault, input_fault}
use Rattle.proving.specs.Job.{HoldsAll, factor_at, factors_of, first_five, found_of, five_at, five_from, five_of, report_at}
use Rattle.proving.specs.declared.Five.{Five}
use Rattle.proving.proofs.Laws.{reached}

pub record Settings (prover : Prover) (k : ℕ) (form : Form) (size : ℕ) : Type 0 where
  pub whole : size % size_of form ≡ 0
  pub least : 5 ≤ size / size_of form
  pub most : size / size_of form ≤ 20
  pub prover_fits : prover_ok prover ≡ true
  pub k_fits : k_factor_ok k ≡ true

pub settings : (prover : Prover) (k limit : ℕ) (form : Form) (size : ℕ) → settings_fault prover k limit form size ≡ fine → Settings prover k form size
unfolding settings_fault are_records runs_ok
settings prover k limit form size clear =
    let sized : size_ok form size ≡ true = demand_was (size_ok form size) 1 (or_else_fine_first (demand (size_ok form size) 1) _ clear) in
    let runs : runs_ok (size / size_of form) ≡ true = both_second (eqb (size % size_of form) 0) _ sized in
    let rest = or_else_fine_next (demand (size_ok form size) 1) _ clear in
    let last = or_else_fine_next (demand (prover_ok prover) 3) _ rest in
    record {
      whole = eqb-true (size % size_of form) 0 (both_first (eqb (size % size_of form) 0) _ sized);
      least = within_low 5 20 (size / size_of form) runs;
      most = within_high 5 20 (size / size_of form) runs;
      prover_fits = demand_was (prover_ok prover) 3 (or_else_fine_first (demand (prover_ok prover) 3) _ rest);
      k_fits = demand_was (k_factor_ok k) 4 (or_else_fine_first (demand (k_factor_ok k) 4) _ last);
    }

pub few_runs : (prover : Prover) (k limit : ℕ) (form : Form) (s : List ℕ) → settings_fault prover k limit form (length s) ≡ fine → runs_in form s ≤ 20
unfolding records_in
few_runs prover k limit form s clear = (settings prover k limit form (length s) clear).most

-- no record is at fault: every field of each is in range
pub fields_fit : (form : Form) (s : List ℕ) (n : ℕ) → scan (lent_fault form s) n 0 ≡ fine → (i : ℕ) → i < n → run_ok (run_at form s i) ≡ true
unfolding record_fault
fields_fit form s n clear i h = demand_at_was _ 5 (i + 1) (or_else_fine_first _ _ (empty faults (lent_fault form s) n 0 clear i (omega arith) (omega arith)))

-- no run is at fault: every factor is in range
factors_fit : (prover : Prover) (k : ℕ) (form : Form) (s : List ℕ) (n : ℕ) → scan (run_fault prover k form s) n 0 ≡ fine → (i : ℕ) → i < n → run_factor_ok (factor_at prover k form s i) ≡ true
unfolding run_fault figures_fault factor_at
factors_fit prover k form s n clear i h =
    let none = empty faults (run_fault prover k form s) n 0 clear i (omega arith) (omega arith) in
    demand_at_was _ 8 (i + 1) (or_else_fine_next (demand_at (volume_ok (figures_of prover k (run_at form s i)).indicated) 7 (i + 1)) _ none)

-- a five was found at a place
pub record FoundAt (prover : Prover) (k limit : ℕ) (form : Form) (s : List ℕ) (at : ℕ) : Type 0 where
  pub settled : Settings prover k form (length s)
  pub judged : input_fault prover k limit form s ≡ fine
  pub first : first_five prover k limit form s ≡ Some at
  pub inside : at + 5 ≤ length s / size_of form
  pub fit : (i : ℕ) → i < runs_in form s → run_factor_ok (factor_at prover k form s i) ≡ true

pub found_at : (prover : Prover) (k limit : ℕ) (form : Form) (s : List ℕ) {at : ℕ} → found_of prover k limit form s ≡ done at → FoundAt prover k limit form s at
unfolding found_of input_fault first_five factors_of records_in
found_at prover k limit form s is =
    let r = reached (input_fault prover k limit form s) (first_five prover k limit form s) (λ at. at) is in
    let five = r.first ∙ ap Some r.gives in
    let runs = or_else_fine_next (scan (lent_fault form s) (runs_in form s) 0) _ (or_else_fine_next (settings_fault prover k limit form (length s)) _ r.clear) in
    let found = first_found limit 5 (factors_of prover k form s) five in
    record {
      settled = settings prover k limit form (length s) (or_else_fine_first (settings_fault prover k limit form (length s)) _ r.clear);
      judged = r.clear;
      first = five;
      inside = omega (arith, found.within, listed_length (factor_at prover k form s) (runs_in form s) 0);
      fit = factors_fit prover k form s (runs_in form s) runs;
    }

-- an array that holds the runs' factors begins with all of them, and the place sought in them is the one that is found
module _ (prover : Prover) (k limit : ℕ) (form : Form) (s values : List ℕ) (clear : input_fault prover k limit form s ≡ fine) where
  pub room : length values ≡ 20 → runs_in form s ≤ length values
  unfolding input_fault
  room size = omega (arith, few_runs prover k limit form s (or_else_fine_first (settings_fault prover k limit form (length s)) _ clear))

  pub sought : length values ≡ 20 → HoldsAll values prover k form s → nine_unless (first_group limit 5 (take (runs_in form s) values)) (λ at. at) ≡ found_of prover k limit form s
  unfolding found_of first_five factors_of
  sought size each = rw (clear, filled_listed (factor_at prover k form s) values (runs_in form s) (room size) each)

-- a five that is found: its place, and its factors
pub record Proved (prover : Prover) (k limit : ℕ) (form : Form) (s : List ℕ) (five : Five) : Type 0 where
  pub place : found_of prover k limit form s ≡ done five.at
  pub found : FoundAt prover k limit form s five.at
  pub factors : five.factors ≡ five_at (factors_of prover k form s) five.at

pub proved : (prover : Prover) (k limit : ℕ) (form : Form) (s : List ℕ) {five : Five} → five_of prover k limit form s ≡ done five → Proved prover k limit form s five
unfolding five_from five_of found_of
proved prover k limit form s {five} is =
    let r = reached (input_fault prover k limit form s) (first_five prover k limit form s) (five_from prover k form s) is in
    let at : r.place ≡ five.at = ap (λ (f : Five). f.at) r.gives in
    let here : found_of prover k limit form s ≡ done five.at = (λ i. unless (r.clear i) (nine_unless (r.first i) (λ at. at))) ∙ ap done at in
    record {
      place = here;
      found = found_at prover k limit form s here;
      factors = sym (ap (λ (f : Five). f.factors) r.gives) ∙ ap (five_at (factors_of prover k form s)) at;
    }

-- the five records lie within what is lent
pub five_inside : (form : Form) (n at : ℕ) → at + 5 ≤ n / size_of form → size_of form * at + 5 * size_of form ≤ n
five_inside Short n at room = omega arith
five_inside Long n at room = omega arith

-- a factor of the list
listed_factor : (prover : Prover) (k : ℕ) (form : Form) (s : List ℕ) (j : ℕ) → j < runs_in form s → get_or (factors_of prover k form s) j 0 ≡ factor_at prover k form s j
unfolding factors_of
listed_factor prover k form s j h = listed_value (factor_at prover k form s) (runs_in form s) 0 j h ∙ ap (factor_at prover k form s) (omega arith)

-- five of them, from a place that leaves room
pub five_listed : (prover : Prover) (k : ℕ) (form : Form) (s values : List ℕ) (at : ℕ) → at + 5 ≤ runs_in form s → HoldsAll values prover k form s → five_at values at ≡ five_at (factors_of prover k form s) at
unfolding five_at
five_listed prover k form s values at room each =
    λ i. record { one = same at (omega arith) i; two = same (at + 1) (omega arith) i; three = same (at + 2) (omega arith) i; four = same (at + 3) (omega arith) i; five = same (at + 4) (omega arith) i }
  where
    same : (j : ℕ) → j < runs_in form s → get_or values j 0 ≡ get_or (factors_of prover k form s) j 0
    same j h = each j h ∙ sym (listed_factor prover k form s j h)

-- the report of a job that found its five can be written
pub written : (request : ℕ) (prover : Prover) (k limit : ℕ) (form : Form) (s : List ℕ) {at : ℕ} → (request ≡ 0 → ⊥) → FoundAt prover k limit form s at
    → write_of 32 request (runs_in form s) (at + 1) (five_at (factors_of prover k form s) at) ≡ done (report_at request prover k form s at)
unfolding job_ok first_ok factors_ok list_of report_at five_at runs_ok records_in
written request prover k limit form s {at} asked found =
    write_yes 32 request (runs_in form s) (at + 1) (five_at (factors_of prover k form s) at) refl asked
    (both_true (within_true 5 20 (length s / size_of form) found.settled.least found.settled.most)
    (both_true (both_true (le-leb 1 (at + 1) (omega arith)) (le-leb (at + 1 + 4) (length s / size_of form) (omega (arith, found.inside))))
    (both_true (in-range at (omega arith)) (both_true (in-range (at + 1) (omega arith)) (both_true (in-range (at + 2) (omega arith))
    (both_true (in-range (at + 3) (omega arith)) (both_true (in-range (at + 4) (omega arith)) refl)))))))
  where
    in-range : (j : ℕ) → j < at + 5 → run_factor_ok (get_or (factors_of prover k form s) j 0) ≡ true
    in-range j h = let inside : j < length s / size_of form = omega (arith, found.inside) in ap run_factor_ok (listed_factor prover k form s j inside) ∙ found.fit j inside

-- a factor in range fits the report's 16 bits
pub factor_small : {x : ℕ} → run_factor_ok x ≡ true → x ≤ 12000
unfolding run_factor_ok
factor_small {x} ok = within_high 8000 12000 x ok
