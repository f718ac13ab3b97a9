-- When the writer and the reader accept, exactly; and the five factors judged one by one.
use mathlib.Core.Path.{◌≡◌, refl, ap}
use mathlib.Core.Bool.{Bool, true, not, ◌&&◌}
use Rattle.std.specs.List.{list_all}
use Rattle.ranges.specs.Table.{run_factor_ok}
use mathlib.Core.List.{List, [], ◌∷◌}
use Prim.Native.Nat.{ℕ}
use borrow.Author.Tests.{eq-eqb, ne_eqb, eqb-true}
use lib.Dec.{eqb}
use lib.ListN.{length}
use Rattle.octets.specs.Octets.{bytes_of}
use Rattle.refusals.proofs.Laws.{judged_was, judged_done, demand_was, or_else_fine_first, or_else_fine_next}
use Rattle.refusals.specs.Told.{done, demand, or_else}
use Rattle.report.specs.Judged.{factors_ok, job_ok, is_report, report_of, write_of, read_of}
use Rattle.report.specs.Record.{list_of, fields_of, bytes_of_report}
use Rattle.report.specs.declared.Factors.{Factors}
use Rattle.report.specs.declared.Report.{Report}

pub length_report : (r : Report) → length (bytes_of_report r) ≡ 32
unfolding bytes_of bytes_of_report
length_report r = refl

module _ (s : List ℕ) where
  pub read_yes : length s ≡ 32 → is_report s ≡ true → read_of s ≡ done (fields_of s)
  unfolding read_of
  read_yes h is = rw (eq-eqb (length s) 32 h, is)

  -- a report is read back exactly when its 32 bytes are a report, and then as its fields
  pub read_accepts : {r : Report} → read_of s ≡ done r → (length s ≡ 32) × (is_report s ≡ true) × (fields_of s ≡ r)
  unfolding read_of
  read_accepts is =
      let size : Bool = eqb (length s) 32 in
      let faults = or_else (demand size 14) (demand (is_report s) 15) in
      let clear = judged_was faults (fields_of s) is in
      (eqb-true (length s) 32 (demand_was size 14 (or_else_fine_first (demand size 14) _ clear)), demand_was (is_report s) 15 (or_else_fine_next (demand size 14) _ clear), judged_done faults (fields_of s) is)

module _ (size number runs first : ℕ) (factors : Factors) where
  pub write_yes : size ≡ 32 → (number ≡ 0 → ⊥) → job_ok runs first (list_of factors) ≡ true → write_of size number runs first factors ≡ done (report_of number runs first factors)
  unfolding write_of
  write_yes h z is = rw (eq-eqb size 32 h, ne_eqb number 0 z, is)

  pub write_accepts : {r : Report} → write_of size number runs first factors ≡ done r → (size ≡ 32) × (not (eqb number 0) ≡ true) × (job_ok runs first (list_of factors) ≡ true) × (report_of number runs first factors ≡ r)
  unfolding write_of
  write_accepts is =
      let same : Bool = eqb size 32 in
      let some : Bool = not (eqb number 0) in
      let ok : Bool = job_ok runs first (list_of factors) in
      let faults = or_else (demand same 14) (or_else (demand some 22) (demand ok 15)) in
      let clear = judged_was faults (report_of number runs first factors) is in
      let rest = or_else_fine_next (demand same 14) _ clear in
      let sized = eqb-true size 32 (demand_was same 14 (or_else_fine_first (demand same 14) _ clear)) in
      (sized, demand_was some 22 (or_else_fine_first (demand some 22) _ rest), demand_was ok 15 (or_else_fine_next (demand some 22) _ rest), judged_done faults (report_of number runs first factors) is)

-- each factor judged alone
pub all_in_range : (xs : List ℕ) → list_all run_factor_ok xs ≡ factors_ok xs
unfolding factors_ok
all_in_range [] = refl
all_in_range (x ∷ xs) = ap (λ (rest : Bool). run_factor_ok x && rest) (all_in_range xs)
