-- 01, 'Records': 'writing then reading returns the same fields, reading then writing the same bytes'.
use mathlib.Core.Path.{◌≡◌, refl, sym, ◌∙◌, ap}
use mathlib.Core.Bool.{Bool, true, ◌&&◌, not}
use mathlib.Core.List.{List, [], ◌∷◌, ◌++◌}
use Prim.Native.Nat.{ℕ, zero, suc, ◌+◌, ◌≤◌, ◌<◌}
use native.Mathlib.Numerals.{add-one}
use native.Mathlib.Omega.{arith}
use borrow.Author.Tests.{eqb-true, eqb-false, eq-eqb, not-true}
use lib.Dec.{eqb}
use lib.ListN.{length, get_or, take, drop}
use lib.Seq.{take-add, take-length, drop-cons}
use Rattle.group.proofs.Means.{mean_at_most}
use Rattle.octets.specs.FirstToLast.{first_to_last}
use Rattle.octets.specs.Octets.{byte_at, word_at, long_at, is_zero_at, zero_between, bytes_of}
use Rattle.octets.proofs.Laws.{Bytes, read_part, bytes_read, zero_part}
use Rattle.ranges.specs.Table.{run_factor_ok, runs_ok}
use Rattle.ranges.proofs.Laws.{both_first, both_second, both_true, within_high}
use Rattle.refusals.specs.Told.{Told, done, left_by}
use Rattle.report.specs.Judged.{factors_ok, first_ok, job_ok, report_ok, is_report, report_of, write_of, read_of}
use Rattle.group.specs.Mean.{mean_of}
use Rattle.report.specs.Record.{list_of, fields_of, bytes_of_report}
use Rattle.report.specs.declared.Factors.{Factors}
use Rattle.report.specs.declared.Report.{Report}
use Rattle.report.proofs.Laws.{length_report, read_yes, read_accepts, write_yes, write_accepts}

-- ---- the fields of the bytes written

-- the values that fit their places
pub record Fits (r : Report) : Type 0 where
  pub number : r.number < 4294967296
  pub factor : r.factor < 65536
  pub factors : (k : ℕ) → get_or (list_of r.factors) k 0 < 65536

word_back : (r : Report) (at : ℕ) {x : ℕ} → x < 65536 → at ≤ 32 → take 2 (drop at (bytes_of_report r)) ≡ bytes_of 2 x → word_at (bytes_of_report r) at ≡ x
unfolding word_at
word_back r at {x} h l part = read_part 2 x (bytes_of_report r) at h (omega (arith, length_report r)) part

pub fields_back : (r : Report) → Fits r → fields_of (bytes_of_report r) ≡ r
unfolding byte_at word_at long_at bytes_of list_of fields_of bytes_of_report
fields_back r fits =
    let one = word_back r 8 (fits.factors 0) (omega arith) refl in
    let two = word_back r 10 (fits.factors 1) (omega arith) refl in
    let three = word_back r 12 (fits.factors 2) (omega arith) refl in
    let four = word_back r 14 (fits.factors 3) (omega arith) refl in
    let five = word_back r 16 (fits.factors 4) (omega arith) refl in
    let number = read_part 4 r.number (bytes_of_report r) 0 fits.number (omega arith) refl in
    let factor = word_back r 4 fits.factor (omega arith) refl in
    λ i. record { number = number i; factor = factor i; first = r.first; runs = r.runs; factors = record { one = one i; two = two i; three = three i; four = four i; five = five i } }

pub rest_zero : (r : Report) → zero_between (bytes_of_report r) 18 32 ≡ true
unfolding first_to_last is_zero_at zero_between bytes_of bytes_of_report
rest_zero r = refl

-- ---- writing, then reading

-- factors in range are at most 12000 each
factor_high : (xs : List ℕ) → factors_ok xs ≡ true → (k : ℕ) → get_or xs k 0 ≤ 12000
unfolding run_factor_ok factors_ok
factor_high [] ok k = omega arith
factor_high (x ∷ xs) ok zero = within_high 8000 12000 x (both_first (run_factor_ok x) (factors_ok xs) ok)
factor_high (x ∷ xs) ok (suc k) = factor_high xs (both_second (run_factor_ok x) (factors_ok xs) ok) k

-- a report's bytes are read back as the report
pub report_back : (r : Report) → Fits r → report_ok r ≡ true → read_of (bytes_of_report r) ≡ done r
unfolding is_report
report_back r fits ok =
    let back : fields_of (bytes_of_report r) ≡ r = fields_back r fits in
    read_yes (bytes_of_report r) (length_report r) (both_true (ap report_ok back ∙ ok) (rest_zero r)) ∙ ap done back

some_values : (factors : Factors) → 0 < length (list_of factors)
unfolding list_of
some_values factors = omega arith

module _ (number runs first : ℕ) (factors : Factors) where
  -- the report of a job that may be written fits its places
  job_fits : number < 4294967296 → job_ok runs first (list_of factors) ≡ true → Fits (report_of number runs first factors)
  unfolding job_ok report_of
  job_fits h ok =
      let xs : List ℕ = list_of factors in
      let in-range : factors_ok xs ≡ true = both_second (first_ok first runs) (factors_ok xs) (both_second (runs_ok runs) (first_ok first runs && factors_ok xs) ok) in
      let mean : mean_of xs ≤ 12000 = mean_at_most xs (some_values factors) 12000 (λ k _. factor_high xs in-range k) in
      record { number = h; factor = omega arith; factors = λ k. omega (arith, factor_high xs in-range k) }

  -- what may be written is a report
  job_report : not (eqb number 0) ≡ true → job_ok runs first (list_of factors) ≡ true → report_ok (report_of number runs first factors) ≡ true
  unfolding report_ok report_of
  job_report some ok = both_true some (both_true ok (eq-eqb (mean_of (list_of factors)) (mean_of (list_of factors)) refl))

  -- 'writing then reading returns the same fields'
  pub write_read : {r : Report} (found : List ℕ) → number < 4294967296 → write_of (length found) number runs first factors ≡ done r
      → read_of (left_by (write_of (length found) number runs first factors) bytes_of_report found) ≡ done r
  write_read found h is =
      let w = write_accepts (length found) number runs first factors is in
      ap (λ (t : Told Report). read_of (left_by t bytes_of_report found)) (is ∙ ap done (sym w.3))
      ∙ report_back (report_of number runs first factors) (job_fits h w.2) (job_report w.1 w.2)
      ∙ ap done w.3

-- ---- reading, then writing

-- a part of the bytes, and the part that follows it
follow : (s : List ℕ) (a n : ℕ) {front part : List ℕ} → front ≡ take a s → part ≡ take n (drop a s) → front ++ part ≡ take (a + n) s
follow s a n front-is part-is = (λ i. front-is i ++ part-is i) ∙ sym (take-add a n s)

pair : (s : List ℕ) (at : ℕ) → at + 2 ≤ length s → byte_at s at ∷ byte_at s (at + 1) ∷ [] ≡ take 2 (drop at s)
unfolding byte_at
pair s at h =
    let here : drop at s ≡ get_or s at 0 ∷ drop (suc at) s = drop-cons s at 0 (omega arith) in
    let next : drop (suc at) s ≡ get_or s (suc at) 0 ∷ drop (suc (suc at)) s = drop-cons s (suc at) 0 (omega arith) in
    rw (here, next, add-one)

word_bytes : (s : List ℕ) (at : ℕ) → Bytes s → at + 2 ≤ length s → bytes_of 2 (word_at s at) ≡ take 2 (drop at s)
unfolding word_at
word_bytes s at small h = bytes_read 2 s at small h

-- 32 bytes whose rest is zero are the bytes of their fields
pub bytes_back : (s : List ℕ) → Bytes s → length s ≡ 32 → zero_between s 18 32 ≡ true → bytes_of_report (fields_of s) ≡ s
unfolding long_at fields_of bytes_of_report
bytes_back s small long zeros =
    follow s 18 14
    (follow s 16 2
    (follow s 14 2
    (follow s 12 2
    (follow s 10 2
    (follow s 8 2
    (follow s 6 2
    (follow s 4 2 (bytes_read 4 s 0 small (omega arith)) (word_bytes s 4 small (omega arith)))
    (pair s 6 (omega arith)))
    (word_bytes s 8 small (omega arith)))
    (word_bytes s 10 small (omega arith)))
    (word_bytes s 12 small (omega arith)))
    (word_bytes s 14 small (omega arith)))
    (word_bytes s 16 small (omega arith)))
    (sym (zero_part s 18 14 (omega arith) zeros))
    ∙ ap (λ (n : ℕ). take n s) (sym long)
    ∙ take-length s

-- what is read back may be written, and is the same report
pub read_writable : {r : Report} (s : List ℕ) → read_of s ≡ done r → write_of 32 r.number r.runs r.first r.factors ≡ done r
unfolding is_report report_ok report_of
read_writable {r} s is =
    let got = read_accepts s is in
    let some : Bool = not (eqb r.number 0) in
    let job : Bool = job_ok r.runs r.first (list_of r.factors) in
    let mean : Bool = eqb r.factor (mean_of (list_of r.factors)) in
    let ok : report_ok r ≡ true = ap report_ok (sym got.2) ∙ both_first (report_ok (fields_of s)) (zero_between s 18 32) got.1 in
    let rest : (job && mean) ≡ true = both_second some (job && mean) ok in
    let holds : mean_of (list_of r.factors) ≡ r.factor = sym (eqb-true r.factor (mean_of (list_of r.factors)) (both_second job mean rest)) in
    let numbered = eqb-false r.number 0 (not-true (eqb r.number 0) (both_first some (job && mean) ok)) in
    write_yes 32 r.number r.runs r.first r.factors refl numbered (both_first job mean rest)
    ∙ ap done (λ i. record { number = r.number; factor = holds i; first = r.first; runs = r.runs; factors = r.factors })

-- 'reading then writing the same bytes'
pub read-write : {r : Report} (s found : List ℕ) → Bytes s → length found ≡ 32 → read_of s ≡ done r → left_by (write_of (length found) r.number r.runs r.first r.factors) bytes_of_report found ≡ s
unfolding is_report
read-write {r} s found small long is =
    let got = read_accepts s is in
    ap (λ (n : ℕ). left_by (write_of n r.number r.runs r.first r.factors) bytes_of_report found) long
    ∙ ap (λ (t : Told Report). left_by t bytes_of_report found) (read_writable s is)
    ∙ ap bytes_of_report (sym got.2)
    ∙ bytes_back s small got.0 (both_second (report_ok (fields_of s)) (zero_between s 18 32) got.1)
