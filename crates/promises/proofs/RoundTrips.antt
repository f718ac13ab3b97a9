-- The round trips of the contracts: each answer tells its meaning and leaves its bytes, of which the round trips are proved in `report`
-- and `proving`.
use Rattle.std.specs.Prelude.{Ok, Option}
use mathlib.Core.Path.{◌≡◌, sym, ap, ◌∙◌}
use mathlib.Core.List.{List, []}
use Prim.Native.Nat.{ℕ, ◌+◌, ◌*◌, ◌^◌, ◌<◌}
use lib.ListN.{length, take, drop}
use Rattle.refusals.specs.Told.{Told, done, refused, left_by}
use Rattle.refusals.proofs.Laws.{unless_fine, told_one}
use Rattle.factors.specs.declared.Prover.{Prover}
use Rattle.group.specs.Repeatability.{nine_unless}
use Rattle.run.specs.Record.{size_of}
use Rattle.run.specs.declared.Form.{Form}
use Rattle.report.specs.Record.{bytes_of_report}
use Rattle.report.specs.Judged.{write_of, read_of}
use Rattle.report.specs.declared.Report.{Report}
use Rattle.report.proofs.RoundTrips.{write_read, read_writable, read-write}
use Rattle.proving.specs.Judging.{runs_in}
use Rattle.proving.specs.Job.{factors_of, five_at, found_of, job_of, accepted_by, accepted_of}
use Rattle.proving.proofs.Accepted.{done_begins, whole_when_done, empty_when_refused}
use Rattle.proving.proofs.Facts.{found_at, written}
use Rattle.promises.specs.Arguments.{first, second, third, fourth, fifth, sixth, seventh}
use Rattle.promises.specs.Proving.{Asked}
use Rattle.promises.specs.RoundTrips.{FiveFrom, RoundTrips}
use Rattle.promises.proofs.Demand2.{five_found, accepted_only_when}
use Rattle.refusals.specs.Answered.{told}

module _ (request : ℕ) (prover : Prover) (k limit : ℕ) (form : Form) (s out : List ℕ) where
  -- the bytes of a job's report are read back as the report
  job_back : {report : Report} → request < 2 ^ 32 → job_of request prover k limit form s (length out) ≡ done report
      → read_of (left_by (job_of request prover k limit form s (length out)) bytes_of_report out) ≡ done report
  unfolding found_of
  job_back {report} small is =
      let asked = (accepted_only_when prover k limit form s request (length out) is).0 in
      let c = five_found prover k limit form s request (length out) is in
      let found : found_of prover k limit form s ≡ done c.place = unless_fine c.clear (ap (λ (o : Option ℕ). nine_unless o (λ at. at)) c.first) in
      let five = five_at (factors_of prover k form s) c.place in
      let can = written request prover k limit form s asked.number (found_at prover k limit form s found) ∙ ap done c.gives in
      let wrote : write_of (length out) request (runs_in form s) (c.place + 1) five ≡ done report = ap (λ (n : ℕ). write_of n request (runs_in form s) (c.place + 1) five) asked.buffer ∙ can in
      ap (λ (t : Told Report). read_of (left_by t bytes_of_report out)) (is ∙ sym wrote) ∙ write_read request (runs_in form s) (c.place + 1) five out small wrote

  -- the accepted part of its input is five whole records from the report's first run on
  part_of_job : {report : Report} → job_of request prover k limit form s (length out) ≡ done report → FiveFrom form report.first s (accepted_of prover k limit form s)
  unfolding accepted_of
  part_of_job is =
      let asked = (accepted_only_when prover k limit form s request (length out) is).0 in
      let sized = ap (job_of request prover k limit form s) (sym asked.buffer) ∙ is in
      let b = done_begins request prover k limit form s asked.number sized in
      record {
        place = b.place;
        begins = b.first;
        five = ap (λ (t : Told ℕ). accepted_by (size_of form) t s) b.found;
        whole = whole_when_done request prover k limit form s asked.number sized;
      }

  no_part_of_job : {number at : ℕ} → Asked request (length out) → job_of request prover k limit form s (length out) ≡ refused number at → accepted_of prover k limit form s ≡ []
  no_part_of_job asked is = empty_when_refused request prover k limit form s asked.number (ap (job_of request prover k limit form s) (sym asked.buffer) ∙ is)

-- the same input to another entry
same_part : {prover prover' : Prover} {k k' limit limit' : ℕ} {form form' : Form} {s s' : List ℕ} → prover' ≡ prover → k' ≡ k → limit' ≡ limit → form' ≡ form → s' ≡ s → accepted_of prover' k' limit' form' s' ≡ accepted_of prover k limit form s
same_part p q l f t = λ i. accepted_of (p i) (q i) (l i) (f i) (t i)

pub round_trips : RoundTrips
round_trips =
    record {
      job_read_back = λ κ a r x κ' b q y report p p' small is same.
          let job = sym p.0 ∙ ap told is in
          told_one q (Ok report) (p' ∙ ap read_of (same ∙ p.1) ∙ job_back (first a) (second a) (third a) (fourth a) (fifth a) (sixth a).now (seventh a).now small job);
      write_then_read = λ κ a r x κ' b q y report p p' small is same.
          told_one q (Ok report) (p' ∙ ap read_of (same ∙ p.1) ∙ write_read (first a) (second a) (third a) (fourth a) (fifth a).now small (sym p.0 ∙ ap told is));
      read_then_write = λ κ a r x κ' b q y report p p' bytes is number runs begin factors long.
          let fields : read_of (first a).now ≡ done report = sym p ∙ ap told is in
          let given : write_of (length (fifth b).now) (first b) (second b) (third b) (fourth b) ≡ write_of (length (fifth b).now) report.number report.runs report.first report.factors =
          λ i. write_of (length (fifth b).now) (number i) (runs i) (begin i) (factors i) in (
            told_one q (Ok report) (p'.0 ∙ given ∙ ap (λ (n : ℕ). write_of n report.number report.runs report.first report.factors) long ∙ read_writable (first a).now fields),
            p'.1 ∙ ap (λ (t : Told Report). left_by t bytes_of_report (fifth b).now) given ∙ read-write (first a).now (fifth b).now bytes long fields,
          );
      accepted_from = λ κ a r x κ' b q y report p p' prover k limit form records is.
          let part = part_of_job (first a) (second a) (third a) (fourth a) (fifth a) (sixth a).now (seventh a).now (sym p.0 ∙ ap told is) in
          let handed = p' ∙ same_part prover k limit form records in
          record {
            place = part.place;
            begins = part.begins;
            five = handed ∙ part.five ∙ (λ i. take (5 * size_of (sym form i)) (drop (size_of (sym form i) * part.place) (sym records i)));
            whole = ap length handed ∙ part.whole ∙ (λ i. 5 * size_of (sym form i));
          };
      accepted_none = λ κ a r x κ' b q y p p' prover k limit form records asked is.
          p' ∙ same_part prover k limit form records ∙ no_part_of_job (first a) (second a) (third a) (fourth a) (fifth a) (sixth a).now (seventh a).now asked (sym p.0 ∙ is);
    }
