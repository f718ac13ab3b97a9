-- 01, 'Records': 'Writing then reading returns the same fields, reading then writing the same bytes', and 'the five accepted run records are
-- handed back as a part of the lent records', of the contracts themselves: what one entry leaves is handed to another. `f.Post κ a r x` is
-- what f ensures of the arguments a at entry, the answer r and the arguments x at exit. The arguments of `prove` are request, prover, K,
-- limit, form, records and buffer; of `accept` prover, K, limit, form and records; of `write` number, runs, first run, factors and buffer; of `read`
-- bytes. That a number is of 32 bits and a byte of 8, as their types have it, is said where it is used: a meaning's numbers are any.
use Rattle.std.specs.Prelude.{◌≡◌, List, [], ℕ, ◌+◌, ◌*◌, ◌^◌, ◌<◌, length, take, drop, Ok}
use Rattle.refusals.specs.Told.{refused}
use Rattle.octets.proofs.Laws.{Bytes}
use Rattle.run.specs.Record.{size_of}
use Rattle.run.specs.declared.Form.{Form}
use Rattle.report.specs.declared.Report.{Report}
use Rattle.report.proofs.write.Reads as write
use Rattle.report.proofs.read.Reads as read
use Rattle.proving.proofs.prove.Reads as prove
use Rattle.proving.proofs.accept.Reads as accept
use Rattle.promises.specs.Arguments.{first, second, third, fourth, fifth, sixth, seventh}
use Rattle.promises.specs.Proving.{Asked}
use Rattle.refusals.specs.Answered.{told}

-- the part is five whole records of those lent, of which the first is the run of that number, counted from 1
pub record FiveFrom (form : Form) (run : ℕ) (s part : List ℕ) : Type 0 where
  pub place : ℕ
  pub begins : run ≡ place + 1
  pub five : part ≡ take (5 * size_of form) (drop (size_of form * place) s)
  pub whole : length part ≡ 5 * size_of form

pub record RoundTrips : Type 0 where
  -- what a job leaves in the buffer is read back as its report
  pub job_read_back : (κ : _) (a : _) (r : _) (x : _) (κ' : _) (b : _) (q : _) (y : _) (report : Report) → prove.Post κ a r x → read.Post κ' b q y
      → first a < 2 ^ 32 → r ≡ Ok report → (first b).now ≡ (seventh x).now → q ≡ Ok report
  -- 'Writing then reading returns the same fields'
  pub write_then_read : (κ : _) (a : _) (r : _) (x : _) (κ' : _) (b : _) (q : _) (y : _) (report : Report) → write.Post κ a r x → read.Post κ' b q y
      → first a < 2 ^ 32 → r ≡ Ok report → (first b).now ≡ (fifth x).now → q ≡ Ok report
  -- 'reading then writing the same bytes', into any buffer of 32
  pub read_then_write : (κ : _) (a : _) (r : _) (x : _) (κ' : _) (b : _) (q : _) (y : _) (report : Report) → read.Post κ a r x → write.Post κ' b q y
      → Bytes (first a).now → r ≡ Ok report
      → first b ≡ report.number → second b ≡ report.runs → third b ≡ report.first → fourth b ≡ report.factors → length (fifth b).now ≡ 32
      → (q ≡ Ok report) × ((fifth y).now ≡ (first a).now)
  -- the accepted part of a job's input begins at its report's first run,
  pub accepted_from : (κ : _) (a : _) (r : _) (x : _) (κ' : _) (b : _) (q : _) (y : _) (report : Report) → prove.Post κ a r x → accept.Post κ' b q y
      → first b ≡ second a → second b ≡ third a → third b ≡ fourth a → fourth b ≡ fifth a → (fifth b).now ≡ (sixth a).now
      → r ≡ Ok report → FiveFrom (fourth b) report.first (fifth b).now q.now
  -- and is empty where the job, 'with a 32-byte buffer and a non-zero request number', is refused
  pub accepted_none : (κ : _) (a : _) (r : _) (x : _) (κ' : _) (b : _) (q : _) (y : _) {number at : ℕ} → prove.Post κ a r x → accept.Post κ' b q y
      → first b ≡ second a → second b ≡ third a → third b ≡ fourth a → fourth b ≡ fifth a → (fifth b).now ≡ (sixth a).now
      → Asked (first a) (length (seventh a).now) → told r ≡ refused number at → q.now ≡ []
