-- Demand 2, of the contracts of the job and of the water draw themselves: 'A job is accepted exactly when ..', 'The first such group is the
-- one used', and the report in the lent buffer is of it. `f.Post κ a r x` is what f ensures of the arguments a at entry, the answer r and
-- the arguments x at exit; of `prove` they are request, prover, K, limit, form, records and buffer, of `volumes` and `draw` profile,
-- prover and records.
use Rattle.std.specs.Prelude.{◌≡◌, length, Ok}
use Rattle.report.specs.Record.{bytes_of_report}
use Rattle.report.specs.declared.Report.{Report}
use Rattle.draw.specs.declared.BaseVolume.{BaseVolume}
use Rattle.proving.proofs.prove.Reads as prove
use Rattle.draw.proofs.volumes.Reads as volumes
use Rattle.draw.proofs.draw.Reads as draw
use Rattle.promises.specs.Arguments.{first, second, third, fourth, fifth, sixth, seventh}
use Rattle.promises.specs.Proving as proving
use Rattle.promises.specs.WaterDraw as water

pub record Jobs : Type 0 where
  -- a job that answers with a report was acceptable, the report is of the first five, and its bytes are in the buffer
  pub proved_only_when : (κ : _) (a : _) (r : _) (x : _) (report : Report) → prove.Post κ a r x → r ≡ Ok report
      → proving.Asked (first a) (length (seventh a).now) × proving.Acceptable (second a) (third a) (fourth a) (fifth a) (sixth a).now
  pub proved_of_the_first : (κ : _) (a : _) (r : _) (x : _) (report : Report) → prove.Post κ a r x → r ≡ Ok report
      → proving.Used (first a) (second a) (third a) (fourth a) (fifth a) (sixth a).now report × ((seventh x).now ≡ bytes_of_report report)
  -- and every acceptable job that is asked for so answers with a report
  pub proved_when : (κ : _) (a : _) (r : _) (x : _) → prove.Post κ a r x → proving.Asked (first a) (length (seventh a).now)
      → proving.Acceptable (second a) (third a) (fourth a) (fifth a) (sixth a).now → (report : Report) × (r ≡ Ok report)
  -- the same of a water draw, of either profile
  pub drawn_only_when : (κ : _) (a : _) (r : _) (x : _) (base : BaseVolume) → draw.Post κ a r x → r ≡ Ok base → water.Acceptable (first a) (second a) (third a).now
  pub drawn_of_the_first : (κ : _) (a : _) (r : _) (x : _) (base : BaseVolume) → draw.Post κ a r x → r ≡ Ok base → water.Used (first a) (second a) (third a).now base
  pub drawn_when : (κ : _) (a : _) (r : _) (x : _) → draw.Post κ a r x → water.Acceptable (first a) (second a) (third a).now → (base : BaseVolume) × (r ≡ Ok base)
  -- it has no use for the base volume: provers of one metal and one pipe are given the same volumes and the same answer. (A fill takes the metal alone.)
  pub volumes_without_base : (κ : _) (a : _) (r : _) (x : _) (κ' : _) (b : _) (q : _) (y : _) → volumes.Post κ a r x → volumes.Post κ' b q y
      → first a ≡ first b → (second a).metal ≡ (second b).metal → (second a).pipe ≡ (second b).pipe → (third a).now ≡ (third b).now → r ≡ q
  pub drawn_without_base : (κ : _) (a : _) (r : _) (x : _) (κ' : _) (b : _) (q : _) (y : _) → draw.Post κ a r x → draw.Post κ' b q y
      → first a ≡ first b → (second a).metal ≡ (second b).metal → (second a).pipe ≡ (second b).pipe → (third a).now ≡ (third b).now → r ≡ q
