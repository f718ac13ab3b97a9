-- What a draw in which judging found nothing holds: its length, its settings, every record, the pass rule; and how many volumes it has.
use mathlib.Core.Path.{◌≡◌}
use mathlib.Core.Bool.{true, ◌&&◌}
use mathlib.Core.List.{List}
use Prim.Native.Nat.{ℕ, ◌+◌, ◌/◌, ◌%◌, ◌≤◌, ◌<◌}
use native.Mathlib.Omega.{arith}
use lib.Dec.{eqb}
use lib.ListN.{length}
use Rattle.refusals.specs.Told.{fine, demand, demand_at}
use Rattle.refusals.proofs.Laws.{or_else_fine_first, or_else_fine_next, demand_was, demand_at_was}
use Rattle.ranges.specs.Table.{fills_ok, passes_ok, paired_passes_ok}
use Rattle.ranges.proofs.Laws.{both_first, both_second, within_low, within_high}
use Rattle.octets.specs.Records.{records_in, are_records}
use Rattle.octets.proofs.FirstToLast.{faults, empty}
use Rattle.factors.specs.Metal.{metal_ok}
use Rattle.factors.specs.Prover.{pipe_ok}
use Rattle.factors.specs.declared.Metal.{Metal}
use Rattle.factors.specs.declared.Prover.{Prover}
use Rattle.draw.specs.Fill.{fill_at, fill_ok, rule_ok}
use Rattle.draw.specs.Passes.{pass_count}
use Rattle.draw.specs.Profile.{passes_fit, volume_count}
use Rattle.draw.specs.Answers.{record_fault, fill_fault, fills_fault, alone_fault, draw_fault}
use Rattle.draw.specs.declared.Profile.{Profile}
use Rattle.draw.specs.declared.passing.Judged.{Judged}
use Rattle.draw.specs.declared.Profile.TheVariants.{Unidirectional, Bidirectional}

pub record_fields : (s : List ℕ) (i : ℕ) → record_fault s i ≡ fine → fill_ok (fill_at s i) ≡ true
unfolding record_fault
record_fields s i is = demand_at_was (fill_ok (fill_at s i)) 5 (i + 1) (or_else_fine_first (demand_at (fill_ok (fill_at s i)) 5 (i + 1)) _ is)

pub alone_good : (metal : Metal) (s : List ℕ) → alone_fault metal s ≡ fine → (metal_ok metal ≡ true) × (fill_ok (fill_at s 0) ≡ true)
alone_good metal s is =
    let set = demand (metal_ok metal) 3 in
    let later = or_else_fine_next (demand (eqb (length s) 32) 1) _ is in
    (demand_was (metal_ok metal) 3 (or_else_fine_first set _ later), record_fields s 0 (or_else_fine_next set _ later))

pub count_within : (s : List ℕ) → are_records fills_ok 32 (length s) ≡ true → (3 ≤ records_in 32 s) × (records_in 32 s ≤ 60)
unfolding are_records records_in fills_ok
count_within s ok = let count = both_second (eqb (length s % 32) 0) _ ok in (within_low 3 60 (length s / 32) count, within_high 3 60 (length s / 32) count)

few : (profile : Profile) (s : List ℕ) → passes_fit profile (pass_count s) ≡ true → volume_count profile s ≤ 20
unfolding passes_fit volume_count passes_ok paired_passes_ok
few Unidirectional s fit = within_high 3 20 (pass_count s) fit
few Bidirectional s fit =
    let passes : pass_count s ≤ 20 = within_high 6 20 (pass_count s) (both_second (eqb (pass_count s % 2) 0) _ fit) in
    omega arith

pub record Sound (prover : Prover) (s : List ℕ) : Type 0 where
  pub some_fills : 3 ≤ records_in 32 s
  pub few_fills : records_in 32 s ≤ 60
  pub metal : metal_ok prover.metal ≡ true
  pub pipe : pipe_ok prover.pipe ≡ true
  pub fill : (i : ℕ) → i < records_in 32 s → fill_ok (fill_at s i) ≡ true
  pub rule : (i : ℕ) → i < records_in 32 s → rule_ok s i ≡ true

pub sound : (prover : Prover) (s : List ℕ) → fills_fault prover s ≡ fine → Sound prover s
unfolding fills_fault fill_fault
sound prover s is =
    let whole = are_records fills_ok 32 (length s) in
    let set = metal_ok prover.metal && pipe_ok prover.pipe in
    let count = count_within s (demand_was whole 1 (or_else_fine_first (demand whole 1) _ is)) in
    let from3 = or_else_fine_next (demand whole 1) _ is in
    let settings : set ≡ true = demand_was set 3 (or_else_fine_first (demand set 3) _ from3) in
    let fills = or_else_fine_next (demand set 3) _ from3 in
    let each : (i : ℕ) → i < records_in 32 s → fill_fault s i ≡ fine = λ i h. empty faults (fill_fault s) (records_in 32 s) 0 fills i (omega arith) (omega arith) in
    record {
      some_fills = count.0;
      few_fills = count.1;
      metal = both_first (metal_ok prover.metal) _ settings;
      pipe = both_second (metal_ok prover.metal) _ settings;
      fill = λ i h. record_fields s i (or_else_fine_first (record_fault s i) _ (each i h));
      rule = λ i h. demand_at_was (rule_ok s i) 6 (i + 1) (or_else_fine_next (record_fault s i) _ (each i h));
    }

-- the same of a draw: its fills, and a count of passes that its profile has use for
module _ (profile : Profile) (prover : Prover) (s : List ℕ) (is : draw_fault profile prover s ≡ fine) where
  pub fills_fine : fills_fault prover s ≡ fine
  unfolding draw_fault
  fills_fine = or_else_fine_first (fills_fault prover s) _ is

  pub draw_sound : Sound prover s
  draw_sound = sound prover s fills_fine

  pub few_volumes : volume_count profile s ≤ 20
  unfolding draw_fault
  few_volumes = few profile s (demand_was (passes_fit profile (pass_count s)) 1 (or_else_fine_next (fills_fault prover s) _ is))

-- and of one that is held as judged
pub sound_of : (draw : Judged) → Sound draw.prover draw.records.now
sound_of draw = sound draw.prover draw.records.now draw.nothing
