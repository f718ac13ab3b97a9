-- 02, 'Bidirectional provers': 'the unidirectional rule stays as it is'. 01 knows no other prover. Here stand 01's own definitions of a water draw, each
-- under today's name with 01 behind it, and that a draw of a unidirectional prover is answered as 01 answers it, accepted or refused.
use Rattle.std.specs.Prelude.{◌≡◌, ◌&&◌, List, [], ℕ, ◌+◌, length}
use Rattle.refusals.specs.Told.{Told, Fault, demand, or_else, unless, judged, left_by}
use Rattle.ranges.specs.Table.{fills_ok, passes_ok}
use Rattle.octets.specs.FirstToLast.{scan}
use Rattle.octets.specs.Records.{records_in, are_records, zeros_after}
use Rattle.group.specs.Listed.{listed}
use Rattle.group.specs.Mean.{mean_of}
use Rattle.group.specs.Repeatability.{group_at, first_group, nine_unless}
use Rattle.factors.specs.Metal.{metal_ok}
use Rattle.factors.specs.Prover.{pipe_ok}
use Rattle.factors.specs.declared.Prover.{Prover}
use Rattle.draw.specs.Passes.{pass_count, pass_volume}
use Rattle.draw.specs.Profile.{volumes_of}
use Rattle.draw.specs.Base.{barrels_of}
use Rattle.draw.specs.Answers.{fill_fault, draw_fault, count_of, held_for, draw_of}
use Rattle.draw.specs.declared.BaseVolume.{BaseVolume}
use Rattle.draw.specs.declared.Profile.TheVariants.{Unidirectional}

-- the volumes of all passes, which count from 1
unfoldable pub volumes_of01 : Prover → List ℕ → List ℕ
volumes_of01 prover s = listed (pass_volume prover s) (pass_count s) 1

-- 1, 3 without the base volume, the records first to last; 'more or fewer passes than 3 to 20 is 1, found after the records'
unfoldable pub draw_fault01 : Prover → List ℕ → Fault
draw_fault01 prover s =
    or_else (demand (are_records fills_ok 32 (length s)) 1)
    (or_else (demand (metal_ok prover.metal && pipe_ok prover.pipe) 3)
    (or_else (scan (fill_fault s) (records_in 32 s) 0)
    (demand (passes_ok (pass_count s)) 1)))

-- the passes' count, and their volumes in an array of 20
unfoldable pub passes_of01 : Prover → List ℕ → Told ℕ
passes_of01 prover s = judged (draw_fault01 prover s) (pass_count s)

unfoldable pub held_for01 : Prover → List ℕ → List ℕ
held_for01 prover s = zeros_after 20 (left_by (passes_of01 prover s) (λ count. volumes_of01 prover s) [])

-- 'Three consecutive passes qualify by the same test with limit 2. The first three decide; the base volume is their mean, rounded. The answer is
-- that, the same in barrels (÷ 9702, 4 places) and the first pass used.'
unfoldable pub base_from01 : List ℕ → ℕ → BaseVolume
base_from01 three at = record { base = mean_of three; barrels = barrels_of (mean_of three); first = at + 1 }

unfoldable pub base_of01 : List ℕ → Told BaseVolume
base_of01 volumes = nine_unless (first_group 2 3 volumes) (λ at. base_from01 (group_at 3 volumes at) at)

unfoldable pub draw_of01 : Prover → List ℕ → Told BaseVolume
draw_of01 prover s = unless (draw_fault01 prover s) (base_of01 (volumes_of01 prover s))

pub record OneWay : Type 0 where
  pub volumes_as_in_01 : (prover : Prover) (s : List ℕ) → volumes_of Unidirectional prover s ≡ volumes_of01 prover s
  pub judged_as_in_01 : (prover : Prover) (s : List ℕ) → draw_fault Unidirectional prover s ≡ draw_fault01 prover s
  pub passes_as_in_01 : (prover : Prover) (s : List ℕ) → count_of Unidirectional prover s ≡ passes_of01 prover s
  pub held_as_in_01 : (prover : Prover) (s : List ℕ) → held_for Unidirectional prover s ≡ held_for01 prover s
  pub drawn_as_in_01 : (prover : Prover) (s : List ℕ) → draw_of Unidirectional prover s ≡ draw_of01 prover s
