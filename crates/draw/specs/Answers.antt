-- What each entry answers, by the paper's order: 1, 3, records first to last with 5, 2 and 6, 1 for the passes, 9.
use Rattle.std.specs.Prelude.{◌&&◌, List, [], ℕ, ◌+◌, eqb, length}
use Rattle.refusals.specs.Told.{Told, Fault, demand, demand_at, or_else, unless, judged, left_by}
use Rattle.ranges.specs.Table.{fills_ok}
use Rattle.octets.specs.FirstToLast.{scan}
use Rattle.octets.specs.Records.{records_in, are_records, zeros_after}
use Rattle.factors.specs.Metal.{metal_ok}
use Rattle.factors.specs.Prover.{pipe_ok}
use Rattle.factors.specs.declared.Metal.{Metal}
use Rattle.factors.specs.declared.Prover.{Prover}
use Rattle.draw.specs.Fill.{fill_at, fill_ok, unnamed_ok, rule_ok}
use Rattle.draw.specs.Drawn.{figures_of}
use Rattle.draw.specs.Passes.{pass_count}
use Rattle.draw.specs.Profile.{passes_fit, volume_count, volumes_of}
use Rattle.draw.specs.Base.{base_of}
use Rattle.draw.specs.declared.Profile.{Profile}
use Rattle.draw.specs.declared.FillFigures.{FillFigures}
use Rattle.draw.specs.declared.BaseVolume.{BaseVolume}

-- one record: 'each with 5, 2', with its number from 1
unfoldable pub record_fault : List ℕ → ℕ → Fault
record_fault s i = or_else (demand_at (fill_ok (fill_at s i)) 5 (i + 1)) (demand_at (unnamed_ok s i) 2 (i + 1))

-- one record of a draw: 'each with 5, 2, 6'
unfoldable pub fill_fault : List ℕ → ℕ → Fault
fill_fault s i = or_else (record_fault s i) (demand_at (rule_ok s i) 6 (i + 1))

-- the fills of a draw: 1, 3 without the base volume, the records first to last
unfoldable pub fills_fault : Prover → List ℕ → Fault
fills_fault prover s =
    or_else (demand (are_records fills_ok 32 (length s)) 1)
    (or_else (demand (metal_ok prover.metal && pipe_ok prover.pipe) 3)
    (scan (fill_fault s) (records_in 32 s) 0))

-- a draw: 1 for a count of passes that its profile has no use for, 'found after the records'
unfoldable pub draw_fault : Profile → Prover → List ℕ → Fault
draw_fault profile prover s = or_else (fills_fault prover s) (demand (passes_fit profile (pass_count s)) 1)

-- one fill: 1 unless the record is whole and alone, 3 for the metal, then 5 and 2
abbrev pub alone_fault : Metal → List ℕ → Fault
alone_fault metal s = or_else (demand (eqb (length s) 32) 1) (or_else (demand (metal_ok metal) 3) (record_fault s 0))

unfoldable pub fill_of : Metal → List ℕ → Told FillFigures
fill_of metal s = judged (alone_fault metal s) (figures_of metal (fill_at s 0))

-- the volumes of a draw, of passes or of round trips: their count
unfoldable pub count_of : Profile → Prover → List ℕ → Told ℕ
count_of profile prover s = judged (draw_fault profile prover s) (volume_count profile s)

-- and the volumes, in an array of 20; none beside a refusal
unfoldable pub held_for : Profile → Prover → List ℕ → List ℕ
held_for profile prover s = zeros_after 20 (left_by (count_of profile prover s) (λ count. volumes_of profile prover s) [])

-- the draw: 'Three consecutive passes qualify by the same test with limit 2', and so do three consecutive round trips
unfoldable pub draw_of : Profile → Prover → List ℕ → Told BaseVolume
draw_of profile prover s = unless (draw_fault profile prover s) (base_of profile 2 3 (volumes_of profile prover s))
