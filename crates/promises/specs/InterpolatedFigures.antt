-- 02, 'Longer run records, and the way back', by computing: counts that are not whole in a job and on the way back.
use Rattle.std.specs.Prelude.{◌≡◌, List, ◌++◌, ℕ, replicate}
use Rattle.refusals.specs.Told.{done, refused}
use Rattle.octets.specs.Octets.{bytes_of}
use Rattle.octets.specs.Records.{joined}
use Rattle.run.specs.declared.Form.TheVariants.{Short, Long}
use Rattle.proving.specs.Job.{found_of}
use Rattle.moving.specs.Judging.{move_of}
use Rattle.promises.specs.Figures.{prover}

-- 01's run, '73.5 °F, 40 psi, F 820, CTL 0.9907', 'meter CTL 0.9908, 40 psi, F 820', as a long record with this count in thousandths
unfoldable pub long_record : ℕ → List ℕ
long_record thousandths =
    bytes_of 8 thousandths ++ bytes_of 2 735 ++ bytes_of 2 735 ++ bytes_of 2 40 ++ bytes_of 2 40 ++ bytes_of 2 9907 ++ bytes_of 2 9908 ++ bytes_of 2 820 ++ bytes_of 2 820
    ++ replicate 24 0

-- so many runs of that count
unfoldable pub runs_of : ℕ → ℕ → List ℕ
runs_of count thousandths = joined (λ i. long_record thousandths) count

pub record InterpolatedFigures : Type 0 where
  -- a job takes a count that is not whole: five runs of 200,000.600 pulses, K 10,000.000
  pub job : found_of prover 10000000 5 Long (runs_of 5 200000600) ≡ done 0
  -- the way back does not, and names the first that has it; whole ones go back
  pub not_back : move_of Long (runs_of 2 200000000 ++ runs_of 1 200000600) 96 ≡ refused 36 3
  pub back : move_of Long (runs_of 3 200000000) 96 ≡ done 3
  -- '14, first of all', by the lengths alone: a byte less; and lengths in proportion that are no records are 1
  pub buffer : move_of Long (runs_of 3 200000600) 95 ≡ refused 14 0
  pub no_records : move_of Short (replicate 16 0) 24 ≡ refused 1 0
  pub nothing : move_of Short (replicate 0 0) 0 ≡ refused 1 0
