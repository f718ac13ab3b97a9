-- 02, 'Bidirectional provers': what a draw repeats under each profile. A unidirectional prover repeats its passes. Of a bidirectional one 'passes
-- come in pairs, odd out and even back, and a round trip is the sum of the two corrected passes': it repeats its round trips. Passes and round
-- trips count from 1.
use Rattle.std.specs.Prelude.{Bool, ◌&&◌, List, ℕ, ◌+◌, ◌-◌, ◌*◌, ◌/◌, ◌%◌, eqb}
use Rattle.ranges.specs.Table.{passes_ok, paired_passes_ok}
use Rattle.group.specs.Listed.{listed}
use Rattle.factors.specs.declared.Prover.{Prover}
use Rattle.draw.specs.Passes.{pass_count, pass_volume}
use Rattle.draw.specs.declared.Profile.{Profile}
use Rattle.draw.specs.declared.Profile.TheVariants.{Unidirectional, Bidirectional}

-- 'more or fewer passes than 3 to 20 is 1'; 'an odd count of passes, or a count outside 6 to 20, is 1'
unfoldable pub passes_fit : Profile → ℕ → Bool
passes_fit Unidirectional passes = passes_ok passes
passes_fit Bidirectional passes = eqb (passes % 2) 0 && paired_passes_ok passes

-- 'odd out and even back': the two passes of a round trip
unfoldable pub out_pass : ℕ → ℕ
out_pass trip = 2 * trip - 1

unfoldable pub back_pass : ℕ → ℕ
back_pass trip = 2 * trip

-- 'a round trip is the sum of the two corrected passes', each of them rounded
unfoldable pub trip_volume : Prover → List ℕ → ℕ → ℕ
trip_volume prover s trip = pass_volume prover s (out_pass trip) + pass_volume prover s (back_pass trip)

-- how many there are to repeat: passes, or pairs of them
unfoldable pub volume_count : Profile → List ℕ → ℕ
volume_count Unidirectional s = pass_count s
volume_count Bidirectional s = pass_count s / 2

-- the volume of each
unfoldable pub volume_of : Profile → Prover → List ℕ → ℕ → ℕ
volume_of Unidirectional = pass_volume
volume_of Bidirectional = trip_volume

-- and the pass that it begins with
unfoldable pub first_pass : Profile → ℕ → ℕ
first_pass Unidirectional pass = pass
first_pass Bidirectional trip = out_pass trip

-- the profile's list of volumes, of which three in a row have to agree
unfoldable pub volumes_of : Profile → Prover → List ℕ → List ℕ
volumes_of profile prover s = listed (volume_of profile prover s) (volume_count profile s) 1
