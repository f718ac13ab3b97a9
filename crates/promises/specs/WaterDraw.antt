-- Demand 2, for a water draw: 'A job is accepted exactly when its input .. within limits and .. three passes of water, meet the
-- repeatability limit. The first such group is the one used.' The words of that sentence, one record each, once for both profiles: 02, 'Three
-- consecutive round trips must meet the water draw test', is the same text with the round trips' list of volumes.
use Rattle.std.specs.Prelude.{◌≡◌, true, List, ℕ, ◌+◌, ◌≤◌, ◌<◌}
use Rattle.ranges.specs.Table.{fills_ok}
use Rattle.factors.specs.Metal.{metal_ok}
use Rattle.factors.specs.Prover.{pipe_ok}
use Rattle.factors.specs.declared.Prover.{Prover}
use Rattle.group.specs.Mean.{mean_of}
use Rattle.group.specs.Repeatability.{qualifies}
use Rattle.group.specs.Listed.{listed}
use Rattle.octets.specs.Records.{records_in}
use Rattle.draw.specs.Fill.{fill_at, fill_ok, unnamed_ok, rule_ok}
use Rattle.draw.specs.Passes.{pass_count}
use Rattle.draw.specs.Profile.{passes_fit, volume_count, volume_of, first_pass}
use Rattle.draw.specs.Base.{barrels_of}
use Rattle.draw.specs.declared.BaseVolume.{BaseVolume}
use Rattle.draw.specs.declared.Profile.{Profile}
use Rattle.promises.specs.Records.{Lent, Every}

-- the volume at a place from 0, of a pass or of a round trip; these count from 1
unfoldable pub volume_at : Profile → Prover → List ℕ → ℕ → ℕ
volume_at profile prover s i = volume_of profile prover s (i + 1)

-- 1 and 3 don't apply: 3 to 60 whole records are lent, and the metal and the pipe are in range; a draw has no use for the base volume
pub record SettingsInOrder (prover : Prover) (s : List ℕ) : Type 0 where
  pub lent : Lent fills_ok 32 s
  pub metal : metal_ok prover.metal ≡ true
  pub pipe : pipe_ok prover.pipe ≡ true

-- nor do 5, 2 and 6 for the record at place i: its fields, its unnamed bytes and the pass rule
pub record FillInOrder (s : List ℕ) (i : ℕ) : Type 0 where
  pub fields : fill_ok (fill_at s i) ≡ true
  pub unnamed : unnamed_ok s i ≡ true
  pub rule : rule_ok s i ≡ true

-- the settings and every record
pub record FillsInOrder (prover : Prover) (s : List ℕ) : Type 0 where
  pub settled : SettingsInOrder prover s
  pub records : Every (records_in 32 s) (FillInOrder s)

-- 'its input .. within limits': these, and 3 to 20 passes, or an even count from 6 to 20. (A pass has no range of its own.)
pub record InputWithin (profile : Profile) (prover : Prover) (s : List ℕ) : Type 0 where
  pub fills : FillsInOrder prover s
  pub passes : passes_fit profile (pass_count s) ≡ true

-- 'three passes of water, meet the repeatability limit', which is 2: there are three from place `at` on, and their volumes qualify
pub record ThreeMeet (profile : Profile) (prover : Prover) (s : List ℕ) (at : ℕ) : Type 0 where
  pub room : at + 3 ≤ volume_count profile s
  pub meet : qualifies 2 (listed (volume_at profile prover s) 3 at) ≡ true

pub record Acceptable (profile : Profile) (prover : Prover) (s : List ℕ) : Type 0 where
  pub input : InputWithin profile prover s
  pub place : ℕ
  pub three : ThreeMeet profile prover s place

-- 'The first such group is the one used': it meets the limit, none before it does, and the base volume is of it. The first pass used is the
-- one at that place; of round trips 'the out pass of the first of them'
pub record Used (profile : Profile) (prover : Prover) (s : List ℕ) (b : BaseVolume) : Type 0 where
  pub place : ℕ
  pub three : ThreeMeet profile prover s place
  pub none_before : (j : ℕ) → j < place → ThreeMeet profile prover s j → ⊥
  pub base : b.base ≡ mean_of (listed (volume_at profile prover s) 3 place)
  pub barrels : b.barrels ≡ barrels_of (mean_of (listed (volume_at profile prover s) 3 place))
  pub first : b.first ≡ first_pass profile (place + 1)
