-- 01, 'Water draw': 'Three consecutive passes qualify by the same test with limit 2. The first three decide; the base volume is their mean,
-- rounded. The answer is that, the same in barrels (÷ 9702, 4 places) and the first pass used.' 02: 'Three consecutive round trips must meet the
-- water draw test; the base volume is the rounded mean of the first three that do, and the first pass used is the out pass of the first of them.'
use Rattle.std.specs.Prelude.{List, ℕ, ◌+◌}
use Rattle.refusals.specs.Told.{Told}
use Rattle.exact.specs.Rounding.{rounded, ◌over◌}
use Rattle.group.specs.Mean.{mean_of}
use Rattle.group.specs.Repeatability.{group_at, first_group, nine_unless}
use Rattle.draw.specs.Profile.{first_pass}
use Rattle.draw.specs.declared.BaseVolume.{BaseVolume}
use Rattle.draw.specs.declared.Profile.{Profile}

-- a volume in barrels, at 4 places: 9702.00 cubic inches, in 0.01, are one
unfoldable pub barrels_of : ℕ → ℕ
barrels_of base = rounded 4 (base over 970200)

-- the answer from the volumes that decide, of which the first is at a place from 0; passes and round trips count from 1
unfoldable pub base_from : Profile → List ℕ → ℕ → BaseVolume
base_from profile three at = record { base = mean_of three; barrels = barrels_of (mean_of three); first = first_pass profile (at + 1) }

-- 'The first three decide': the first n consecutive volumes that qualify, by the limit
unfoldable pub base_of : Profile → ℕ → ℕ → List ℕ → Told BaseVolume
base_of profile limit n volumes = nine_unless (first_group limit n volumes) (λ at. base_from profile (group_at n volumes at) at)
