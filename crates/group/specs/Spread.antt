-- The spread of a group as people work it out: (largest - smallest) as a percentage of the smallest, in 0.001 %, which is a fraction at
-- 5 places.
use Rattle.std.specs.Prelude.{Bool, ◌&&◌, List, ℕ, ◌-◌, ◌^◌, leb, ltb}
use Rattle.refusals.specs.Told.{Told, demand, judged}
use Rattle.exact.specs.Rounding.{rounded, ◌over◌}
use Rattle.group.specs.Repeatability.{smallest, largest}
use Rattle.group.specs.declared.Extent.{Extent}

unfoldable pub spread_in : List ℕ → ℕ
spread_in xs = rounded 5 (largest xs - smallest xs over smallest xs)

-- there is one to tell: of a smallest value above 0, and within 64 bits
unfoldable pub has_spread : List ℕ → Bool
has_spread xs = leb 1 (smallest xs) && ltb (spread_in xs) (2 ^ 64)

-- the smallest, the largest and the spread, or 9
unfoldable pub spread_of : List ℕ → Told Extent
spread_of xs = judged (demand (has_spread xs) 9) (record { smallest = smallest xs; largest = largest xs; spread = spread_in xs })
