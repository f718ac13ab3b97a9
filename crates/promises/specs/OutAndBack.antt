-- 02, 'Bidirectional provers', by figures: Example 2 of 003 whole, six passes of three fills, and round trips at the edge of each rule.
use Rattle.std.specs.Prelude.{◌≡◌, List, [], ◌∷◌, ◌++◌, ℕ, ◌+◌}
use Rattle.refusals.specs.Told.{done, refused}
use Rattle.draw.specs.Profile.{volumes_of}
use Rattle.draw.specs.Answers.{draw_of}
use Rattle.draw.specs.declared.Profile.TheVariants.{Unidirectional, Bidirectional}
use Rattle.promises.specs.Figures.{fill_bytes, drawn}

-- a fill of Example 2: measures of 316 stainless, 40 psi; a scale reading below zero stands as its word
unfoldable pub source_fill : ℕ → ℕ → ℕ → ℕ → ℕ → ℕ → List ℕ
source_fill certified scale prover measure ctdw pass = fill_bytes certified scale prover measure 265 ctdw pass 40

-- its passes: out, back, out, back, out
unfoldable pub source_odd : List ℕ
source_odd =
    source_fill 484587 200 558 556 1000014 1
    ++ source_fill 1154780 60736 558 556 1000014 1
    ++ source_fill 484587 64486 558 556 1000014 1
    ++ source_fill 484587 200 561 558 1000022 2
    ++ source_fill 1154780 64436 561 559 1000015 2
    ++ source_fill 484587 63536 561 556 1000036 2
    ++ source_fill 484587 200 562 562 1000000 3
    ++ source_fill 1154780 60936 562 562 1000000 3
    ++ source_fill 484587 64536 562 556 1000043 3
    ++ source_fill 484587 100 562 562 1000000 4
    ++ source_fill 1154780 63636 562 562 1000000 4
    ++ source_fill 484587 64586 562 556 1000043 4
    ++ source_fill 484587 350 564 562 1000015 5
    ++ source_fill 1154780 60536 564 565 999993 5
    ++ source_fill 484587 64786 564 556 1000058 5

-- and back
unfoldable pub source : List ℕ
source =
    source_odd
    ++ source_fill 484587 64736 565 563 1000015 6
    ++ source_fill 1154780 63636 565 566 999993 6
    ++ source_fill 484587 65386 565 556 1000066 6

-- a pass of one fill whose volume is the certified one at 0 psi: all at 60 °F, CTDW 1
unfoldable pub plain_pass : ℕ → ℕ → ℕ → List ℕ
plain_pass pass certified pressure = fill_bytes certified 0 600 600 265 1000000 pass pressure

-- three round trips of 20000.00, 20000.00 and 20004.00 in³, from a pass on; the last back pass as given
unfoldable pub three_from : ℕ → ℕ → List ℕ
three_from pass last =
    plain_pass pass 1000000 0
    ++ plain_pass (pass + 1) 1000000 0
    ++ plain_pass (pass + 2) 1000200 0
    ++ plain_pass (pass + 3) 999800 0
    ++ plain_pass (pass + 4) 999000 0
    ++ plain_pass (pass + 5) last 0

-- a round trip before them that agrees with none
unfoldable pub stray_trip : List ℕ
stray_trip = plain_pass 1 1000000 0 ++ plain_pass 2 1001000 0

pub record OutAndBack : Type 0 where
  -- printed 42386.9486, 42390.7618 and 42389.8668 in³, where fills have 4 places; base 42389.1924 in³, 4.36912 barrels
  pub source_trips : volumes_of Bidirectional drawn source ≡ 4238695 ∷ 4239076 ∷ 4238985 ∷ []
  pub source_base : draw_of Bidirectional drawn source ≡ done (record { base = 4238919; barrels = 43691; first = 1 })
  -- the same fills of a unidirectional prover: no three passes agree
  pub source_one_way : draw_of Unidirectional drawn source ≡ refused 9 0
  -- an odd count is no round trip and a half, though its even part might do; nor are four passes enough
  pub odd_count : draw_of Bidirectional drawn source_odd ≡ refused 1 0
  pub odd_behind_three : draw_of Bidirectional drawn (three_from 1 1001400 ++ plain_pass 7 1000000 0) ≡ refused 1 0
  pub four_passes : draw_of Bidirectional drawn (stray_trip ++ plain_pass 3 1000000 0 ++ plain_pass 4 1001000 0) ≡ refused 1 0
  -- the limit is 2 of the smallest round trip: 400 of 2,000,000, and not 401
  pub at_the_limit : draw_of Bidirectional drawn (three_from 1 1001400) ≡ done (record { base = 2000133; barrels = 20616; first = 1 })
  pub past_the_limit : draw_of Bidirectional drawn (three_from 1 1001401) ≡ refused 9 0
  -- the first three that meet it begin with an odd pass
  pub from_pass_3 : draw_of Bidirectional drawn (stray_trip ++ three_from 3 1001400) ≡ done (record { base = 2000133; barrels = 20616; first = 3 })
  -- the pair of a round trip may differ in pressure: the pass back is 10000.00 in³ / (1.000049 × 1.000160) at 50 psi, rounded
  pub two_pressures : volumes_of Bidirectional drawn (plain_pass 1 1000000 0 ++ plain_pass 2 1000000 50) ≡ 1999791 ∷ []
  -- a record's fault comes before the count of passes
  pub record_first : draw_of Bidirectional drawn (three_from 1 1001400 ++ plain_pass 8 1000000 0) ≡ refused 6 7
