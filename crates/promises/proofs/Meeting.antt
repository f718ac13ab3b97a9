-- The first five runs and the first three volumes of a draw that meet the limit: what was found, of the factors and volumes by their places.
use Rattle.std.specs.Prelude.{None, Some}
use mathlib.Core.Path.{◌≡◌, refl, ap, ◌∙◌}
use mathlib.Core.List.{List, [], ◌∷◌}
use Prim.Native.Nat.{ℕ, ◌+◌, ◌≤◌, ◌<◌}
use native.Mathlib.Omega.{arith}
use lib.ListN.{length, get_or}
use Rattle.factors.specs.declared.Prover.{Prover}
use Rattle.run.specs.declared.Form.{Form}
use Rattle.group.specs.Repeatability.{first_group}
use Rattle.group.specs.Listed.{listed}
use Rattle.group.proofs.Listed.{listed_value, listed_length}
use Rattle.group.proofs.Groups.{first_found}
use Rattle.report.specs.Record.{list_of}
use Rattle.proving.specs.Judging.{runs_in}
use Rattle.proving.specs.Job.{factor_at, factors_of, first_five, five_at}
use Rattle.draw.specs.Profile.{volume_count, volume_of, volumes_of}
use Rattle.draw.specs.declared.Profile.{Profile}
use Rattle.promises.specs.Proving.{FiveMeet}
use Rattle.promises.specs.WaterDraw.{volume_at, ThreeMeet}
use Rattle.promises.proofs.Groups.{Least, first_least, some_found}

module _ (prover : Prover) (k : ℕ) (form : Form) (s : List ℕ) where
  pub factor_values : (i : ℕ) → i < length (factors_of prover k form s) → get_or (factors_of prover k form s) i 0 ≡ factor_at prover k form s i
  unfolding factors_of
  factor_values i h = listed_value (factor_at prover k form s) (runs_in form s) 0 i (omega (arith, listed_length (factor_at prover k form s) (runs_in form s) 0)) ∙ ap (factor_at prover k form s) (omega arith)

  factor_count : length (factors_of prover k form s) ≡ runs_in form s
  unfolding factors_of
  factor_count = listed_length (factor_at prover k form s) (runs_in form s) 0

  -- the report's five are the factors of the five runs
  pub five_listed : (at : ℕ) → at + 5 ≤ runs_in form s → list_of (five_at (factors_of prover k form s) at) ≡ listed (factor_at prover k form s) 5 at
  unfolding list_of five_at listed
  five_listed at room =
      λ i. each at at (omega arith) refl i ∷ each (at + 1) (at + 1) (omega arith) refl i ∷ each (at + 2) (at + 1 + 1) (omega arith) (omega arith) i ∷ each (at + 3) (at + 1 + 1 + 1) (omega arith)
      (omega arith) i ∷ each (at + 4) (at + 1 + 1 + 1 + 1) (omega arith) (omega arith) i ∷ []
    where
      each : (j m : ℕ) → j < runs_in form s → j ≡ m → get_or (factors_of prover k form s) j 0 ≡ factor_at prover k form s m
      each j m h same = factor_values j (omega (arith, factor_count)) ∙ ap (factor_at prover k form s) same

  module _ (limit : ℕ) where
    -- where no group is found, no five meet the limit
    pub no_five : first_five prover k limit form s ≡ None → (at : ℕ) → FiveMeet prover k limit form s at → ⊥
    unfolding first_five
    no_five is at five = some_found (factor_at prover k form s) (factors_of prover k form s) factor_values 5 limit at (omega (arith, five.room, factor_count)) five.meet is

    -- where one is, it is the first five that do
    pub least_five : (at : ℕ) → first_five prover k limit form s ≡ Some at → Least (factor_at prover k form s) (factors_of prover k form s) factor_values 5 limit at
    unfolding first_five
    least_five at is = first_least (factor_at prover k form s) (factors_of prover k form s) factor_values 5 limit (first_found limit 5 (factors_of prover k form s) is)

    pub first_five_meet : (at : ℕ) → first_five prover k limit form s ≡ Some at → FiveMeet prover k limit form s at
    first_five_meet at is = let least = least_five at is in record { room = omega (arith, least.room, factor_count); meet = least.meet }

module _ (profile : Profile) (prover : Prover) (s : List ℕ) where
  pub volume-count : length (volumes_of profile prover s) ≡ volume_count profile s
  unfolding volumes_of
  volume-count = listed_length (volume_of profile prover s) (volume_count profile s) 1

  pub volume_values : (i : ℕ) → i < length (volumes_of profile prover s) → get_or (volumes_of profile prover s) i 0 ≡ volume_at profile prover s i
  unfolding volumes_of volume_at
  volume_values i h = listed_value (volume_of profile prover s) (volume_count profile s) 1 i (omega (arith, listed_length (volume_of profile prover s) (volume_count profile s) 1)) ∙ ap (volume_of profile prover s) (omega arith)

  -- where no group is found, no three meet the limit
  pub no_three : first_group 2 3 (volumes_of profile prover s) ≡ None → (at : ℕ) → ThreeMeet profile prover s at → ⊥
  no_three is at three = some_found (volume_at profile prover s) (volumes_of profile prover s) volume_values 3 2 at (omega (arith, three.room, volume-count)) three.meet is

  -- where one is, it is the first three that do
  pub least_three : (at : ℕ) → first_group 2 3 (volumes_of profile prover s) ≡ Some at → Least (volume_at profile prover s) (volumes_of profile prover s) volume_values 3 2 at
  least_three at is = first_least (volume_at profile prover s) (volumes_of profile prover s) volume_values 3 2 (first_found 2 3 (volumes_of profile prover s) is)

  pub first_three_meet : (at : ℕ) → first_group 2 3 (volumes_of profile prover s) ≡ Some at → ThreeMeet profile prover s at
  first_three_meet at is = let least = least_three at is in record { room = omega (arith, least.room, volume-count); meet = least.meet }
