-- A unidirectional prover's list of volumes is 01's, and what is judged is judged in 01's order; the answers follow.
use mathlib.Core.Path.{◌≡◌, refl}
use mathlib.Core.Bool.{◌&&◌}
use mathlib.Core.List.{List, []}
use Prim.Native.Nat.{ℕ}
use lib.ListN.{length}
use Rattle.refusals.specs.Told.{Fault, fine, fault, demand, or_else, unless, judged, left_by}
use Rattle.ranges.specs.Table.{fills_ok, passes_ok}
use Rattle.octets.specs.FirstToLast.{scan}
use Rattle.octets.specs.Records.{records_in, are_records, zeros_after}
use Rattle.factors.specs.Metal.{metal_ok}
use Rattle.factors.specs.Prover.{pipe_ok}
use Rattle.factors.specs.declared.Prover.{Prover}
use Rattle.draw.specs.Passes.{pass_count}
use Rattle.draw.specs.Profile.{passes_fit, volume_count, volume_of, volumes_of, first_pass}
use Rattle.draw.specs.Base.{base_from, base_of}
use Rattle.draw.specs.Answers.{fill_fault, fills_fault, draw_fault, count_of, held_for, draw_of}
use Rattle.draw.specs.declared.Profile.TheVariants.{Unidirectional}
use Rattle.promises.specs.OneWay.{volumes_of01, draw_fault01, passes_of01, held_for01, base_from01, base_of01, draw_of01, OneWay}

-- three judgements and then a fourth are four in a row
in_a_row : (a b c d : Fault) → or_else (or_else a (or_else b c)) d ≡ or_else a (or_else b (or_else c d))
in_a_row (fault number at) b c d = refl
in_a_row fine (fault number at) c d = refl
in_a_row fine fine c d = refl

module _ (prover : Prover) (s : List ℕ) where
  same_volumes : volumes_of Unidirectional prover s ≡ volumes_of01 prover s
  unfolding volumes_of volume_of volume_count volumes_of01
  same_volumes = refl

  same_fault : draw_fault Unidirectional prover s ≡ draw_fault01 prover s
  unfolding draw_fault fills_fault passes_fit draw_fault01
  same_fault =
      in_a_row (demand (are_records fills_ok 32 (length s)) 1) (demand (metal_ok prover.metal && pipe_ok prover.pipe) 3) (scan (fill_fault s) (records_in 32 s) 0)
      (demand (passes_ok (pass_count s)) 1)

  same_count : count_of Unidirectional prover s ≡ passes_of01 prover s
  unfolding count_of volume_count passes_of01
  same_count = λ i. judged (same_fault i) (pass_count s)

  same_held : held_for Unidirectional prover s ≡ held_for01 prover s
  unfolding held_for held_for01
  same_held = λ i. zeros_after 20 (left_by (same_count i) (λ count. same_volumes i) [])

  same_draw : draw_of Unidirectional prover s ≡ draw_of01 prover s
  unfolding draw_of base_of base_from first_pass draw_of01 base_of01 base_from01
  same_draw = λ i. unless (same_fault i) (base_of01 (same_volumes i))

pub one_way : OneWay
one_way =
    record {
      volumes_as_in_01 = same_volumes;
      judged_as_in_01 = same_fault;
      passes_as_in_01 = same_count;
      held_as_in_01 = same_held;
      drawn_as_in_01 = same_draw;
    }
