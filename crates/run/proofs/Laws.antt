-- What a run's ranges say, and the magnitudes of its figures.
use Rattle.std.specs.Prelude.{Result, Ok, Err}
use Rattle.std.specs.Result.{result_unwrap_or}
use Rattle.exact.specs.Quotient.{value_or_zero}
use mathlib.Core.Path.{◌≡◌, refl}
use mathlib.Core.Bool.{true, ◌&&◌}
use mathlib.Core.List.{[], ◌∷◌}
use Prim.Native.Nat.{ℕ, ◌≤◌}
use native.Mathlib.Nat.{mul-le-mul}
use native.Mathlib.Omega.{arith}
use Rattle.refusals.specs.Told.{fine, demand}
use Rattle.refusals.proofs.Laws.{demand_was, demand_at_was, or_else_fine_first, or_else_fine_next}
use Rattle.ranges.specs.Table.{temperature_ok, ctl_ok, pulses_ok, k_factor_ok, volume_ok}
use Rattle.ranges.proofs.Laws.{both_first, both_second, within_high}
use Rattle.factors.specs.Metal.{metal_ok}
use Rattle.factors.specs.Prover.{pipe_ok, prover_ok}
use Rattle.factors.specs.Liquid.{liquid_ok}
use Rattle.factors.specs.Rounded.{combined_at}
use Rattle.factors.specs.declared.Prover.{Prover}
use Rattle.factors.proofs.Values.{combined_small}
use Rattle.run.specs.Record.{side_ok, run_ok}
use Rattle.run.specs.Answers.{given_fault}
use Rattle.run.specs.declared.Run.{Run}
use Rattle.run.specs.declared.Side.{Side}

-- a side's ranges, one by one
pub record SideFits (side : Side) : Type 0 where
  pub temperature : temperature_ok side.temperature ≡ true
  pub ctl : ctl_ok side.ctl ≡ true
  pub liquid : liquid_ok side.liquid ≡ true

pub side_fits : (side : Side) → side_ok side ≡ true → SideFits side
unfolding side_ok
side_fits side ok =
    let rest : (ctl_ok side.ctl && liquid_ok side.liquid) ≡ true = both_second (temperature_ok side.temperature) _ ok in
    record { temperature = both_first (temperature_ok side.temperature) _ ok; ctl = both_first (ctl_ok side.ctl) _ rest; liquid = both_second (ctl_ok side.ctl) _ rest }

pub ctl_most : {x : ℕ} → ctl_ok x ≡ true → x ≤ 20000
unfolding ctl_ok
ctl_most {x} ok = omega (arith, within_high 5000 15000 x ok)

-- a run's and a prover's
pub record RunFits (run : Run) : Type 0 where
  pub pulses : run.pulses ≤ 100000000000
  pub prover : SideFits run.prover
  pub meter : SideFits run.meter

pub run_fits : (run : Run) → run_ok run ≡ true → RunFits run
unfolding run_ok pulses_ok
run_fits run ok =
    let sides : (side_ok run.prover && side_ok run.meter) ≡ true = both_second (pulses_ok run.pulses) _ ok in
    record {
      pulses = within_high 1000 100000000000 run.pulses (both_first (pulses_ok run.pulses) _ ok);
      prover = side_fits run.prover (both_first (side_ok run.prover) _ sides);
      meter = side_fits run.meter (both_second (side_ok run.prover) _ sides);
    }

pub record ProverFits (prover : Prover) : Type 0 where
  pub metal : metal_ok prover.metal ≡ true
  pub pipe : pipe_ok prover.pipe ≡ true
  pub base : prover.base ≤ 100000000

pub prover-fits : (prover : Prover) → prover_ok prover ≡ true → ProverFits prover
unfolding prover_ok volume_ok
prover-fits prover ok =
    let rest : (pipe_ok prover.pipe && volume_ok prover.base) ≡ true = both_second (metal_ok prover.metal) _ ok in
    record {
      metal = both_first (metal_ok prover.metal) _ ok;
      pipe = both_first (pipe_ok prover.pipe) _ rest;
      base = within_high 1 100000000 prover.base (both_second (pipe_ok prover.pipe) _ rest);
    }

-- what is given is in order where judging finds no fault, and only there
pub given_fits : (prover : Prover) (k : ℕ) (run : Run) (at : ℕ) → given_fault prover k run at ≡ fine → (prover_ok prover ≡ true) × (k_factor_ok k ≡ true) × (run_ok run ≡ true)
unfolding given_fault
given_fits prover k run at clear =
    let rest = or_else_fine_next (demand (prover_ok prover) 3) _ clear in
    (demand_was _ 3 (or_else_fine_first (demand (prover_ok prover) 3) _ clear), demand_was _ 4 (or_else_fine_first (demand (k_factor_ok k) 4) _ rest), demand_at_was _ 5 at (or_else_fine_next (demand (k_factor_ok k) 4) _ rest))

-- factors of at most 2 combine to at most 16
pub four_small : (a b c d : ℕ) → a ≤ 20000 → b ≤ 20000 → c ≤ 20000 → d ≤ 20000 → combined_at 4 (a ∷ b ∷ c ∷ d ∷ []) ≤ 160000
four_small a b c d ha hb hc hd = combined_small 4 (a ∷ b ∷ c ∷ d ∷ []) 16 (omega arith) (mul-le-mul ha (mul-le-mul hb (mul-le-mul hc (mul-le-mul {m₂ = 1} hd (omega arith)))))

pub two_small : (a b : ℕ) → a ≤ 20000 → b ≤ 20000 → combined_at 4 (a ∷ b ∷ []) ≤ 160000
two_small a b ha hb = omega (arith, combined_small 4 (a ∷ b ∷ []) 4 (omega arith) (mul-le-mul ha (mul-le-mul {m₂ = 1} hb (omega arith))))

-- the value, and 0 where there is none
pub unwrapped : {E : Type 0} (found : Result ℕ E) → result_unwrap_or found 0 ≡ value_or_zero found
unwrapped (Ok x) = refl
unwrapped (Err why) = refl
