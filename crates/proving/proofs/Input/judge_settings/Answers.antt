-- `proving::Input::judge_settings` meets its contract: 1, 3, 4 for K and 4 for the limit.
use mathlib.Core.Bool.{Bool, ◌&&◌}
use mathlib.Core.Path.{ap, ◌∙◌}
use Prim.Native.Nat.{ℕ, ◌%◌}
use lib.Dec.{eqb}
use lib.ListN.{length}
use Rattle.octets.specs.Records.{are_records}
use Rattle.ranges.specs.Table.{runs_ok}
use Rattle.refusals.specs.Told.{demand, or_else}
use Rattle.proving.specs.Judging.{settings_fault}
use Rattle.proving.proofs.Input.judge_settings.Goals as goal

pub returns : goal.returns
unfolding settings_fault are_records
returns c = let size = c.size-size in
    let lent = length c.args.self.records.now in
    let one = c.demand.ensures ∙ ap (λ (b : Bool). demand (eqb (lent % size.result) 0 && b) 1) c.are_runs.ensures ∙ ap (λ (n : ℕ). demand (are_records runs_ok n lent) 1) size.ensures in
    let three = c.demand-2.ensures ∙ ap (λ (b : Bool). demand b 3) c.is_prover.ensures in
    let factor = c.demand-3.ensures ∙ ap (λ (b : Bool). demand b 4) c.is_k_factor.ensures in
    let limit = c.demand-4.ensures ∙ ap (λ (b : Bool). demand b 4) c.is_limit.ensures in
    let last = c.or_else.ensures ∙ (λ i. or_else (factor i) (limit i)) in
    let rest = c.or_else-2.ensures ∙ (λ i. or_else (three i) (last i)) in
    c.or_else-3.ensures ∙ (λ i. or_else (one i) (rest i))
