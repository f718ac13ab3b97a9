-- `draw::volumes` meets its contract.
use mathlib.Core.Path.{sym, ap, ◌∙◌}
use Prim.Native.Nat.{ℕ}
use native.Mathlib.Omega.{arith}
use Rattle.refusals.specs.Told.{done}
use Rattle.refusals.proofs.Laws.{judged_fine}
use Rattle.octets.specs.Records.{zeros_after}
use Rattle.group.specs.Listed.{listed}
use Rattle.draw.specs.Profile.{volume_count, volume_of, volumes_of}
use Rattle.draw.specs.Answers.{count_of}
use Rattle.draw.proofs.Sound.{fills_fine, few_volumes}
use Rattle.draw.proofs.Outcome.{held_by, volumes_refused}
use Rattle.draw.proofs.volumes.Goals as goal

pub returns-in_err-judge_draw : goal.returns-in_err-judge_draw
returns-in_err-judge_draw c = let a = c.args in
    volumes_refused a.profile a.prover a.records.now _ _ c.from_residual.ensures.1 (sym c.in_err-judge_draw.ensures)

pub invariant_of-judged : goal.invariant_of-judged
invariant_of-judged c = let a = c.args in record { nothing = fills_fine a.profile a.prover a.records.now (sym c.in_ok-judge_draw.ensures) }

pub collect-volumes-requires : goal.collect-volumes-requires
collect-volumes-requires c = let a = c.args in
    omega (arith, c.count_volumes-count.ensures, few_volumes a.profile a.prover a.records.now (sym c.in_ok-judge_draw.ensures))

pub returns : goal.returns
unfolding count_of volumes_of
returns c = let a = c.args in
    let s = a.records.now in
    let is = judged_fine (volume_count a.profile s) (sym c.in_ok-judge_draw.ensures) in
    let count = c.count_volumes-count.ensures in
    let volumes = c.collect-volumes.ensures ∙ ap (λ (n : ℕ). zeros_after 20 (listed (volume_of a.profile a.prover s) n 1)) count in
    (ap done count ∙ sym is, volumes ∙ sym (held_by a.profile a.prover s is))
