-- `factors::cpl` meets its contract: within the ranges the divisor stays above 84,999,999.
use Rattle.std.proofs.lemmas.Result.{err_from_is_err_and}
use mathlib.Core.Path.{◌≡◌, ap, sym, ◌∙◌}
use mathlib.Core.Bool.{true}
use native.Mathlib.Omega.{arith}
use Rattle.refusals.specs.Told.{done}
use Rattle.refusals.proofs.Laws.{judged_fine, judged_fault, demand_holds}
use Rattle.factors.specs.Fractions.{cpl}
use Rattle.factors.specs.Liquid.{liquid_ok, cpl_from}
use Rattle.factors.specs.Rounded.{cpl_at}
use Rattle.factors.specs.Answers.{cpl_of}
use Rattle.factors.proofs.Demands.{met, missed}
use Rattle.factors.proofs.Squeezed.{not-below, squeezed_little}
use Rattle.factors.proofs.cpl.Goals.{In_ok-demand}
use Rattle.factors.proofs.cpl.Goals as goal

fits : (c : In_ok-demand) → liquid_ok c.args.liquid ≡ true
fits c = met 5 c.is_liquid.ensures c.in_ok-demand.ensures

pub returns-in_err-demand : goal.returns-in_err-demand
unfolding cpl_of
returns-in_err-demand c =
    let p = err_from_is_err_and c.from_residual.result c.from_residual.ensures.1 in
    rw (p.1, p.2) (sym (judged_fault _ (missed 5 c.is_liquid.ensures c.in_err-demand.ensures)))

pub overflow_sub-above : goal.overflow_sub-above
overflow_sub-above c = not-below _ (fits (goal.at.overflow_sub-above c).In_ok-demand)

pub overflow_sub-squeezed : goal.overflow_sub-squeezed
overflow_sub-squeezed c = omega (arith, squeezed_little _ (fits (goal.at.overflow_sub-squeezed c).In_ok-demand))

pub round-requires : goal.round-requires
round-requires c = omega (arith, squeezed_little _ (fits (goal.at.round-requires c).In_ok-demand))

pub returns : goal.returns
unfolding cpl_of cpl_at cpl_from cpl
returns c = ap done c.round.ensures ∙ sym (judged_fine _ (demand_holds 5 (fits (goal.at.returns c).In_ok-demand)))
