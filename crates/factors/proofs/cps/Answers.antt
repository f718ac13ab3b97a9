-- `factors::cps` meets its contract: within the ranges the pipe's stiffness E × WT is far above P × ID.
use Rattle.std.proofs.lemmas.Result.{err_from_is_err_and}
use mathlib.Core.Path.{ap, sym, ◌∙◌}
use native.Mathlib.Omega.{arith}
use Rattle.refusals.specs.Told.{done}
use Rattle.refusals.proofs.Laws.{judged_fine, judged_fault, demand_holds, or_else_next, or_else_first}
use Rattle.factors.specs.Fractions.{cps}
use Rattle.factors.specs.Rounded.{cps_at}
use Rattle.factors.specs.Answers.{cps_of}
use Rattle.factors.proofs.Demands.{met, missed}
use Rattle.factors.proofs.Steel.{Loads, loads}
use Rattle.factors.proofs.cps.Goals.{In_ok-demand-2}
use Rattle.factors.proofs.cps.Goals as goal

at-round : (c : In_ok-demand-2) → Loads c.args.pipe c.args.p
at-round c = loads (met 3 c.is_pipe.ensures c.in_ok-demand.ensures) (met 5 c.is_pressure.ensures c.in_ok-demand-2.ensures)

pub returns-in_err-demand : goal.returns-in_err-demand
unfolding cps_of
returns-in_err-demand c =
    let p = err_from_is_err_and c.from_residual.result c.from_residual.ensures.1 in
    rw (p.1, p.2) (sym (judged_fault _ (or_else_first _ (missed 3 c.is_pipe.ensures c.in_err-demand.ensures))))

pub returns-in_err-demand-2 : goal.returns-in_err-demand-2
unfolding cps_of
returns-in_err-demand-2 c =
    let p = err_from_is_err_and c.from_residual-in_err-demand-2.result c.from_residual-in_err-demand-2.ensures.1 in
    rw (p.1, p.2) (sym (judged_fault _ (or_else_next _ (demand_holds 3 (met 3 c.is_pipe.ensures c.in_ok-demand.ensures)) ∙ missed 5 c.is_pressure.ensures c.in_err-demand-2.ensures)))

pub overflow_add-loaded : goal.overflow_add-loaded
overflow_add-loaded c = omega (arith, at-round (goal.at.overflow_add-loaded c).In_ok-demand-2)

pub round-requires : goal.round-requires
round-requires c = omega (arith, at-round (goal.at.round-requires c).In_ok-demand-2)

pub returns : goal.returns
unfolding cps_of cps_at cps
returns c =
    ap done c.round.ensures
    ∙ sym (judged_fine _ (or_else_next _ (demand_holds 3 (met 3 c.is_pipe.ensures c.in_ok-demand.ensures)) ∙ demand_holds 5 (met 5 c.is_pressure.ensures c.in_ok-demand-2.ensures)))
