-- `run::show` meets its contract: 1, then 3, 4, 5, then 2, and then the figures.
use Rattle.std.proofs.Common.{◌≡◌, ◌+◌, sym, ◌∙◌, arith}
use Rattle.std.proofs.lemmas.Grind.{common_steps}
use Rattle.octets.specs.Octets.{zero_between}
use Rattle.refusals.specs.Answered.{fault_of}
use Rattle.refusals.specs.Told.{demand_at}
use Rattle.run.proofs.Laws.{given_fits}
use Rattle.run.proofs.Places.{first_unnamed}
use Rattle.run.specs.Answers.{shown_of}
use Rattle.run.specs.Record.{unnamed_ok}
use Rattle.run.proofs.show.Goals as goal

pub returns-in_err-demand : goal.returns-in_err-demand
unfolding shown_of
returns-in_err-demand c = grind (arith, common_steps)

pub returns-in_err-judge : goal.returns-in_err-judge
unfolding shown_of
returns-in_err-judge c = grind (arith, common_steps)

pub returns-in_err-demand-2 : goal.returns-in_err-demand-2
unfolding shown_of
returns-in_err-demand-2 c = let a = c.args in
    let zeros = c.are_zero.ensures ∙ (λ i. zero_between a.bytes.now (c.shift.ensures i + 24) (c.size-size.ensures i)) ∙ first_unnamed a.form a.bytes.now in
    let two : fault_of c.demand-2.result ≡ demand_at (unnamed_ok a.form a.bytes.now 0) 2 1 = c.demand-2.ensures ∙ (λ i. demand_at (zeros i) 2 1) in
    grind (arith, common_steps, two)

pub judge_figures-requires : goal.judge_figures-requires
judge_figures-requires c = given_fits _ _ _ _ (sym c.in_ok-judge.ensures)

pub returns : goal.returns
unfolding shown_of
returns c = grind (arith, common_steps, first_unnamed)
