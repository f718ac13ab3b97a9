-- `draw::fill` meets its contract: 1 for a record that is not whole and alone, 3 for the metal, then 5 and 2.
use mathlib.Core.Path.{sym, ap, ◌∙◌}
use Rattle.refusals.specs.Told.{done}
use Rattle.refusals.proofs.Laws.{or_else_first, judged_fault, demand_was}
use Rattle.draw.specs.Fill.{fill_ok}
use Rattle.draw.specs.Drawn.{figures_of}
use Rattle.draw.specs.Answers.{fill_of}
use Rattle.draw.proofs.Judged.{refusal_back}
use Rattle.draw.proofs.Sound.{record_fields}
use Rattle.draw.proofs.fill.Goals as goal

pub returns-in_err-demand : goal.returns-in_err-demand
unfolding fill_of
returns-in_err-demand c = refusal_back _ _ c.from_residual.ensures.1 (judged_fault _ (or_else_first _ (sym c.in_err-demand.ensures)))

pub returns-in_err-demand-2 : goal.returns-in_err-demand-2
unfolding fill_of
returns-in_err-demand-2 c = rw (← c.in_ok-demand.ensures, ← c.is_metal.ensures) (refusal_back _ _ c.from_residual-in_err-demand-2.ensures.1 (judged_fault _ (or_else_first _ (sym c.in_err-demand-2.ensures))))

pub returns-in_err-judge_record : goal.returns-in_err-judge_record
unfolding fill_of
returns-in_err-judge_record c = rw (← c.in_ok-demand.ensures, ← c.is_metal.ensures, ← c.in_ok-demand-2.ensures) (refusal_back _ _ c.from_residual-in_err-judge_record.ensures.1 (judged_fault _ (sym c.in_err-judge_record.ensures)))

pub work_out-requires : goal.work_out-requires
work_out-requires c =
    (sym c.is_metal.ensures ∙ demand_was _ 3 (sym c.in_ok-demand-2.ensures), ap fill_ok c.decode.ensures ∙ record_fields c.args.bytes.now 0 (sym c.in_ok-judge_record.ensures))

pub returns : goal.returns
unfolding fill_of
returns c = rw (← c.in_ok-demand.ensures, ← c.is_metal.ensures, ← c.in_ok-demand-2.ensures, ← c.in_ok-judge_record.ensures) (ap done (c.work_out.ensures ∙ ap (figures_of c.args.metal) c.decode.ensures))
