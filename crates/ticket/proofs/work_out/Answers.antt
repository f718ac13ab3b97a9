-- `ticket::work_out` meets its contract: the paper's two demands, in the paper's order.
use Rattle.std.proofs.Common.{rules, Err, ◌≡◌, sym, ap, ◌∙◌, Bool}
use Rattle.refusals.specs.Told.{done, demand}
use Rattle.refusals.specs.Answered.{told}
use Rattle.refusals.proofs.Laws.{judged_fine, judged_fault, or_else_first, or_else_next}
use Rattle.ticket.specs.Answers.{ticket_of}
use Rattle.ticket.proofs.work_out.Goals as goal

pub returns-in_err-demand : goal.returns-in_err-demand
unfolding ticket_of
returns-in_err-demand c =
    let passed_on : c.from_residual.result ≡ Err c.in_err-demand.field-0.0 = search rules in
    let fields = c.in_err-demand.ensures ∙ ap (λ (ok : Bool). demand ok 10) c.is_ticket.ensures in
    ap told passed_on ∙ sym (judged_fault _ (or_else_first _ (sym fields)))

pub returns-in_err-demand-2 : goal.returns-in_err-demand-2
unfolding ticket_of
returns-in_err-demand-2 c =
    let passed_on : c.from_residual-in_err-demand-2.result ≡ Err c.in_err-demand-2.field-0.0 = search rules in
    let fields = c.in_ok-demand.ensures ∙ ap (λ (ok : Bool). demand ok 10) c.is_ticket.ensures in
    ap told passed_on ∙ sym (judged_fault _ (or_else_next _ (sym fields) ∙ sym c.in_err-demand-2.ensures))

pub returns : goal.returns
unfolding ticket_of
returns c =
    let fields = c.in_ok-demand.ensures ∙ ap (λ (ok : Bool). demand ok 10) c.is_ticket.ensures in
    ap done c.correct.ensures ∙ sym (judged_fine _ (or_else_next _ (sym fields) ∙ sym c.in_ok-demand-2.ensures))
