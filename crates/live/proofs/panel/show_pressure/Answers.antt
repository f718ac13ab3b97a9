-- `live::panel::show_pressure` meets its contract: the psi are judged, and go out as they are.
use Rattle.std.proofs.Common.{rules, Err, ◌≡◌, sym, ap, ◌∙◌, Bool}
use Rattle.refusals.specs.Told.{demand}
use Rattle.refusals.specs.Answered.{told}
use Rattle.refusals.proofs.Laws.{judged_fine, judged_fault}
use Rattle.live.specs.Panel.{cast, panel_pressure_of}
use Rattle.live.proofs.panel.show_pressure.Goals as goal

pub returns-in_err-demand : goal.returns-in_err-demand
unfolding panel_pressure_of
returns-in_err-demand c =
    let passed_on : c.from_residual.result ≡ Err c.in_err-demand.field-0.0 = search rules in
    let range = c.in_err-demand.ensures ∙ ap (λ (ok : Bool). demand ok 13) c.is_pressure.ensures in
    ap told passed_on ∙ sym (judged_fault _ (sym range))

pub returns : goal.returns
unfolding panel_pressure_of cast
returns c = let range = c.in_ok-demand.ensures ∙ ap (λ (ok : Bool). demand ok 13) c.is_pressure.ensures in sym (judged_fine _ (sym range))
