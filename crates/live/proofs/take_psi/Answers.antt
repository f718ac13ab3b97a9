-- `live::take_psi` meets its contract: what 16 bits hold is judged by the range, and no range reaches further.
use Rattle.std.proofs.Common.{rules, w16, to_z, of_z, Err, ◌≡◌, sym, ap, ◌∙◌, Bool}
use Rattle.std.specs.Float.Ieee.Scale.{finite}
use Rattle.refusals.specs.Told.{done, demand, judged}
use Rattle.refusals.specs.Answered.{told}
use Rattle.refusals.proofs.Laws.{judged_fine, judged_fault}
use Rattle.live.specs.Live.{whole_of, single_of, psi_ok, pressure_of}
use Rattle.live.specs.Word.{held}
use Rattle.live.proofs.Words.{psi_held}
use Rattle.live.proofs.Taken.{refused_by_range, judged_by_range}
use Rattle.live.proofs.take_psi.Goals.{In_ok-psi}
use Rattle.live.proofs.take_psi.Goals as goal

-- what was held is judged by the range alone
held-judged : (c : In_ok-psi) → pressure_of c.args.x ≡ judged (demand (psi_ok c.in_ok-psi.psi) 13) c.in_ok-psi.psi
unfolding pressure_of single_of
held-judged c = let z = whole_of 0 1 c.args.x in judged_by_range (finite c.args.x) (held z) psi_ok z (sym c.in_ok-psi.ensures)

-- what the machine reads back of a signed number is that number
back : (c : In_ok-psi) → to_z w16 (of_z w16 c.in_ok-psi.psi) ≡ c.in_ok-psi.psi
back c = search rules

pub returns-in_err-psi : goal.returns-in_err-psi
unfolding pressure_of single_of
returns-in_err-psi c =
    let passed_on : c.from_residual.result ≡ Err c.in_err-psi.field-0.0 = search rules in
    let z = whole_of 0 1 c.args.x in
    ap told passed_on ∙ sym (refused_by_range (finite c.args.x) (held z) (psi_ok z) z (psi_held z) (sym c.in_err-psi.ensures))

pub returns-in_err-demand : goal.returns-in_err-demand
returns-in_err-demand c =
    let passed_on : c.from_residual-in_err-demand.result ≡ Err c.in_err-demand.field-0.0 = search rules in
    let range = c.in_err-demand.ensures ∙ ap (λ (ok : Bool). demand ok 13) (c.is_psi.ensures ∙ ap psi_ok (back (goal.at.returns-in_err-demand c).In_ok-psi)) in
    ap told passed_on ∙ sym (held-judged (goal.at.returns-in_err-demand c).In_ok-psi ∙ judged_fault _ (sym range))

pub returns : goal.returns
returns c =
    let same = back (goal.at.returns c).In_ok-psi in
    let range = c.in_ok-demand.ensures ∙ ap (λ (ok : Bool). demand ok 13) (c.is_psi.ensures ∙ ap psi_ok same) in
    ap done same ∙ sym (held-judged (goal.at.returns c).In_ok-psi ∙ judged_fine _ (sym range))
