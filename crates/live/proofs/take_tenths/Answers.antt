-- `live::take_tenths` meets its contract: what 16 bits hold is judged by the range, and no range reaches further.
use Rattle.std.proofs.Common.{rules, w16, to_z, of_z, Err, ◌≡◌, sym, ap, ◌∙◌, Bool}
use Rattle.std.specs.Float.Ieee.Scale.{finite}
use Rattle.ranges.specs.Table.{temperature_ok}
use Rattle.refusals.specs.Told.{done, demand, judged}
use Rattle.refusals.specs.Answered.{told}
use Rattle.refusals.proofs.Laws.{judged_fine, judged_fault}
use Rattle.live.specs.Live.{whole_of, single_of}
use Rattle.live.specs.Word.{held}
use Rattle.live.proofs.Words.{temperature_held}
use Rattle.live.proofs.Taken.{refused_by_range, judged_by_range}
use Rattle.live.proofs.take_tenths.Goals.{In_ok-tenths}
use Rattle.live.proofs.take_tenths.Goals as goal

-- what was held is judged by the range alone
held-judged : (c : In_ok-tenths) → single_of temperature_ok c.args.offset c.args.times c.args.x ≡ judged (demand (temperature_ok c.in_ok-tenths.tenths) 13) c.in_ok-tenths.tenths
unfolding single_of
held-judged c =
    let z = whole_of c.args.offset c.args.times c.args.x in
    judged_by_range (finite c.args.x) (held z) temperature_ok z (sym c.in_ok-tenths.ensures)

-- what the machine reads back of a signed number is that number
back : (c : In_ok-tenths) → to_z w16 (of_z w16 c.in_ok-tenths.tenths) ≡ c.in_ok-tenths.tenths
back c = search rules

pub returns-in_err-tenths : goal.returns-in_err-tenths
unfolding single_of
returns-in_err-tenths c =
    let passed_on : c.from_residual.result ≡ Err c.in_err-tenths.field-0.0 = search rules in
    let z = whole_of c.args.offset c.args.times c.args.x in
    ap told passed_on ∙ sym (refused_by_range (finite c.args.x) (held z) (temperature_ok z) z (temperature_held z) (sym c.in_err-tenths.ensures))

pub returns-in_err-demand : goal.returns-in_err-demand
returns-in_err-demand c =
    let passed_on : c.from_residual-in_err-demand.result ≡ Err c.in_err-demand.field-0.0 = search rules in
    let range = c.in_err-demand.ensures ∙ ap (λ (ok : Bool). demand ok 13) (c.is_temperature.ensures ∙ ap temperature_ok (back (goal.at.returns-in_err-demand c).In_ok-tenths)) in
    ap told passed_on ∙ sym (held-judged (goal.at.returns-in_err-demand c).In_ok-tenths ∙ judged_fault _ (sym range))

pub returns : goal.returns
returns c =
    let same = back (goal.at.returns c).In_ok-tenths in
    let range = c.in_ok-demand.ensures ∙ ap (λ (ok : Bool). demand ok 13) (c.is_temperature.ensures ∙ ap temperature_ok same) in
    ap done same ∙ sym (held-judged (goal.at.returns c).In_ok-tenths ∙ judged_fine _ (sym range))
