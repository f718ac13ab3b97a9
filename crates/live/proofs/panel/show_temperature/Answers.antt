-- `live::panel::show_temperature` meets its contract: the tenths are judged, and one division is made of them.
use Rattle.std.proofs.Common.{rules, w16, to_z, of_z, Err, ◌≡◌, refl, sym, ap, ◌∙◌, pos, Bool}
use lib.Ieee.{binary32, of_bits, of_int, div}
use Rattle.refusals.specs.Told.{done, demand}
use Rattle.refusals.specs.Answered.{told}
use Rattle.refusals.proofs.Laws.{judged_fine, judged_fault}
use Rattle.ranges.specs.Table.{temperature_ok}
use Rattle.live.specs.Panel.{cast, tenth, panel_temperature_of}
use Rattle.live.proofs.panel.show_temperature.Goals.{After-is_temperature, Start}
use Rattle.live.proofs.panel.show_temperature.Goals as goal

-- what the machine reads back of the tenths is that number
back : (c : Start) → to_z w16 (of_z w16 c.args.tenths) ≡ c.args.tenths
back c = search rules

judged-by : (c : After-is_temperature) → demand c.is_temperature.result 13 ≡ demand (temperature_ok c.args.tenths) 13
judged-by c = ap (λ (ok : Bool). demand ok 13) (c.is_temperature.ensures ∙ ap temperature_ok (back c.before))

-- the bits of 10.0 are 10 as a single
ten : of_bits binary32 0x4120_0000 ≡ cast (pos 10)
unfolding cast of_bits of_int
ten = refl

pub returns-in_err-demand : goal.returns-in_err-demand
unfolding panel_temperature_of
returns-in_err-demand c =
    let passed_on : c.from_residual.result ≡ Err c.in_err-demand.field-0.0 = search rules in
    let range = c.in_err-demand.ensures ∙ judged-by (goal.at.returns-in_err-demand c).After-is_temperature in
    ap told passed_on ∙ sym (judged_fault _ (sym range))

pub returns : goal.returns
unfolding panel_temperature_of tenth cast
returns c =
    let same = back (goal.at.returns c).Start in
    let range = c.in_ok-demand.ensures ∙ judged-by (goal.at.returns c).After-is_temperature in
    (λ i. done (div binary32 (of_int binary32 (same i)) (ten i))) ∙ sym (judged_fine (tenth c.args.tenths) (sym range))
