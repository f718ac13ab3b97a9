-- `live::convert` meets its contract: the pressure is told of where the temperature is taken.
use Rattle.std.proofs.Common.{rules, w16, to_z, of_z, nat_abs, Err, ◌≡◌, ap, ◌∙◌, ℤ}
use Rattle.refusals.specs.Told.{Told, done}
use Rattle.refusals.specs.Answered.{told}
use Rattle.live.specs.Live.{temperature_of, pressure_of, in_order, live_of}
use Rattle.live.proofs.convert.Goals as goal

pub returns-in_err-tenths : goal.returns-in_err-tenths
unfolding live_of temperature_of
returns-in_err-tenths c =
    let passed_on : c.from_residual.result ≡ Err c.in_err-tenths.field-0.0 = search rules in
    ap told passed_on ∙ ap (λ (t : Told ℤ). in_order t (pressure_of c.args.reading.pressure)) c.in_err-tenths.ensures

pub returns-in_err-take_psi : goal.returns-in_err-take_psi
unfolding live_of temperature_of
returns-in_err-take_psi c =
    let passed_on : c.from_residual-in_err-take_psi.result ≡ Err c.in_err-take_psi.field-0.0 = search rules in
    ap told passed_on ∙ (λ i. in_order (c.in_ok-tenths.ensures i) (c.in_err-take_psi.ensures i))

pub returns : goal.returns
unfolding live_of temperature_of
returns c =
    let tenths : to_z w16 (of_z w16 c.in_ok-tenths.tenths) ≡ c.in_ok-tenths.tenths = search rules in
    let psi : c.unsigned_abs-psi.result ≡ nat_abs c.in_ok-take_psi.field-0 = search rules in
    (λ i. done (record { tenths = tenths i; psi = psi i })) ∙ (λ i. in_order (c.in_ok-tenths.ensures i) (c.in_ok-take_psi.ensures i))
