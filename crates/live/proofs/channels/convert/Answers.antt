-- `live::channels::convert` meets its contract: the pressure is told of where the temperature is taken.
use Rattle.std.proofs.Common.{rules, w16, to_z, of_z, nat_abs, Err, ◌≡◌, ap, ◌∙◌, ℤ}
use Rattle.refusals.specs.Told.{Told, done}
use Rattle.refusals.specs.Answered.{told}
use Rattle.live.specs.Live.{in_order}
use Rattle.live.specs.Channels.{pressure_channel_of, channels_of}
use Rattle.live.proofs.channels.convert.Goals as goal

pub returns-in_err-tenths : goal.returns-in_err-tenths
unfolding channels_of
returns-in_err-tenths c =
    let passed_on : c.from_residual.result ≡ Err c.in_err-tenths.field-0.0 = search rules in
    ap told passed_on ∙ ap (λ (t : Told ℤ). in_order t (pressure_channel_of c.args.pressure)) c.in_err-tenths.ensures

pub returns-in_err-take_pressure : goal.returns-in_err-take_pressure
unfolding channels_of
returns-in_err-take_pressure c =
    let passed_on : c.from_residual-in_err-take_pressure.result ≡ Err c.in_err-take_pressure.field-0.0 = search rules in
    ap told passed_on ∙ (λ i. in_order (c.in_ok-tenths.ensures i) (c.in_err-take_pressure.ensures i))

pub returns : goal.returns
unfolding channels_of
returns c =
    let tenths : to_z w16 (of_z w16 c.in_ok-tenths.tenths) ≡ c.in_ok-tenths.tenths = search rules in
    let psi : c.unsigned_abs-psi.result ≡ nat_abs c.in_ok-take_pressure.field-0 = search rules in
    (λ i. done (record { tenths = tenths i; psi = psi i })) ∙ (λ i. in_order (c.in_ok-tenths.ensures i) (c.in_ok-take_pressure.ensures i))
