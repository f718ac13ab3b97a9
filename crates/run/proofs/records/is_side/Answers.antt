-- `run::records::is_side` meets its contract.
use Rattle.std.proofs.Common.{◌≡◌, ◌&&◌, ap, ◌∙◌, rules}
use mir.Syntax.{w16}
use mir.Val.{to_z, of_z}
use mir.ValLaws.{to_z-of_z}
use Rattle.ranges.specs.Table.{temperature_ok}
use Rattle.run.specs.Record.{side_ok}
use Rattle.run.proofs.records.is_side.Goals as goal

pub returns : goal.returns
unfolding side_ok
returns c = let t = c.args.side.temperature in
    let read : to_z w16 (of_z w16 t) ≡ t = search (rules, to_z-of_z) in
    let warm = c.is_temperature.ensures ∙ ap temperature_ok read in
    λ i. warm i && (c.is_ctl.ensures i && c.is_liquid.ensures i)
