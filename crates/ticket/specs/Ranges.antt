-- 01, 'Ticket' and 'Units and ranges': a ticket's fields, each in its range.
use Rattle.std.specs.Prelude.{Bool, ◌&&◌}
use Rattle.ranges.specs.Table.{ctl_ok, reading_ok, meter_factor_ok, sediment_ok}
use Rattle.factors.specs.Liquid.{liquid_ok}
use Rattle.ticket.specs.declared.Ticket.{Ticket}

-- the readings, the meter factor, CTL, P not below Pe and F, and S, or number 10
unfoldable pub ticket_ok : Ticket → Bool
ticket_ok t = reading_ok t.opening && (reading_ok t.closing && (meter_factor_ok t.mf && (ctl_ok t.ctl && (liquid_ok t.liquid && sediment_ok t.sediment))))
