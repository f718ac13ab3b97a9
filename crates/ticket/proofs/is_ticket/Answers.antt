-- `ticket::is_ticket` meets its contract: each of the code's tests is a range of the paper.
use mathlib.Core.Bool.{◌&&◌}
use Rattle.ticket.specs.Ranges.{ticket_ok}
use Rattle.ticket.proofs.is_ticket.Goals as goal

pub returns : goal.returns
unfolding ticket_ok
returns c = λ i. c.is_reading.ensures i
    && (c.is_reading-2.ensures i && (c.is_meter_factor.ensures i && (c.is_ctl.ensures i && (c.is_liquid.ensures i && c.is_sediment.ensures i))))
