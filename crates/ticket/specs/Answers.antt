-- What a ticket answers, by the paper: 'A ticket: 10, 11.'
use Rattle.std.specs.Prelude.{leb}
use Rattle.refusals.specs.Told.{Told, demand, or_else, judged}
use Rattle.ticket.specs.Ranges.{ticket_ok}
use Rattle.ticket.specs.Formulas.{factor, gross, net}
use Rattle.ticket.specs.declared.Ticket.{Ticket}
use Rattle.ticket.specs.declared.Volumes.{Volumes}

-- the ticket's factor, its gross standard and its net volume
unfoldable pub volumes : Ticket → Volumes
volumes t = record { factor = factor t; gross = gross t; net = net t }

-- 10: ticket field out of range; 11: closing below opening; equal readings are a ticket of nothing
unfoldable pub ticket_of : Ticket → Told Volumes
ticket_of t = judged (or_else (demand (ticket_ok t) 10) (demand (leb t.opening t.closing) 11)) (volumes t)
