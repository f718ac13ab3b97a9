-- 01, 'Ticket': the formulas, each on the rounded figures before it; volumes in 0.01 barrel, factors in 0.0001.
use Rattle.std.specs.Prelude.{[], ◌∷◌, ℕ, ◌-◌, ◌*◌}
use Rattle.exact.specs.Rounding.{rounded_div}
use Rattle.factors.specs.Rounded.{cpl_at, combined_at}
use Rattle.ticket.specs.declared.Ticket.{Ticket}

-- Indicated = closing - opening
unfoldable pub indicated : Ticket → ℕ
indicated t = t.closing - t.opening

-- Factor = meter factor × CTL × CPL (from the ticket's P, F and Pe), 4 places
unfoldable pub factor : Ticket → ℕ
factor t = combined_at 4 (t.mf ∷ t.ctl ∷ cpl_at 4 t.liquid ∷ [])

-- Gross standard = indicated × factor, to 0.01
unfoldable pub gross : Ticket → ℕ
gross t = rounded_div (indicated t * factor t) 10000

-- Net = gross × (100000 - S) ÷ 100000, to 0.01
unfoldable pub net : Ticket → ℕ
net t = rounded_div (gross t * (100000 - t.sediment)) 100000
