-- Demand 2, 'the formulas of API MPMS 12.2 on the rounded inputs': the definitions count in whole numbers from 0 on, so that a sum with a
-- signed number stands in them as an absolute value, and a difference stops at 0. Here stands the paper's own number, as a signed one: within
-- the ranges it is the number used, and where a factor comes of it or is divided by it, above zero.
use Rattle.std.specs.Prelude.{◌≡◌, true, List, ◌↔◌, ℕ, ◌-◌, ◌*◌, ◌<◌, ◌≤◌, leb, ℤ, pos, nat_abs, ◌+ℤ◌, ◌-ℤ◌, ◌*ℤ◌}
use Rattle.ranges.specs.Table.{temperature_ok, pressure_ok, coefficient_ok, compressibility_ok}
use Rattle.exact.specs.Rounding.{Fraction, ◌over◌}
use Rattle.factors.specs.Fractions.{cts}
use Rattle.factors.specs.Liquid.{liquid_ok, cpl_from}
use Rattle.factors.specs.declared.Liquid.{Liquid}
use Rattle.group.specs.Repeatability.{smallest, largest}
use Rattle.draw.specs.Fill.{fill_at, fill_ok}
use Rattle.draw.specs.Drawn.{adjusted}
use Rattle.ticket.specs.Ranges.{ticket_ok}
use Rattle.ticket.specs.Formulas.{indicated}
use Rattle.ticket.specs.declared.Ticket.{Ticket}
use Rattle.live.specs.Live.{psi_ok}

-- the paper's number is above zero, and n is that number
pub record AboveZero (number : ℤ) (n : ℕ) : Type 0 where
  pub is : number ≡ pos n
  pub above : 0 < n

-- the fraction is the quotient of two of the paper's numbers, both above zero
pub record QuotientOf (dividend divisor : ℤ) (f : Fraction) : Type 0 where
  pub top : ℕ
  pub bottom : ℕ
  pub is : f ≡ (top over bottom)
  pub dividend_above : AboveZero dividend top
  pub divisor_above : AboveZero divisor bottom

pub record Signed : Type 0 where
  -- 'CTS = 1 + (T - 60) × Gc', in 10^-8; a water draw's temperatures are among these
  pub steel : (t : ℤ) (gc : ℕ) → temperature_ok t ≡ true → coefficient_ok gc ≡ true
      → QuotientOf (pos 100000000 +ℤ (t -ℤ pos 600) *ℤ pos gc) (pos 100000000) (cts t gc)
  -- 'CPL = 1 / (1 - F × (P - Pe))', in 10^-8
  pub liquid : (liquid : Liquid) → liquid_ok liquid ≡ true
      → QuotientOf (pos 100000000) (pos 100000000 -ℤ pos liquid.compressibility *ℤ (pos liquid.pressure -ℤ pos liquid.equilibrium)) (cpl_from liquid)
  -- 'P below Pe is 5 .. and 10 ..': of a liquid whose P and F are in range nothing else is asked. Just there P - Pe is a number from 0 on, so that
  -- it is the one taken, at most 1500, and the divisor is at least 85,000,000. 'Pe is whole psi, 0 to 1500'
  pub not-below : (liquid : Liquid) → pressure_ok liquid.pressure ≡ true → compressibility_ok liquid.compressibility ≡ true
      → (liquid_ok liquid ≡ true) ↔ (liquid.equilibrium ≤ liquid.pressure)
  pub counted : (p pe : ℕ) → ((n : ℕ) × (pos p -ℤ pos pe ≡ pos n)) ↔ (pe ≤ p)
  pub divisor : (liquid : Liquid) → liquid_ok liquid ≡ true → 85000000 ≤ 100000000 - liquid.compressibility * (liquid.pressure - liquid.equilibrium)
  pub equilibrium : (liquid : Liquid) → liquid_ok liquid ≡ true → pressure_ok liquid.equilibrium ≡ true
  -- 'adjusted measure = certified volume + scale reading'
  pub measure : (s : List ℕ) (i : ℕ) → fill_ok (fill_at s i) ≡ true → AboveZero (pos (fill_at s i).certified +ℤ (fill_at s i).scale) (adjusted (fill_at s i))
  -- '(largest - smallest)', of any values
  pub spread : (values : List ℕ) → pos (largest values) -ℤ pos (smallest values) ≡ pos (largest values - smallest values)
  -- 'Indicated = closing - opening', which may be 0, and '100000 - S'
  pub measured : (t : Ticket) → leb t.opening t.closing ≡ true → pos t.closing -ℤ pos t.opening ≡ pos (indicated t)
  pub dry : (t : Ticket) → ticket_ok t ≡ true → pos 100000 -ℤ pos t.sediment ≡ pos (100000 - t.sediment)
  -- whole psi of a live reading, in range
  pub psi : (z : ℤ) → psi_ok z ≡ true → z ≡ pos (nat_abs z)
