-- What a C caller's numbers stand for.
use Rattle.std.specs.Prelude.{cond, ℕ, ◌%◌, eqb}
use Rattle.std.specs.Float.{binary32}
use Rattle.std.specs.Float.Ieee.{of_bits}
use Rattle.factors.specs.Metal.{metal_by}
use Rattle.factors.specs.declared.Pipe.{Pipe}
use Rattle.factors.specs.declared.Liquid.{Liquid}
use Rattle.factors.specs.declared.Prover.{Prover}
use Rattle.report.specs.declared.Factors.{Factors}
use Rattle.ticket.specs.declared.Ticket.{Ticket}
use Rattle.live.specs.declared.channels.Channel.{Channel}
use Rattle.live.specs.declared.channels.Channel.TheVariants.{Fahrenheit, Celsius, Pressure, Fault}
use Rattle.api.specs.declared.settings.EndakuroProver.{EndakuroProver}
use Rattle.api.specs.declared.reports.EndakuroFactors.{EndakuroFactors}
use Rattle.api.specs.declared.tickets.EndakuroTicket.{EndakuroTicket}
use Rattle.api.specs.declared.readings.EndakuroChannel.{EndakuroChannel}

abbrev pub pipe_by : ℕ → ℕ → ℕ → Pipe
pipe_by diameter wall modulus = record { diameter = diameter; wall = wall; modulus = modulus }

abbrev pub liquid_by : ℕ → ℕ → ℕ → Liquid
liquid_by pressure compressibility equilibrium = record { pressure = pressure; compressibility = compressibility; equilibrium = equilibrium }

-- the prover's settings, the metal by its code and its certificate
abbrev pub prover_by : EndakuroProver → Prover
prover_by p =
    record {
      metal = metal_by p.metal p.coefficient;
      pipe = pipe_by p.diameter p.wall p.modulus;
      base = p.base;
    }

-- five factors in their order
abbrev pub factors_by : EndakuroFactors → Factors
factors_by f = record { one = f.f1; two = f.f2; three = f.f3; four = f.f4; five = f.f5 }

abbrev pub ticket_by : EndakuroTicket → Ticket
ticket_by t =
    record {
      opening = t.opening;
      closing = t.closing;
      mf = t.mf;
      ctl = t.ctl;
      liquid = liquid_by t.pressure t.compressibility t.equilibrium;
      sediment = t.sediment;
    }

-- a channel by its kind, 0 °F, 1 °C, 2 psi or 3 a fault, and its bits; a kind outside the four is as one that has no place there
unfoldable pub channel_by : Channel → EndakuroChannel → Channel
channel_by misplaced c =
    cond (eqb c.kind 0) (Fahrenheit (of_bits binary32 c.bits))
    (cond (eqb c.kind 1) (Celsius (of_bits binary32 c.bits))
    (cond (eqb c.kind 2) (Pressure (of_bits binary32 c.bits))
    (cond (eqb c.kind 3) (Fault (c.bits % 256)) misplaced)))

-- in a temperature's place a pressure has none, and in a pressure's a temperature, whatever it carries
abbrev pub temperature_by : EndakuroChannel → Channel
temperature_by = channel_by (Pressure (of_bits binary32 0))

abbrev pub pressure_by : EndakuroChannel → Channel
pressure_by = channel_by (Fahrenheit (of_bits binary32 0))
