-- 01, 'Factors', and 02, 'Liquids that boil': what CPL is made from, at the prover, at the meter and on a ticket.
use Rattle.std.specs.Prelude.{Bool, ◌&&◌, leb}
use Rattle.exact.specs.Rounding.{Fraction}
use Rattle.ranges.specs.Table.{pressure_ok, compressibility_ok}
use Rattle.factors.specs.Fractions.{cpl}
use Rattle.factors.specs.declared.Liquid.{Liquid}

-- P in range and not below Pe, which is then 0 to 1500 too, and F in range
unfoldable pub liquid_ok : Liquid → Bool
liquid_ok liquid = pressure_ok liquid.pressure && (leb liquid.equilibrium liquid.pressure && compressibility_ok liquid.compressibility)

-- CPL of a liquid, from its F, P and Pe
unfoldable pub cpl_from : Liquid → Fraction
cpl_from liquid = cpl liquid.compressibility liquid.pressure liquid.equilibrium
