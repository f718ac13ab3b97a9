-- A liquid in range: its pressure, Pe and F one by one, and F × (P - Pe) in parts of 10^8.
use mathlib.Core.Path.{◌≡◌}
use mathlib.Core.Bool.{true, ◌&&◌}
use Prim.Native.Nat.{◌*◌, ◌-◌, ◌≤◌}
use native.Mathlib.Nat.{mul-le-mul}
use native.Mathlib.Omega.{arith}
use borrow.Author.Tests.{leb-true, le-leb}
use lib.Dec.{leb}
use Rattle.ranges.specs.Table.{pressure_ok, compressibility_ok}
use Rattle.ranges.proofs.Laws.{both_first, both_second, both_true, within_high}
use Rattle.factors.specs.Liquid.{liquid_ok}
use Rattle.factors.specs.declared.Liquid.{Liquid}

module _ (liquid : Liquid) (ok : liquid_ok liquid ≡ true) where
  pub pressure_fits : pressure_ok liquid.pressure ≡ true
  unfolding liquid_ok
  pressure_fits = both_first (pressure_ok liquid.pressure) _ ok

  above : (leb liquid.equilibrium liquid.pressure && compressibility_ok liquid.compressibility) ≡ true
  unfolding liquid_ok
  above = both_second (pressure_ok liquid.pressure) _ ok

  pub not-below : liquid.equilibrium ≤ liquid.pressure
  not-below = leb-true liquid.equilibrium liquid.pressure (both_first (leb liquid.equilibrium liquid.pressure) _ above)

  pub compressibility_fits : compressibility_ok liquid.compressibility ≡ true
  compressibility_fits = both_second (leb liquid.equilibrium liquid.pressure) _ above

  pub squeezed_little : liquid.compressibility * (liquid.pressure - liquid.equilibrium) ≤ 15000000
  unfolding pressure_ok compressibility_ok
  squeezed_little = mul-le-mul {m₂ = 1500} (within_high 0 10000 _ compressibility_fits) (omega (arith, within_high 0 1500 liquid.pressure pressure_fits))

-- and nothing else is asked of it
pub all_fit : (liquid : Liquid) → pressure_ok liquid.pressure ≡ true → liquid.equilibrium ≤ liquid.pressure → compressibility_ok liquid.compressibility ≡ true → liquid_ok liquid ≡ true
unfolding liquid_ok
all_fit liquid pressure above compressibility = both_true pressure (both_true (le-leb liquid.equilibrium liquid.pressure above) compressibility)
