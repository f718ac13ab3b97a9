-- 01, 'Factors': 'Each is an exact fraction, rounded once to d places'.
use Rattle.std.specs.Prelude.{List, ℕ, ◌*◌, ◌^◌, ℤ}
use Rattle.exact.specs.Rounding.{rounded, ◌over◌}
use Rattle.factors.specs.Metal.{coefficient_of}
use Rattle.factors.specs.Fractions.{cts, cps, combined}
use Rattle.factors.specs.Liquid.{cpl_from}
use Rattle.factors.specs.declared.Metal.{Metal}
use Rattle.factors.specs.declared.Pipe.{Pipe}
use Rattle.factors.specs.declared.Liquid.{Liquid}

unfoldable pub cts_at : ℕ → Metal → ℤ → ℕ
cts_at d metal t = rounded d (cts t (coefficient_of metal))

unfoldable pub cps_at : ℕ → Pipe → ℕ → ℕ
cps_at d pipe p = rounded d (cps p pipe.diameter pipe.modulus pipe.wall)

unfoldable pub cpl_at : ℕ → Liquid → ℕ
cpl_at d liquid = rounded d (cpl_from liquid)

-- a combined factor: 'the exact product of the rounded factors, then one rounding'
unfoldable pub combined_at : ℕ → List ℕ → ℕ
combined_at d fs = rounded d (combined d fs)

-- 01, 'Proving', 3: a volume, of which `unit` are a barrel, by a factor of d places; a number of 10^-d barrel
unfoldable pub corrected_at : ℕ → ℕ → ℕ → ℕ → ℕ
corrected_at d unit volume factor = rounded d (volume * factor over unit * 10 ^ d)
