-- 01, 'Units and ranges': the prover's metal is one of the four named or a certified coefficient.
use Rattle.std.specs.Prelude.{Bool, cond, ℕ, eqb, ltb}
use Rattle.ranges.specs.Table.{coefficient_ok}
use Rattle.factors.specs.declared.Metal.{Metal}
use Rattle.factors.specs.declared.Metal.TheVariants.{MildCarbon, Stainless304, Stainless316, PrecipitationHardened, Certified}

-- the cubical coefficient Gc, 10^-7 per °F (003, Table 5)
abbrev pub coefficient_of : Metal → ℕ
coefficient_of MildCarbon = 186
coefficient_of Stainless304 = 288
coefficient_of Stainless316 = 265
coefficient_of PrecipitationHardened = 180
coefficient_of (Certified gc) = gc

-- a named metal is in range; a certified coefficient may not be
unfoldable pub metal_ok : Metal → Bool
metal_ok metal = coefficient_ok (coefficient_of metal)

-- The metals by a caller's numbers: 0 mild carbon, 1 304, 2 316, 3 17-4 PH, 4 none named. What is no metal is a certificate of 0, which
-- is out of range, so that each entry refuses it in its own place.
unfoldable pub named : ℕ → Metal
named code =
    cond (eqb code 0) MildCarbon
    (cond (eqb code 1) Stainless304
    (cond (eqb code 2) Stainless316
    (cond (eqb code 3) PrecipitationHardened
    (Certified 0))))

-- 'A certificate wins over the name'; 0 is no certificate, and a code above 4 is no metal, certified or not
unfoldable pub metal_by : ℕ → ℕ → Metal
metal_by code certified = cond (ltb 4 code) (Certified 0) (cond (eqb certified 0) (named code) (Certified certified))
