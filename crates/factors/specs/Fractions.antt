-- 01, 'Factors': each factor as an exact fraction, in the paper's units.
use Rattle.std.specs.Prelude.{List, [], ◌∷◌, ℕ, ◌+◌, ◌-◌, ◌*◌, ◌^◌, ℤ, pos, nat_abs, ◌+ℤ◌, ◌-ℤ◌, ◌*ℤ◌, length}
use Rattle.exact.specs.Rounding.{Fraction, ◌over◌}

-- CTS = 1 + (T - 60) × Gc, with T in 0.1 °F and Gc in 10^-7 per °F: a number of 10^-8, above zero in the paper's ranges
unfoldable pub cts : ℤ → ℕ → Fraction
cts t gc = nat_abs (pos 100000000 +ℤ (t -ℤ pos 600) *ℤ pos gc) over 100000000

-- CPS = 1 + P × ID / (E × WT), with ID and WT in the same unit
unfoldable pub cps : ℕ → ℕ → ℕ → ℕ → Fraction
cps p id e wt = e * wt + p * id over e * wt

-- CPL = 1 / (1 - F × (P - Pe)), with F in 10^-8 per psi, P and the equilibrium pressure Pe gage
unfoldable pub cpl : ℕ → ℕ → ℕ → Fraction
cpl f p pe = 100000000 over 100000000 - f * (p - pe)

-- 1 for no factor
abbrev pub product_of : List ℕ → ℕ
product_of [] = 1
product_of (f ∷ fs) = f * product_of fs

-- a combined factor is the exact product of the rounded factors, each a number of 10^-d
unfoldable pub combined : ℕ → List ℕ → Fraction
combined d fs = product_of fs over (10 ^ d) ^ length fs
