-- 01, 'Live readings': the exact number in the bits of a single (IEEE 754), as a fraction of whole numbers.
use Rattle.std.specs.Prelude.{Bool, true, false, ℕ, ◌*◌, ℤ, pos, neg_ℤ, Float}
use Rattle.std.specs.Float.{nan, inf, fin}
use Rattle.std.specs.Float.Ieee.{up, down}

-- a whole number by its side of zero and its size; 0 is the same on both sides, so -0.0 is 0
abbrev pub sided : Bool → ℕ → ℤ
sided true n = neg_ℤ (pos n)
sided false n = pos n

-- A single that is finite holds the number ± m · 2 ^ e, where 2 ^ e is the fraction up e / down e.
-- One that is not finite holds no number: what stands for it here is asked by nobody, since 12 comes first.
unfoldable pub numerator : Float → ℤ
numerator nan = pos 0
numerator (inf s) = pos 0
numerator (fin s m e) = sided s (m * up e)

unfoldable pub denominator : Float → ℕ
denominator nan = 1
denominator (inf s) = 1
denominator (fin s m e) = down e
