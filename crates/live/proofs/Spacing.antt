-- The law of a format's spacing: what `round` keeps of a fraction is a whole number of units, and at most half a unit away from it.
use mathlib.Core.Path.{◌≡◌, refl, sym, subst}
use mathlib.Core.Logic.{◌⊎◌, inl, inr}
use mathlib.Core.Bool.{not}
use Prim.Native.Nat.{ℕ, zero, suc, ◌+◌, ◌*◌, ◌/◌, ◌%◌, ◌^◌, ◌≤◌, ◌<◌, compare, Ordering}
use native.Mathlib.Nat.{le_trans, suc-mul, div-add-mod', mod-lt, div-div-eq-div-mul}
use native.Mathlib.Omega.{arith}
use lib.Dec.{T, is_le, compare_is_eq, leb→le, nleb→lt, eqb→eq}
use lib.Ieee.{nearest}
use lib.Ieee.Fits.{nearest-le, kept-lt}
use lib.Ieee.Nearest.{closest}
use lib.Ieee.Order.{drop, kept}
use Rattle.live.proofs.Sides.{gap}

even_or_next : (q : ℕ) → (q + q % 2 ≡ q) ⊎ (q + q % 2 ≡ suc q)
even_or_next q = go (q % 2) refl
  where
    go : (r : ℕ) → q % 2 ≡ r → (q + q % 2 ≡ q) ⊎ (q + q % 2 ≡ suc q)
    go zero e = inl (omega arith)
    go (suc r) e = inr (omega arith)

-- a / b to the nearest whole number: the quotient where the remainder is no more than half of b, and the next one where it is no less
side_of_half : (q r b : ℕ) → ((nearest q (compare (r * 2) b) ≡ q) × (r * 2 ≤ b)) ⊎ ((nearest q (compare (r * 2) b) ≡ suc q) × (b ≤ r * 2))
side_of_half q r b = go (compare (r * 2) b) (leb→le (r * 2) b) (nleb→lt (r * 2) b) (eqb→eq (r * 2) b)
  where
    go : (o : Ordering) → (T (is_le o) → r * 2 ≤ b) → (T (not (is_le o)) → b < r * 2) → (T (compare_is_eq o) → r * 2 ≡ b)
        → ((nearest q o ≡ q) × (r * 2 ≤ b)) ⊎ ((nearest q o ≡ suc q) × (b ≤ r * 2))
    go Ordering.lt most more same = inl (refl, most tt)
    go Ordering.eq most more same = elim (even_or_next q) [ inl e ↦ inl (e, most tt) | inr e ↦ inr (e, omega (arith, same tt)) ]
    go Ordering.gt most more same = inr (refl, omega (arith, more tt))

pub closest_near : (n u : ℕ) → 0 < u → 2 * gap (closest n u * u) n ≤ u
closest_near n u h =
    let whole : n / u * u + n % u ≡ n = div-add-mod' n u in
    let rest : n % u < u = mod-lt n h in
    elim (side_of_half (n / u) (n % u) u) [
      | inl below ↦ subst (λ (q : ℕ). 2 * gap (q * u) n ≤ u) (sym below.0) (omega (arith, below.1))
      | inr above ↦ subst (λ (q : ℕ). 2 * gap (q * u) n ≤ u) (sym above.0) (omega (arith, above.1, suc-mul (n / u) u))
    ]

-- what is kept of a fraction has no more digits than the format, or is the next number
pub kept_most : (p n den : ℕ) → kept p n den ≤ 2 ^ p
kept_most p n den =
    let k = drop p n den in
    let u = den * 2 ^ k in
    le_trans (nearest-le (n / u) (compare (n % u * 2) u)) (subst (λ (q : ℕ). q < 2 ^ p) (div-div-eq-div-mul n den (2 ^ k)) (kept-lt p (n / den)))
