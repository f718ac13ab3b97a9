-- A pair as facts: a record has it exactly where its temperature and its gravity are those.
use mathlib.Core.Path.{◌≡◌, ap, ◌∙◌}
use mathlib.Core.Bool.{true}
use mathlib.Core.List.{List}
use Prim.Native.Nat.{ℕ}
use native.Mathlib.Omega.{arith}
use borrow.Author.Tests.{leb-true, le-leb, eqb-true, eq-eqb}
use lib.IntN.{ℤ, pos, negsuc}
use lib.Signed.{le_z}
use Rattle.ranges.proofs.Laws.{both_first, both_second, both_true}
use Rattle.lookup.specs.Table.{entry_at}
use Rattle.lookup.specs.Pair.{has_pair}

same_le : (t : ℤ) → le_z t t ≡ true
same_le (pos n) = le-leb n n (omega arith)
same_le (negsuc n) = le-leb n n (omega arith)

neither_way : (a b : ℤ) → le_z a b ≡ true → le_z b a ≡ true → a ≡ b
neither_way (pos m) (pos n) up down = ap pos (omega (arith, leb-true m n up, leb-true n m down))
neither_way (pos m) (negsuc n) up down = cc
neither_way (negsuc m) (pos n) up down = cc
neither_way (negsuc m) (negsuc n) up down = ap negsuc (omega (arith, leb-true n m up, leb-true m n down))

-- the record at a place has this pair
pub record HasPair (s : List ℕ) (t : ℤ) (g i : ℕ) : Type 0 where
  pub temperature : (entry_at s i).temperature ≡ t
  pub gravity : (entry_at s i).gravity ≡ g

module _ (s : List ℕ) (t : ℤ) (g i : ℕ) where
  pub pair_true : HasPair s t g i → has_pair s t g i ≡ true
  unfolding has_pair
  pair_true has = both_true (ap (λ (u : ℤ). le_z u t) has.temperature ∙ same_le t) (both_true (ap (le_z t) has.temperature ∙ same_le t) (eq-eqb (entry_at s i).gravity g has.gravity))

  pub pair_was : has_pair s t g i ≡ true → HasPair s t g i
  unfolding has_pair
  pair_was is =
      let u = (entry_at s i).temperature in
      let rest = both_second (le_z u t) _ is in
      record { temperature = neither_way u t (both_first (le_z u t) _ is) (both_first (le_z t u) _ rest); gravity = eqb-true (entry_at s i).gravity g (both_second (le_z t u) _ rest) }
