-- A number among others.
use Rattle.std.specs.Prelude.{Bool, false, ◌||◌, List, [], ◌∷◌, ℕ, eqb}

-- the number is one of these
unfoldable pub is_one_of : ℕ → List ℕ → Bool
is_one_of number [] = false
is_one_of number (first ∷ rest) = eqb number first || is_one_of number rest
