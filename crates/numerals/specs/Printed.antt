-- A number with a sign is written into a lent buffer as one of its size behind a `-` (byte 45).
use Rattle.std.specs.Prelude.{List, [], ◌∷◌, ℕ, suc, ℤ, pos, negsuc}
use Rattle.octets.specs.Octets.{written_at}
use Rattle.words.specs.Written.{place_after}
use Rattle.numerals.specs.Numbers.{printed}

unfoldable pub place_after_signed : List ℕ → ℕ → ℤ → ℕ
place_after_signed to at (pos n) = place_after to at (printed n)
place_after_signed to at (negsuc n) =
    place_after (written_at to at (45 ∷ [])) (place_after to at (45 ∷ [])) (printed (suc n))

unfoldable pub written_signed : List ℕ → ℕ → ℤ → List ℕ
written_signed to at (pos n) = written_at to at (printed n)
written_signed to at (negsuc n) =
    written_at (written_at to at (45 ∷ [])) (place_after to at (45 ∷ [])) (printed (suc n))
