-- An answer is written piece by piece into a lent buffer.
use Rattle.std.specs.Prelude.{cond, List, ℕ, ◌+◌, leb, length}

-- the place after a text that is written from a place on; the place itself where it does not fit
unfoldable pub place_after : List ℕ → ℕ → List ℕ → ℕ
place_after to at text = cond (leb (at + length text) (length to)) (at + length text) at
