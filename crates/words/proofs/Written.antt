-- A text that fits is written, and one that does not is not.
use mathlib.Core.Path.{◌≡◌}
use mathlib.Core.List.{List}
use Prim.Native.Nat.{ℕ, ◌+◌, ◌≤◌, ◌<◌}
use borrow.Author.Tests.{lt-leb, le-leb}
use lib.ListN.{length}
use Rattle.words.specs.Written.{place_after}

pub place_fits : (to : List ℕ) (at : ℕ) (text : List ℕ) → at + length text ≤ length to → place_after to at text ≡ at + length text
unfolding place_after
place_fits to at text h = rw (le-leb (at + length text) (length to) h)

pub place_not : (to : List ℕ) (at : ℕ) (text : List ℕ) → length to < at + length text → place_after to at text ≡ at
unfolding place_after
place_not to at text h = rw (lt-leb (at + length text) (length to) h)
