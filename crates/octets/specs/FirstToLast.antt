-- 'First to last' (01, 'Numbers given back'): stated once, for faults, for tests and for places.
use Rattle.std.specs.Prelude.{Bool, true, ◌&&◌, cond, ℕ, zero, suc, ◌+◌, Option, None, Some}
use Rattle.refusals.specs.Told.{Fault, fine, or_else}

-- n places from i on, first to last: what f gives at i, or else what it gives at i + 1, ..; `nothing` after the last
unfoldable pub first_to_last : {A : Type 0} → (A → A → A) → A → (ℕ → A) → ℕ → ℕ → A
first_to_last or nothing f zero i = nothing
first_to_last or nothing f (suc n) i = or (f i) (first_to_last or nothing f n (i + 1))

-- the first fault of n places from i on
abbrev pub scan : (ℕ → Fault) → ℕ → ℕ → Fault
scan f n i = first_to_last or_else fine f n i

-- each of n places from i on passes the test
abbrev pub holds_all : (ℕ → Bool) → ℕ → ℕ → Bool
holds_all test n i = first_to_last ◌&&◌ true test n i

abbrev pub or_next : Option ℕ → Option ℕ → Option ℕ
or_next None next = next
or_next (Some k) next = Some k

-- the place itself, if it passes the test
unfoldable pub place_if : (ℕ → Bool) → ℕ → Option ℕ
place_if test k = cond (test k) (Some k) None

-- the first of n places from i on that passes the test
abbrev pub first_place : (ℕ → Bool) → ℕ → ℕ → Option ℕ
first_place test n i = first_to_last or_next None (place_if test) n i
