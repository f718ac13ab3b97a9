-- 01, 'Proving' and 'Water draw': when consecutive values qualify, and which group of them is the first. Once for any number n of
-- values and any limit: five runs with limit 5, three passes with limit 2.
use Rattle.std.specs.Prelude.{Bool, ◌&&◌, List, [], ◌∷◌, ℕ, ◌+◌, ◌*◌, ◌-◌, min, max, leb, length, take, drop, Some, None, Option}
use Rattle.refusals.specs.Told.{Told, done, refused}
use Rattle.octets.specs.FirstToLast.{first_place}

-- 'smallest'; 0 of no values
unfoldable pub smallest : List ℕ → ℕ
smallest [] = 0
smallest (x ∷ []) = x
smallest (x ∷ (y ∷ ys)) = min x (smallest (y ∷ ys))

-- 'largest'; 0 of no values
unfoldable pub largest : List ℕ → ℕ
largest [] = 0
largest (x ∷ xs) = max x (largest xs)

-- 'qualify when (largest - smallest) × 10,000 ≤ limit × smallest'; no values are no group
unfoldable pub qualifies : ℕ → List ℕ → Bool
qualifies limit xs = leb 1 (length xs) && leb ((largest xs - smallest xs) * 10000) (limit * smallest xs)

-- n consecutive values, from a place on
unfoldable pub group_at : ℕ → List ℕ → ℕ → List ℕ
group_at n xs at = take n (drop at xs)

-- the n values from a place on qualify
unfoldable pub qualifies_at : ℕ → ℕ → List ℕ → ℕ → Bool
qualifies_at limit n xs at = qualifies limit (group_at n xs at)

-- 'The first qualifying five decide': the first place, from 0, whose n values qualify; n values have room at length + 1 - n places
unfoldable pub first_group : ℕ → ℕ → List ℕ → Option ℕ
first_group limit n xs = first_place (qualifies_at limit n xs) (length xs + 1 - n) 0

-- 9: 'no qualifying group'; otherwise what follows from the place of its first value
abbrev pub nine_unless : {A : Type 0} → Option ℕ → (ℕ → A) → Told A
nine_unless None follows = refused 9 0
nine_unless (Some at) follows = done (follows at)
