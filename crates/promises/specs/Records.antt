-- 01, 'Records', in words that a proving and a water draw share: what is lent, and records first to last. Places count from 0.
use Rattle.std.specs.Prelude.{◌≡◌, Bool, true, List, ℕ, ◌%◌, ◌<◌, length}
use Rattle.octets.specs.Records.{records_in}

-- whole records of a size, neither too few nor too many
pub record Lent (count_ok : ℕ → Bool) (size : ℕ) (s : List ℕ) : Type 0 where
  pub whole : length s % size ≡ 0
  pub count : count_ok (records_in size s) ≡ true

-- it is so at each of the first n places: of all n, or of those before the place n
abbrev pub Every : ℕ → (ℕ → Type 0) → Type 0
Every n Holds = (i : ℕ) → i < n → Holds i
