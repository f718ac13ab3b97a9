-- The values of a job's runs or a draw's passes, first to last.
use Rattle.std.specs.Prelude.{List, [], ◌∷◌, ℕ, zero, suc, ◌+◌}

-- n values from place i on
unfoldable pub listed : (ℕ → ℕ) → ℕ → ℕ → List ℕ
listed f zero i = []
listed f (suc n) i = f i ∷ listed f n (i + 1)
