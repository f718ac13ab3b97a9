-- `exact::sum` meets its contract. The loop's invariant: the sum so far, with the values to come, is the sum of all; its upper word has
-- carried at most once a value.
use Prim.Native.Nat.{◌^◌, ◌≤◌, ◌<◌}
use mathlib.Core.Path.{◌≡◌}
use mathlib.Core.List.{◌∷◌}
use lib.ListN.{drop}
use Rattle.exact.specs.Words.{value_of, sum_of}
use Rattle.exact.proofs.sum.Given as goal

abbrev pub invariant-loop-x : goal.invariant-loop-x
invariant-loop-x l = (sum_of (value_of l.sum ∷ drop l.x-index l.values) ≡ sum_of l.values) × (l.sum.hi ≤ l.x-index) × (l.sum.lo < 2 ^ 64)
