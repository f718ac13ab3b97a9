-- `group::find_extremes` meets its contract. The loop's invariant: the ends so far, with the values to come, have the smallest and the largest of all.
use mathlib.Core.Path.{◌≡◌}
use mathlib.Core.List.{◌∷◌}
use lib.ListN.{drop}
use Rattle.group.specs.Repeatability.{smallest, largest}
use Rattle.group.proofs.find_extremes.Given as goal

abbrev pub invariant-loop-x : goal.invariant-loop-x
invariant-loop-x l = (smallest (l.ends.smallest ∷ drop l.x-index l.rest) ≡ smallest l.values) × (largest (l.ends.largest ∷ drop l.x-index l.rest) ≡ largest l.values)
