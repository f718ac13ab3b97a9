-- `group::is_group` meets its contract: the two products, each of two words, compare as the test does.
use mathlib.Core.Path.{◌≡◌, sym, ◌∙◌, ap}
use mathlib.Core.List.{List}
use Prim.Native.Nat.{ℕ, ◌*◌, ◌-◌, ◌<◌}
use native.Mathlib.Omega.{arith}
use lib.Dec.{leb}
use lib.ListN.{length}
use Rattle.exact.specs.Words.{value_of, wide_of}
use Rattle.exact.specs.declared.Wide.{Wide}
use Rattle.exact.proofs.Words.{value_wide}
use Rattle.group.specs.Repeatability.{smallest, largest, qualifies}
use Rattle.group.proofs.Bounds.{smallest_at_most_largest}
use Rattle.group.proofs.Groups.{qualifies_none, qualifies_some}
use Rattle.group.proofs.is_group.Goals as goal

-- the two products, in two words each, compare as the test does
compared : (limit : ℕ) (xs : List ℕ) (low high : ℕ) (spread allowed : Wide) → 0 < length xs → low ≡ smallest xs → high ≡ largest xs → spread ≡ wide_of ((high - low) * 10000)
    → allowed ≡ wide_of (limit * low) → leb (value_of spread) (value_of allowed) ≡ qualifies limit xs
compared limit xs low high spread allowed h is-low is-high is-spread is-allowed =
    (λ i. leb ((ap value_of is-spread ∙ value_wide ((high - low) * 10000)) i) ((ap value_of is-allowed ∙ value_wide (limit * low)) i))
    ∙ (λ i. leb ((is-high i - is-low i) * 10000) (limit * is-low i))
    ∙ sym (qualifies_some limit xs h)

pub returns-in_default : goal.returns-in_default
returns-in_default c = sym (qualifies_none c.args.limit c.args.values.now c.in_default.ensures)

pub overflow_sub-ends : goal.overflow_sub-ends
overflow_sub-ends c = omega (arith, c.in-Some.ensures, smallest_at_most_largest c.args.values.now)

pub returns : goal.returns
returns c = let ends = c.in-Some.ensures in
    c.is_at_most.ensures
    ∙ compared c.args.limit c.args.values.now c.in-Some.ends.smallest c.in-Some.ends.largest c.product-spread.result c.product-allowed.result ends.0 ends.1 ends.2 c.product-spread.ensures c.product-allowed.ensures
