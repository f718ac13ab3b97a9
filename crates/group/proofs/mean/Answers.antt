-- `group::mean` meets its contract: the sum of two words by the count; the mean of 64-bit values has 64 bits.
use mathlib.Core.Path.{◌∙◌, ap}
use Prim.Native.Nat.{ℕ}
use native.Mathlib.Omega.{arith}
use lib.ListN.{length}
use Rattle.exact.specs.Words.{value_of}
use Rattle.exact.proofs.Words.{value_wide}
use Rattle.exact.specs.Quotient.{quotient_of, value_or_zero}
use Rattle.group.proofs.Means.{mean_value}
use Rattle.group.proofs.mean.Goals as goal

pub returns : goal.returns
returns c = let sum = c.sum in
    let xs = c.args.values.now in
    c.value_or_zero.ensures
    ∙ ap value_or_zero (c.rounded_quotient.ensures ∙ ap (λ (n : ℕ). quotient_of n (length xs)) (ap value_of sum.ensures ∙ value_wide _))
    ∙ mean_value xs (λ k h. omega (arith, c.type_inv.values k))
