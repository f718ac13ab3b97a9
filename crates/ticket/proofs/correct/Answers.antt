-- `ticket::correct` meets its contract: each rounded quotient is a figure of the paper, and 32 bits hold it.
use mathlib.Core.Path.{◌≡◌, ap, ◌∙◌}
use Prim.Native.Nat.{ℕ, ◌-◌, ◌*◌}
use native.Mathlib.Omega.{arith}
use Rattle.exact.specs.Rounding.{rounded_div}
use Rattle.factors.specs.Rounded.{cpl_at}
use Rattle.factors.specs.declared.Places.TheVariants.{Four}
use Rattle.factors.proofs.Values.{cpl_value}
use Rattle.ticket.specs.Formulas.{indicated, factor, gross, net}
use Rattle.ticket.specs.Answers.{volumes}
use Rattle.ticket.proofs.Magnitudes.{in-range, factor_by_words, product_small, measured_small}
use Rattle.ticket.proofs.correct.Goals.{After-round-factor, After-round-gross, After-round-net, After-value_or_zero-cpl}
use Rattle.ticket.proofs.correct.Goals as goal

cpl-is : (c : After-value_or_zero-cpl) → c.value_or_zero-cpl.result ≡ cpl_at 4 c.args.ticket.liquid
cpl-is c = c.value_or_zero-cpl.ensures ∙ cpl_value c.cpl.result Four c.args.ticket.liquid c.cpl.ensures (in-range c.args.ticket c.requires.0).liquid

factor-is : (c : After-round-factor) → c.round-factor.result ≡ factor c.args.ticket
factor-is c =
    let t = c.args.ticket in
    c.round-factor.ensures ∙ ap (λ (n : ℕ). rounded_div (t.mf * t.ctl * n) 100000000) (cpl-is c.before.before.before.before.before) ∙ factor_by_words t

gross-is : (c : After-round-gross) → c.round-gross.result ≡ gross c.args.ticket
unfolding gross indicated
gross-is c = c.round-gross.ensures ∙ ap (λ (n : ℕ). rounded_div (indicated c.args.ticket * n) 10000) (factor-is c.before)

net-is : (c : After-round-net) → c.round-net.result ≡ net c.args.ticket
unfolding net
net-is c = c.round-net.ensures ∙ ap (λ (n : ℕ). rounded_div (n * (100000 - c.args.ticket.sediment)) 100000) (gross-is c.before)

pub overflow_sub-kept : goal.overflow_sub-kept
overflow_sub-kept c = (in-range c.args.ticket c.requires.0).sediment

pub round-factor-requires : goal.round-factor-requires
round-factor-requires c = let t = c.args.ticket in
    omega (arith, ap (λ (n : ℕ). t.mf * t.ctl * n) (cpl-is (goal.at.round-factor-requires c).After-value_or_zero-cpl), product_small (in-range c.args.ticket c.requires.0))

pub round-gross-requires : goal.round-gross-requires
unfolding indicated
round-gross-requires c = omega (arith, ap (λ (n : ℕ). indicated c.args.ticket * n) (factor-is (goal.at.round-gross-requires c).After-round-factor), measured_small (in-range c.args.ticket c.requires.0))

pub returns : goal.returns
unfolding volumes
returns c = λ i. record { factor = factor-is (goal.at.returns c).After-round-factor i; gross = gross-is (goal.at.returns c).After-round-gross i; net = net-is (goal.at.returns c).After-round-net i }
