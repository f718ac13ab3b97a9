-- `run::correct` meets its contract: a volume of 10^8 by a factor of at most 16 stays within a word.
use mathlib.Core.Path.{◌≡◌, ap, ◌∙◌}
use Prim.Native.Nat.{ℕ, ◌*◌, ◌≤◌}
use native.Mathlib.Nat.{mul-le-mul}
use native.Mathlib.Omega.{arith}
use Rattle.exact.proofs.Rounding.{at_most}
use Rattle.exact.specs.Rounding.{rounded, ◌over◌}
use Rattle.factors.proofs.Values.{combined_value}
use Rattle.factors.specs.Rounded.{combined_at, corrected_at}
use Rattle.run.specs.Figures.{corrected_by}
use Rattle.run.proofs.correct.Goals.{After-combined_or_zero-factor}
use Rattle.run.proofs.correct.Goals as goal
use Rattle.exact.specs.Quotient.{value_or_zero}

factor-is : (c : After-combined_or_zero-factor) → c.combined_or_zero-factor.result ≡ combined_at 4 c.args.list.now
factor-is c = c.combined_or_zero-factor.ensures ∙ ap value_or_zero c.combine.ensures ∙ combined_value 4 c.args.list.now c.requires.1 (omega (arith, c.requires.2))

product : (c : After-combined_or_zero-factor) → c.args.volume * c.combined_or_zero-factor.result ≤ 16000000000000
product c = mul-le-mul {n₂ = 100000000} {m₂ = 160000} c.requires.0 (omega (arith, factor-is c, c.requires.2))

pub overflow_mul-volume : goal.overflow_mul-volume
overflow_mul-volume c = omega (arith, product (goal.at.overflow_mul-volume c).After-combined_or_zero-factor)

pub round-requires : goal.round-requires
round-requires c = omega (arith, product (goal.at.round-requires c).After-combined_or_zero-factor)

pub returns : goal.returns
unfolding rounded corrected_at corrected_by
returns c = let a = c.args in
    let volume = c.round.ensures ∙ ap (λ (f : ℕ). rounded 4 (a.volume * f over 100000000)) (factor-is (goal.at.returns c).After-combined_or_zero-factor) in
    let most = at_most (a.volume * c.combined_or_zero-factor.result * 10000) 1600000000 {d = 100000000} (omega arith) (omega (arith, product (goal.at.returns c).After-combined_or_zero-factor)) in
    ((λ i. record { cpl = a.cpl; factor = factor-is (goal.at.returns c).After-combined_or_zero-factor i; volume = volume i }), omega (arith, c.round.ensures, most))
