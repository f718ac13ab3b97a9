-- `factors::round` meets its contract: a fraction of at most 2 is rounded within two words.
use mathlib.Core.Path.{◌≡◌, ap, ◌∙◌}
use Prim.Native.Nat.{ℕ, ◌*◌}
use native.Mathlib.Omega.{arith}
use Rattle.exact.specs.Rounding.{rounded, ◌over◌}
use Rattle.exact.specs.Quotient.{quotient_of, value_or_zero}
use Rattle.factors.specs.Places.{digits}
use Rattle.factors.proofs.Laws.{rounded_small, rounded_by_words}
use Rattle.factors.proofs.round.Goals.{After-round_or_zero}
use Rattle.factors.proofs.round.Goals as goal

value : (c : After-round_or_zero) → c.round_or_zero.result ≡ rounded (digits c.args.places) (c.args.num over c.args.den)
value c =
    c.round_or_zero.ensures ∙ ap (λ (u : ℕ). value_or_zero (quotient_of (c.args.num * u) c.args.den)) c.unit.ensures ∙ rounded_by_words c.args.places c.requires.0 c.requires.1

pub overflow_cast-result : goal.overflow_cast-result
overflow_cast-result c = omega (arith, value (goal.at.overflow_cast-result c).After-round_or_zero, rounded_small c.args.places c.requires.0 c.requires.1)

pub returns : goal.returns
returns c = value (goal.at.returns c).After-round_or_zero
