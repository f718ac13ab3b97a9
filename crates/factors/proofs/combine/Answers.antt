-- `factors::combine` meets its contract: two products of 32-bit factors fit a word each, and one division does the rest.
use Rattle.std.specs.Prelude.{Ok}
use Rattle.std.proofs.Common.{rules}
use mathlib.Core.Path.{ap, ◌∙◌}
use Prim.Native.Nat.{◌*◌}
use native.Mathlib.Omega.{arith}
use Rattle.exact.specs.Quotient.{quotient_of}
use Rattle.exact.proofs.Answers.{with_error, mapped}
use Rattle.factors.specs.declared.CombineError.TheVariants.{TooLarge}
use Rattle.factors.specs.Places.{digits}
use Rattle.factors.proofs.Laws.{unit_large, unit_above_zero}
use Rattle.factors.proofs.Combining.{too_many, none_combined, by_division}
use Rattle.factors.proofs.combine.Goals as goal

pub returns-then-count-gt4 : goal.returns-then-count-gt4
returns-then-count-gt4 c = too_many _ _ c.if-count-gt4.true

pub returns-then-count-eq0 : goal.returns-then-count-eq0
returns-then-count-eq0 c = ap Ok c.unit.ensures ∙ none_combined _ _ c.if-count-eq0.true (omega (arith, unit_large c.args.places))

pub returns : goal.returns
returns c = let u = c.units_above_one in
    mapped TooLarge c.rounded_ratio-quotient.result c.map_err.result c.map_err.ensures.cases (λ why given k. search rules)
    ∙ ap (with_error TooLarge)
    (c.rounded_ratio-quotient.ensures
    ∙ (λ i. quotient_of (c.factor_at.ensures.0 i * c.factor_at-2.ensures.0 i * (c.factor_at-3.ensures.0 i * c.factor_at-4.ensures.0 i)) u.result))
    ∙ by_division (digits c.args.places) c.args.factors.now u.result (omega arith) u.ensures.0 u.ensures.1 (unit_above_zero c.args.places)
