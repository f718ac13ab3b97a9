-- `group::find_spread` meets its contract: one rounded quotient of the two ends.
use Rattle.std.proofs.Common.{rules}
use Rattle.std.proofs.lemmas.Option.{MatchOption-at_some}
use Rattle.std.proofs.lemmas.Result.{err_from_is_err_and}
use mathlib.Core.Path.{◌≡◌, sym, ap, ◌∙◌}
use Prim.Native.Nat.{◌*◌, ◌-◌}
use native.Mathlib.Omega.{arith}
use Rattle.exact.specs.Quotient.{quotient_of}
use Rattle.exact.proofs.Answers.{with_error, mapped}
use Rattle.group.specs.Spread.{spread_of}
use Rattle.refusals.specs.Told.{done}
use Rattle.refusals.specs.declared.Refusal.TheVariants.{NoGroup}
use Rattle.group.proofs.Bounds.{smallest_at_most_largest}
use Rattle.group.proofs.Spreads.{AreEnds, by_spread, by-quotient, none_told}
use Rattle.group.proofs.find_spread.Goals.{In_ok-ends, After-map_err}
use Rattle.group.proofs.find_spread.Goals as goal

found : (c : In_ok-ends) → AreEnds c.args.values.now c.in_ok-ends.ends
found c = MatchOption-at_some _ _ c.in_ok-ends.ends c.in_ok-ends.ensures.ok_part c.find_extremes.ensures

told-by : (c : After-map_err) → by_spread c.args.values.now c.map_err.result ≡ spread_of c.args.values.now
told-by c =
    let xs = c.args.values.now in
    let ends : AreEnds xs c.in_ok-ends.ends = MatchOption-at_some _ _ c.in_ok-ends.ends c.in_ok-ends.ensures.ok_part c.find_extremes.ensures in
    ap (by_spread xs) (mapped NoGroup c.rounded_ratio-quotient.result c.map_err.result c.map_err.ensures.cases (λ why given k. search rules)
    ∙ ap (with_error NoGroup) (c.rounded_ratio-quotient.ensures ∙ (λ i. quotient_of ((ends.2 i - ends.1 i) * 100000) (ends.1 i)))) ∙ by-quotient xs

pub returns-in_err-ends : goal.returns-in_err-ends
returns-in_err-ends c =
    let p = err_from_is_err_and c.from_residual.result c.from_residual.ensures.1 in
    rw (p.1, p.2) (none_told c.args.values.now c.find_extremes.result _ c.find_extremes.ensures c.in_err-ends.ensures.value)

pub overflow_sub-ends : goal.overflow_sub-ends
overflow_sub-ends c = omega (arith, found (goal.at.overflow_sub-ends c).In_ok-ends, smallest_at_most_largest c.args.values.now)

pub returns-in_err-spread : goal.returns-in_err-spread
returns-in_err-spread c =
    let p = err_from_is_err_and c.from_residual-in_err-spread.result c.from_residual-in_err-spread.ensures.1 in
    rw (p.1, p.2) (sym (ap (by_spread c.args.values.now) c.in_err-spread.was) ∙ told-by (goal.at.returns-in_err-spread c).After-map_err)

pub returns : goal.returns
returns c = let ends = found (goal.at.returns c).In_ok-ends in
    (λ i. done (record { smallest = ends.1 i; largest = ends.2 i; spread = c.in_ok-spread.spread })) ∙ sym (ap (by_spread c.args.values.now) c.in_ok-spread.was) ∙ told-by (goal.at.returns c).After-map_err
