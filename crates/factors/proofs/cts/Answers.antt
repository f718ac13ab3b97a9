-- `factors::cts` meets its contract: counted from -100.0 °F the temperature is a natural number, and the formula is the paper's.
use Rattle.std.proofs.lemmas.Result.{err_from_is_err_and}
use mathlib.Core.Path.{◌≡◌, ap, sym, ◌∙◌}
use mathlib.Core.Bool.{true}
use Prim.Native.Nat.{ℕ, ◌+◌, ◌*◌, ◌-◌, ◌≤◌}
use native.Mathlib.Nat.{le_refl, mul-le-mul}
use native.Mathlib.Omega.{arith}
use lib.IntN.{pos, nat_abs, ◌+ℤ◌, ◌-ℤ◌, ◌*ℤ◌}
use mir.Syntax.{w16}
use mir.Val.{to_z, of_z}
use mir.ValLaws.{to_z-of_z}
use Rattle.refusals.specs.Told.{done}
use Rattle.exact.specs.Rounding.{rounded, ◌over◌}
use Rattle.refusals.proofs.Laws.{judged_fine, judged_fault, demand_holds, or_else_next, or_else_first}
use Rattle.ranges.specs.Table.{temperature_ok, coefficient_ok}
use Rattle.ranges.proofs.Laws.{within_high}
use Rattle.ranges.proofs.Counted.{Warm, warm, sum_fits, cast_is, cast_fits}
use Rattle.factors.specs.Metal.{coefficient_of, metal_ok}
use Rattle.factors.specs.Places.{digits}
use Rattle.factors.specs.Fractions.{cts}
use Rattle.factors.specs.Rounded.{cts_at}
use Rattle.factors.specs.Answers.{cts_of}
use Rattle.factors.proofs.Demands.{met, missed}
use Rattle.factors.proofs.Steel.{parts}
use Rattle.factors.proofs.cts.Goals.{After-coefficient-gc, After-is_temperature, In_ok-demand-2}
use Rattle.factors.proofs.cts.Goals as goal

-- the code's tests are the paper's ranges
judges-temperature : (c : After-is_temperature) → c.is_temperature.result ≡ temperature_ok c.args.t
judges-temperature c = c.is_temperature.ensures ∙ ap temperature_ok (to_z-of_z w16 c.args.t c.ranges.t)

metal-fits : (c : In_ok-demand-2) → metal_ok c.args.metal ≡ true
metal-fits c = met 3 c.is_metal.ensures c.in_ok-demand.ensures

temperature-fits : (c : In_ok-demand-2) → temperature_ok c.args.t ≡ true
temperature-fits c = met 5 (c.is_temperature.ensures ∙ ap temperature_ok (to_z-of_z w16 c.args.t c.ranges.t)) c.in_ok-demand-2.ensures

small : (c : In_ok-demand-2) → coefficient_of c.args.metal ≤ 400
unfolding metal_ok coefficient_ok
small c = within_high 100 400 _ (metal-fits c)

warmth : (c : In_ok-demand-2) → Warm c.args.t
warmth c = warm c.args.t (temperature-fits c)

-- the temperature and the coefficient as the code has them
abbrev above : In_ok-demand-2 → ℕ
above c = nat_abs (to_z w16 (of_z w16 (to_z w16 (of_z w16 c.args.t) +ℤ pos 1000)))

back : (c : In_ok-demand-2) → to_z w16 (of_z w16 c.args.t) ≡ c.args.t
back c = to_z-of_z w16 c.args.t c.ranges.t

high : (c : In_ok-demand-2) → (warmth c).above ≤ 32767
high c = omega (arith, (warmth c).high)

above-is : (c : In_ok-demand-2) → above c ≡ (warmth c).above
above-is c = ap nat_abs (cast_is 1000 (back c) (warmth c).is (high c))

record Product (above gc : ℕ) : Type 0 where
  most : above * gc ≤ 1200000
  least : 800 * gc ≤ above * gc
  coefficient : gc ≤ 400

product : (c : After-coefficient-gc) → Product (above c.before) c.coefficient-gc.result
product c =
    let w = warmth c.before in
    let gc : c.coefficient-gc.result ≤ 400 = omega (arith, c.coefficient-gc.ensures, small c.before) in
    record {
      most = mul-le-mul {n₂ = 3000} {m₂ = 400} (omega (arith, above-is c.before, w.high)) gc;
      least = mul-le-mul {n₁ = 800} (omega (arith, above-is c.before, w.low)) (le_refl c.coefficient-gc.result);
      coefficient = gc;
    }

-- the code's numerator is the paper's
numerator : (c : After-coefficient-gc) → 100000000 + above c.before * c.coefficient-gc.result - 1600 * c.coefficient-gc.result ≡ nat_abs
    (pos 100000000 +ℤ (c.args.t -ℤ pos 600) *ℤ pos (coefficient_of c.args.metal))
numerator c = (λ i. 100000000 + above-is c.before i * c.coefficient-gc.ensures i - 1600 * c.coefficient-gc.ensures i) ∙ sym (parts _ (small c.before) (warmth c.before))

pub overflow_add-above : goal.overflow_add-above
overflow_add-above c = sum_fits 1000 (back (goal.at.overflow_add-above c).In_ok-demand-2) (warmth (goal.at.overflow_add-above c).In_ok-demand-2).is (high (goal.at.overflow_add-above c).In_ok-demand-2)

pub overflow_cast-above : goal.overflow_cast-above
overflow_cast-above c = cast_fits 1000 (back (goal.at.overflow_cast-above c).In_ok-demand-2) (warmth (goal.at.overflow_cast-above c).In_ok-demand-2).is (high (goal.at.overflow_cast-above c).In_ok-demand-2)

pub overflow_sub-above : goal.overflow_sub-above
overflow_sub-above c = omega (arith, product (goal.at.overflow_sub-above c).After-coefficient-gc)

pub round-requires : goal.round-requires
round-requires c = omega (arith, product (goal.at.round-requires c).After-coefficient-gc)

pub returns-in_err-demand : goal.returns-in_err-demand
unfolding cts_of
returns-in_err-demand c =
    let p = err_from_is_err_and c.from_residual.result c.from_residual.ensures.1 in
    rw (p.1, p.2) (sym (judged_fault _ (or_else_first _ (missed 3 c.is_metal.ensures c.in_err-demand.ensures))))

pub returns-in_err-demand-2 : goal.returns-in_err-demand-2
unfolding cts_of
returns-in_err-demand-2 c =
    let p = err_from_is_err_and c.from_residual-in_err-demand-2.result c.from_residual-in_err-demand-2.ensures.1 in
    rw (p.1, p.2) (sym (judged_fault _ (or_else_next _ (demand_holds 3 (met 3 c.is_metal.ensures c.in_ok-demand.ensures)) ∙ missed 5 (judges-temperature (goal.at.returns-in_err-demand-2 c).After-is_temperature) c.in_err-demand-2.ensures)))

pub returns : goal.returns
unfolding cts_of cts_at cts
returns c =
    ap done c.round.ensures ∙ ap (λ (num : ℕ). done (rounded (digits c.args.places) (num over 100000000))) (numerator (goal.at.returns c).After-coefficient-gc)
    ∙ sym (judged_fine _ (or_else_next _ (demand_holds 3 (metal-fits (goal.at.returns c).In_ok-demand-2)) ∙ demand_holds 5 (temperature-fits (goal.at.returns c).In_ok-demand-2)))
