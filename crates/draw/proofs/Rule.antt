-- What the pass rule says of a sound draw: passes begin at 1 and rise by at most one, every pass from 1 to the last has a fill, and every fill
-- of a pass carries the pass's pressure.
use Rattle.std.specs.Prelude.{Option, None, Some}
use mathlib.Core.Path.{◌≡◌, refl, sym, ap, ◌∙◌}
use mathlib.Core.Logic.{◌⊎◌, inl, inr, ⊎_elim, by_cases}
use mathlib.Core.Bool.{Bool, true, false, ◌||◌}
use mathlib.Core.List.{List}
use Prim.Native.Nat.{ℕ, zero, suc, ◌+◌, ◌-◌, ◌≤◌, ◌<◌}
use native.Mathlib.Decide.{dec_le}
use native.Mathlib.Omega.{arith}
use borrow.Author.Tests.{eqb-true, eq-eqb}
use lib.Dec.{eqb}
use Rattle.ranges.proofs.Laws.{both_first, both_second}
use Rattle.octets.specs.FirstToLast.{first_place}
use Rattle.octets.specs.Records.{records_in}
use Rattle.octets.proofs.FirstToLast.{First, place_first, place_none}
use Rattle.factors.specs.declared.Prover.{Prover}
use Rattle.draw.specs.Fill.{fill_at, follows, rule_ok}
use Rattle.draw.specs.Passes.{pass_count, is_of, pressure_at, pass_pressure}
use Rattle.draw.specs.declared.FillRecord.{FillRecord}
use Rattle.draw.proofs.Sound.{Sound}

either : (a b : Bool) → (a || b) ≡ true → (a ≡ true) ⊎ (b ≡ true)
either true b is = inl refl
either false b is = inr is

-- a fill goes on with the pass, at its pressure, or begins the next
abbrev GoesOn : FillRecord → FillRecord → Type 0
GoesOn before fill = ((fill.pass ≡ before.pass) × (fill.pressure ≡ before.pressure)) ⊎ (fill.pass ≡ before.pass + 1)

goes_on : (before fill : FillRecord) → follows before fill ≡ true → GoesOn before fill
unfolding follows
goes_on before fill is =
    ⊎_elim
    (λ same. inl (eqb-true _ _ (both_first (eqb fill.pass before.pass) _ same), eqb-true _ _ (both_second (eqb fill.pass before.pass) _ same)))
    (λ next. inr (eqb-true _ _ next))
    (either _ _ is)

-- a place at which a fill of the pass stands
pub record FillOf (s : List ℕ) (pass last : ℕ) : Type 0 where
  pub place : ℕ
  pub below : place ≤ last
  pub is : (fill_at s place).pass ≡ pass

module _ (prover : Prover) (s : List ℕ) (good : Sound prover s) where
  pub begins : (fill_at s 0).pass ≡ 1
  unfolding rule_ok
  begins = eqb-true (fill_at s 0).pass 1 (good.rule 0 (omega (arith, good.some_fills)))

  pub rises : (i : ℕ) → suc i < records_in 32 s → GoesOn (fill_at s i) (fill_at s (suc i))
  unfolding rule_ok
  rises i h = goes_on (fill_at s i) (fill_at s (suc i)) (good.rule (suc i) h)

  -- passes never go back, and a pass has one pressure
  pub record Later (k i : ℕ) : Type 0 where
    pub on : (fill_at s k).pass ≤ (fill_at s i).pass
    pub same : (fill_at s i).pass ≡ (fill_at s k).pass → (fill_at s i).pressure ≡ (fill_at s k).pressure

  itself : (k i : ℕ) → i ≡ k → Later k i
  itself k i same = record { on = omega (arith, ap (λ (j : ℕ). (fill_at s j).pass) same); same = λ _. ap (λ (j : ℕ). (fill_at s j).pressure) same }

  next : (k i : ℕ) → Later k i → GoesOn (fill_at s i) (fill_at s (suc i)) → Later k (suc i)
  next k i before (inl goes) = record { on = omega (arith, goes.0, before.on); same = λ is. goes.1 ∙ before.same (sym goes.0 ∙ is) }
  next k i before (inr rise) = record { on = omega (arith, rise, before.on); same = λ is. absurd (omega (arith, rise, before.on, is)) }

  pub later : (k i : ℕ) → k ≤ i → i < records_in 32 s → Later k i
  later k zero le h = itself k zero (omega arith)
  later k (suc i) le h = by_cases (dec_le k i) (λ below. next k i (later k i below (omega arith)) (rises i h)) (λ above. itself k (suc i) (omega arith))

  -- every fill is of a pass from 1 to the count
  pub within_count : (i : ℕ) → i < records_in 32 s → (1 ≤ (fill_at s i).pass) × ((fill_at s i).pass ≤ pass_count s)
  unfolding pass_count
  within_count i h = (
    omega (arith, begins, (later 0 i (omega arith) h).on),
    (later i (records_in 32 s - 1) (omega arith) (omega (arith, good.some_fills))).on,
  )

  -- 'all fills of a pass carry one pressure': the pass's
  pub one_pressure : (i : ℕ) → i < records_in 32 s → (fill_at s i).pressure ≡ pass_pressure s (fill_at s i).pass
  unfolding pass_pressure is_of
  one_pressure i h = by_place (first_place (is_of s (fill_at s i).pass) (records_in 32 s) 0) refl
    where
      of_itself : is_of s (fill_at s i).pass i ≡ true
      of_itself = eq-eqb (fill_at s i).pass (fill_at s i).pass refl

      by_place : (at : Option ℕ) → first_place (is_of s (fill_at s i).pass) (records_in 32 s) 0 ≡ at → (fill_at s i).pressure ≡ pressure_at s at
      by_place None is = let z : true ≡ false = sym of_itself ∙ place_none (is_of s (fill_at s i).pass) (records_in 32 s) 0 is i (omega arith) (omega arith) in cc
      by_place (Some k) is =
          let first : First (is_of s (fill_at s i).pass) (records_in 32 s) 0 k = place_first (is_of s (fill_at s i).pass) (records_in 32 s) 0 is in
          by_cases (dec_le k i)
          (λ le. (later k i le h).same (sym (eqb-true (fill_at s k).pass (fill_at s i).pass first.passes)))
          (λ more. let z : true ≡ false = sym of_itself ∙ first.before i (omega arith) (omega arith) in cc)

  -- no pass is skipped
  pub reached : (i pass : ℕ) → i < records_in 32 s → 1 ≤ pass → pass ≤ (fill_at s i).pass → FillOf s pass i
  reached zero pass h low le = record { place = 0; below = omega arith; is = omega (arith, begins) }
  reached (suc i) pass h low le =
      by_cases (dec_le pass (fill_at s i).pass)
      (λ earlier. let at : FillOf s pass i = reached i pass (omega arith) low earlier in record { place = at.place; below = omega arith; is = at.is })
      (λ new. record { place = suc i; below = omega arith; is = ⊎_elim (λ goes. absurd (omega (arith, goes.0))) (λ next. omega (arith, next)) (rises i h) })

  pub every_pass : (pass : ℕ) → 1 ≤ pass → pass ≤ pass_count s → FillOf s pass (records_in 32 s - 1)
  unfolding pass_count
  every_pass pass low le = reached (records_in 32 s - 1) pass (omega (arith, good.some_fills)) low le
