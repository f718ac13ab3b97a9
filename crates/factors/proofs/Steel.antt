-- The steel factors: CTS without a number below zero, the temperature counted from -100.0 °F; and the magnitudes of CPS.
use mathlib.Core.Path.{◌≡◌, sym, ap, ◌∙◌}
use mathlib.Core.Bool.{true, ◌&&◌}
use mathlib.Core.Logic.{by_cases}
use Prim.Native.Nat.{ℕ, zero, suc, ◌+◌, ◌*◌, ◌-◌, ◌<◌, ◌≤◌}
use native.Mathlib.Nat.{add-mul, mul-le-mul}
use native.Mathlib.Decide.{dec_lt}
use native.Mathlib.Omega.{arith}
use borrow.Author.Tests.{lt-ltb, le-ltb}
use lib.IntN.{ℤ, pos, negsuc, neg_ℤ, nat_abs, sub_ℕ, ◌+ℤ◌, ◌-ℤ◌, ◌*ℤ◌, +ℤ-neg_ℤ_cancel, +ℤ_assoc}
use Rattle.ranges.specs.Table.{pressure_ok, diameter_ok, wall_ok, modulus_ok}
use Rattle.ranges.proofs.Laws.{both_first, both_second, within_low, within_high}
use Rattle.ranges.proofs.Counted.{Warm}
use Rattle.factors.specs.Prover.{pipe_ok}
use Rattle.factors.specs.declared.Pipe.{Pipe}

-- a sum that stays above zero
minus : (a m : ℕ) → m ≤ a → nat_abs (pos a +ℤ neg_ℤ (pos m)) ≡ a - m
minus a zero h = omega arith
minus a (suc m) h = rw (le-ltb a (suc m) h)

-- T - 60, from the temperature counted so
from_sixty : {t : ℤ} (w : Warm t) → t -ℤ pos 600 ≡ sub_ℕ w.above 1600
from_sixty {t} w =
    ap (λ (z : ℤ). z -ℤ pos 600) (sym (+ℤ-neg_ℤ_cancel t (pos 1000)) ∙ ap (λ (z : ℤ). z -ℤ pos 1000) w.is)
    ∙ +ℤ_assoc (pos w.above) (negsuc 999) (negsuc 599)

module _ (above gc : ℕ) (small : gc ≤ 400) where
  colder : above < 1600 → 800 ≤ above → nat_abs (pos 100000000 +ℤ sub_ℕ above 1600 *ℤ pos gc) ≡ 100000000 + above * gc - 1600 * gc
  colder h low =
      let all : suc (1600 - suc above) * gc + above * gc ≡ 1600 * gc = sym (add-mul (suc (1600 - suc above)) above gc) ∙ ap (λ (m : ℕ). m * gc) (omega arith) in
      let most : suc (1600 - suc above) * gc ≤ 320000 = mul-le-mul {n₂ = 800} {m₂ = 400} (omega arith) small in
      rw (lt-ltb above 1600 h) (minus 100000000 (suc (1600 - suc above) * gc) (omega arith) ∙ omega arith)

  warmer : 1600 ≤ above → nat_abs (pos 100000000 +ℤ sub_ℕ above 1600 *ℤ pos gc) ≡ 100000000 + above * gc - 1600 * gc
  warmer h =
      let all : (above - 1600) * gc + 1600 * gc ≡ above * gc = sym (add-mul (above - 1600) 1600 gc) ∙ ap (λ (m : ℕ). m * gc) (omega arith) in
      rw (le-ltb above 1600 h) (omega arith)

-- 1 + (T - 60) × Gc, in parts of 10^8
pub parts : {t : ℤ} (gc : ℕ) → gc ≤ 400 → (w : Warm t) → nat_abs (pos 100000000 +ℤ (t -ℤ pos 600) *ℤ pos gc) ≡ 100000000 + w.above * gc - 1600 * gc
parts gc small w =
    ap (λ (z : ℤ). nat_abs (pos 100000000 +ℤ z *ℤ pos gc)) (from_sixty w)
    ∙ by_cases (dec_lt w.above 1600) (λ h. colder w.above gc small h w.low) (λ h. warmer w.above gc small (omega arith))

-- the pipe's stiffness E × WT and its load P × ID
pub record Loads (pipe : Pipe) (p : ℕ) : Type 0 where
  pub least : 1000000000 ≤ pipe.modulus * pipe.wall
  pub most : pipe.modulus * pipe.wall ≤ 120000000000
  pub load : p * pipe.diameter ≤ 90000000

pub loads : {pipe : Pipe} {p : ℕ} → pipe_ok pipe ≡ true → pressure_ok p ≡ true → Loads pipe p
unfolding pipe_ok diameter_ok wall_ok modulus_ok pressure_ok
loads {pipe} {p} fits pressure =
    let rest : (wall_ok pipe.wall && modulus_ok pipe.modulus) ≡ true = both_second (diameter_ok pipe.diameter) _ fits in
    let diameter : diameter_ok pipe.diameter ≡ true = both_first (diameter_ok pipe.diameter) _ fits in
    let wall : wall_ok pipe.wall ≡ true = both_first (wall_ok pipe.wall) _ rest in
    let modulus : modulus_ok pipe.modulus ≡ true = both_second (wall_ok pipe.wall) _ rest in
    record {
      least = mul-le-mul (within_low 10000000 40000000 pipe.modulus modulus) (within_low 100 3000 pipe.wall wall);
      most = mul-le-mul (within_high 10000000 40000000 pipe.modulus modulus) (within_high 100 3000 pipe.wall wall);
      load = mul-le-mul (within_high 0 1500 p pressure) (within_high 1000 60000 pipe.diameter diameter);
    }
