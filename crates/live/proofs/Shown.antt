-- The way back: `live` of what the panel shows is the reading that it was made from.
use mathlib.Core.Path.{◌≡◌, refl, sym, ap, ◌∙◌}
use mathlib.Core.Bool.{Bool, true, false}
use Prim.Native.Nat.{ℕ, ◌*◌, ◌^◌, ◌≤◌}
use native.Mathlib.Nat.{le_trans, mul-one, zero-mul}
use native.Mathlib.Omega.{arith}
use borrow.Author.Tests.{leb-true}
use lib.Dec.{lit<, lit≤}
use lib.IntN.{ℤ, pos, negsuc, nat_abs, ◌+ℤ◌, ◌-ℤ◌, ◌*ℤ◌, +ℤ_idl}
use lib.Ieee.{Float, nan, inf, fin, down}
use lib.Ieee.Exact.{HasValue}
use lib.Ieee.Scale.{finite}
use Rattle.ranges.specs.Table.{temperature_ok, pressure_ok}
use Rattle.ranges.proofs.Laws.{within_high, both_first}
use Rattle.refusals.specs.Told.{done, demand}
use Rattle.refusals.proofs.Laws.{judged_fine, demand_holds, or_else_next}
use Rattle.live.specs.Exact.{sided, numerator, denominator}
use Rattle.live.specs.Live.{whole_of, single_of, temperature_of, psi_ok, pressure_of, in_order, live_of}
use Rattle.live.specs.Panel.{cast, tenth}
use Rattle.live.proofs.Value.{denominator_pos, whole_only, whole_of_value, summed_whole}
use Rattle.live.proofs.Distance.{below, times_size}
use Rattle.live.proofs.Tenths.{cast_value, shown_value, distance_bound}

pub temperature_size : (z : ℤ) → temperature_ok z ≡ true → nat_abs z ≤ 2000
unfolding temperature_ok
temperature_size (pos n) is = leb-true n 2000 is
temperature_size (negsuc n) is = omega (arith, leb-true n 199 (both_first _ _ is))

pub pressure_size : (p : ℕ) → pressure_ok p ≡ true → p ≤ 1500
unfolding pressure_ok
pressure_size p is = within_high 0 1500 p is

finite_of_value : (x : Float) (s : Bool) (a c : ℕ) → HasValue x s a c → finite x ≡ true
finite_of_value nan s a c v = absurd v
finite_of_value (inf t) s a c v = absurd v
finite_of_value (fin t m e) s a c v = refl

-- the cast of a whole number is that number
exact_of_value : (z : ℤ) (x : Float) → HasValue x (below z) (nat_abs z) 1 → numerator x ≡ z *ℤ pos (denominator x)
unfolding numerator denominator
exact_of_value z nan v = absurd v
exact_of_value z (inf t) v = absurd v
exact_of_value z (fin t m e) v = (λ i. sided (v.0 i) ((sym (mul-one _) ∙ v.1) i)) ∙ sym (times_size z (down e))

pub cast_exact : (z : ℤ) → nat_abs z ≤ 2 ^ 24 → numerator (cast z) ≡ z *ℤ pos (denominator (cast z))
cast_exact z h = exact_of_value z (cast z) (cast_value z h)

-- a single whose whole number is in range
single_back : (in_range : ℤ → Bool) (k : ℕ) (x : Float) (z : ℤ) → finite x ≡ true → whole_of 0 k x ≡ z → in_range z ≡ true → single_of in_range 0 k x ≡ done z
unfolding single_of
single_back in_range k x z number whole ok =
    judged_fine (whole_of 0 k x) (or_else_next (demand (in_range (whole_of 0 k x)) 13) (demand_holds 12 number) ∙ demand_holds 13 (ap in_range whole ∙ ok))
    ∙ ap done whole

-- what a live temperature rounds is ten times the single
ten_times : (x : Float) → pos (0 * denominator x) +ℤ pos 10 *ℤ numerator x ≡ pos 10 *ℤ numerator x
ten_times x = ap (λ (n : ℕ). pos n +ℤ pos 10 *ℤ numerator x) (zero-mul (denominator x)) ∙ +ℤ_idl (pos 10 *ℤ numerator x)

module _ (z : ℤ) (ok : temperature_ok z ≡ true) where
  tenth_finite : finite (tenth z) ≡ true
  tenth_finite = finite_of_value (tenth z) (below z) _ (2 ^ 149) (shown_value z (temperature_size z ok))

  -- the bound is below one half
  tenth_whole : whole_of 0 10 (tenth z) ≡ z
  tenth_whole =
      let x = tenth z in
      let from_zero = ap (λ (w : ℤ). nat_abs (w -ℤ z *ℤ pos (denominator x))) (ten_times x) in
      let bound = distance_bound z (temperature_size z ok) in
      let parts = denominator_pos x in
      sym (whole_only 0 10 x z (record { near = omega (arith, from_zero, bound, parts); half = λ e. absurd (omega (arith, e, from_zero, bound, parts)) }))

  pub temperature_back : temperature_of (tenth z) ≡ done z
  unfolding temperature_of
  temperature_back = single_back temperature_ok 10 (tenth z) z tenth_finite tenth_whole ok

module _ (p : ℕ) (ok : pressure_ok p ≡ true) where
  psi_value : HasValue (cast (pos p)) false p 1
  psi_value = cast_value (pos p) (le_trans (pressure_size p ok) (lit≤ tt))

  pub pressure_back : pressure_of (cast (pos p)) ≡ done (pos p)
  unfolding pressure_of psi_ok
  pressure_back =
      single_back psi_ok 1 (cast (pos p)) (pos p) (finite_of_value (cast (pos p)) false p 1 psi_value)
      (whole_of_value 0 1 (cast (pos p)) false p (lit< tt) psi_value ∙ summed_whole 0 false (1 * p) ∙ ap pos (omega arith))
      ok

pub live_back : (z : ℤ) (p : ℕ) → temperature_ok z ≡ true → pressure_ok p ≡ true → live_of (tenth z) (cast (pos p)) ≡ done (record { tenths = z; psi = p })
unfolding live_of
live_back z p warm pressed = λ i. in_order (temperature_back z warm i) (pressure_back p pressed i)
