-- 01, 'Water draw': 'A pass is the sum of its fills, divided by the unrounded product CPS × CPL, then rounded.'
use Rattle.std.specs.Prelude.{Bool, cond, List, ℕ, ◌-◌, ◌*◌, ◌^◌, eqb, Option, None, Some}
use Rattle.octets.specs.FirstToLast.{first_place}
use Rattle.octets.specs.Records.{records_in}
use Rattle.exact.specs.Rounding.{rounded_div}
use Rattle.exact.specs.Words.{sum_of}
use Rattle.group.specs.Listed.{listed}
use Rattle.factors.specs.Rounded.{cps_at, cpl_at}
use Rattle.factors.specs.declared.Liquid.{Liquid}
use Rattle.factors.specs.declared.Metal.{Metal}
use Rattle.factors.specs.declared.Pipe.{Pipe}
use Rattle.factors.specs.declared.Prover.{Prover}
use Rattle.draw.specs.Fill.{fill_at}
use Rattle.draw.specs.Drawn.{drawn}

-- 'Passes start at 1 and never go back or skip': there are as many as the last fill's pass
unfoldable pub pass_count : List ℕ → ℕ
pass_count s = (fill_at s (records_in 32 s - 1)).pass

-- the fill at a place is one of the pass
unfoldable pub is_of : List ℕ → ℕ → ℕ → Bool
is_of s pass i = eqb (fill_at s i).pass pass

-- what the fill at a place adds to the pass
unfoldable pub drawn_for : Metal → List ℕ → ℕ → ℕ → ℕ
drawn_for metal s pass i = cond (is_of s pass i) (drawn metal (fill_at s i)) 0

-- 'the sum of its fills'
unfoldable pub pass_sum : Metal → List ℕ → ℕ → ℕ
pass_sum metal s pass = sum_of (listed (drawn_for metal s pass) (records_in 32 s) 0)

-- the pressure of the fill at a place, and 0 where there is no place
abbrev pub pressure_at : List ℕ → Option ℕ → ℕ
pressure_at s None = 0
pressure_at s (Some i) = (fill_at s i).pressure

-- 'all fills of a pass carry one pressure': that of its first fill
unfoldable pub pass_pressure : List ℕ → ℕ → ℕ
pass_pressure s pass = pressure_at s (first_place (is_of s pass) (records_in 32 s) 0)

-- 'For water F is 320'
abbrev pub water_compressibility : ℕ
water_compressibility = 320

-- 'Water draw uses Pe 0'
unfoldable pub water_at : ℕ → Liquid
water_at pressure = record { pressure = pressure; compressibility = water_compressibility; equilibrium = 0 }

-- 'divided by the unrounded product CPS × CPL, then rounded': each factor counts 10^-6, so that the product counts 10^-12
unfoldable pub corrected_volume : Pipe → ℕ → ℕ → ℕ
corrected_volume pipe pressure sum = rounded_div (sum * 10 ^ 12) (cps_at 6 pipe pressure * cpl_at 6 (water_at pressure))

-- a pass's volume, in 0.01 cubic inch
unfoldable pub pass_volume : Prover → List ℕ → ℕ → ℕ
pass_volume prover s pass = corrected_volume prover.pipe (pass_pressure s pass) (pass_sum prover.metal s pass)
