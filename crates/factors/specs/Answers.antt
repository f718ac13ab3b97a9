-- What each entry answers, by the paper: 3 for a metal or pipe figure out of range, then 5 for a temperature, a pressure (below Pe too) or F.
use Rattle.std.specs.Prelude.{cond, List, ℕ, ◌^◌, leb, ltb, ℤ, length, Result, Ok, Err}
use Rattle.refusals.specs.Told.{Told, demand, or_else, judged}
use Rattle.ranges.specs.Table.{temperature_ok, pressure_ok}
use Rattle.factors.specs.Metal.{metal_ok}
use Rattle.factors.specs.Prover.{pipe_ok}
use Rattle.factors.specs.Liquid.{liquid_ok}
use Rattle.factors.specs.Rounded.{cts_at, cps_at, cpl_at, combined_at}
use Rattle.factors.specs.declared.Metal.{Metal}
use Rattle.factors.specs.declared.Pipe.{Pipe}
use Rattle.factors.specs.declared.Liquid.{Liquid}
use Rattle.factors.specs.declared.CombineError.TheVariants.{TooMany, TooLarge}
use Rattle.factors.specs.declared.CombineError.{CombineError}

-- CTS to d places
unfoldable pub cts_of : ℕ → Metal → ℤ → Told ℕ
cts_of d metal t = judged (or_else (demand (metal_ok metal) 3) (demand (temperature_ok t) 5)) (cts_at d metal t)

-- CPS to d places
unfoldable pub cps_of : ℕ → Pipe → ℕ → Told ℕ
cps_of d pipe p = judged (or_else (demand (pipe_ok pipe) 3) (demand (pressure_ok p) 5)) (cps_at d pipe p)

-- CPL to d places
unfoldable pub cpl_of : ℕ → Liquid → Told ℕ
cpl_of d liquid = judged (demand (liquid_ok liquid) 5) (cpl_at d liquid)

-- a number as a combined factor, where a word holds it
unfoldable pub held : ℕ → Result ℕ CombineError
held n = cond (ltb n (2 ^ 64)) (Ok n) (Err TooLarge)

-- the combined factor to d places, of up to four factors
unfoldable pub combined_of : ℕ → List ℕ → Result ℕ CombineError
combined_of d fs = cond (leb (length fs) 4) (held (combined_at d fs)) (Err TooMany)
