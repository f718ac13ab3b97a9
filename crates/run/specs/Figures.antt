-- 01, 'Proving, by pipe prover': one run's figures, all at 4 places.
use Rattle.std.specs.Prelude.{List, [], ◌∷◌, ℕ}
use Rattle.exact.specs.Rounding.{rounded, ◌over◌}
use Rattle.factors.specs.Rounded.{cts_at, cps_at, cpl_at, combined_at, corrected_at}
use Rattle.factors.specs.declared.Prover.{Prover}
use Rattle.run.specs.declared.Run.{Run}
use Rattle.run.specs.declared.Corrected.{Corrected}
use Rattle.run.specs.declared.Figures.{Figures}

-- 1. 'Indicated volume = pulses ÷ K', with K in 0.001 pulse per barrel; 02: 'divides the thousandths by K and rounds once'
unfoldable pub indicated : ℕ → ℕ → ℕ
indicated thousandths k = rounded 4 (thousandths over k)

-- the steel at the prover
unfoldable pub steel_cts : Prover → Run → ℕ
steel_cts prover run = cts_at 4 prover.metal run.prover.temperature

unfoldable pub steel_cps : Prover → Run → ℕ
steel_cps prover run = cps_at 4 prover.pipe run.prover.liquid.pressure

-- a side's combined factor, and its volume by that factor, in 0.0001 barrel: 'corrected prover volume = base volume × prover factor',
-- 'corrected meter volume = indicated volume × meter product'
unfoldable pub corrected_by : ℕ → ℕ → List ℕ → Corrected
corrected_by volume cpl factors =
    record { cpl = cpl; factor = combined_at 4 factors; volume = corrected_at 4 10000 volume (combined_at 4 factors) }

-- 2. and 3. 'Prover factor from CTS, CPS, CTL and CPL at the prover', of the base volume
unfoldable pub at_prover : Prover → Run → Corrected
at_prover prover run =
    corrected_by prover.base (cpl_at 4 run.prover.liquid)
    (steel_cts prover run ∷ steel_cps prover run ∷ run.prover.ctl ∷ cpl_at 4 run.prover.liquid ∷ [])

-- 'meter factor product from CTL and CPL at the meter', of the indicated volume
unfoldable pub at_meter : ℕ → Run → Corrected
at_meter volume run = corrected_by volume (cpl_at 4 run.meter.liquid) (run.meter.ctl ∷ cpl_at 4 run.meter.liquid ∷ [])

-- 4. 'Run factor = corrected prover volume ÷ corrected meter volume'
unfoldable pub figures_from : Prover → Run → ℕ → Figures
figures_from prover run volume =
    record {
      indicated = volume;
      cts = steel_cts prover run;
      cps = steel_cps prover run;
      prover = at_prover prover run;
      meter = at_meter volume run;
      factor = rounded 4 ((at_prover prover run).volume over (at_meter volume run).volume);
    }

-- all figures of a run, from the prover's settings and K
unfoldable pub figures_of : Prover → ℕ → Run → Figures
figures_of prover k run = figures_from prover run (indicated run.pulses k)
