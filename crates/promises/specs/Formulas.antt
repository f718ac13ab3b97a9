-- Demand 2: 'Correction factors, base prover volume, meter factor and net ticket volume are the formulas of API MPMS 12.2 on the rounded
-- inputs that document 01 lists, each rounded once, halves upward.' For each figure: the exact fraction it comes from, whose numbers are
-- the rounded figures before it, and that it is that fraction rounded once.
use Rattle.std.specs.Prelude.{◌≡◌, List, [], ◌∷◌, ℕ, ◌+◌, ◌-◌, ◌*◌, ◌%◌, ◌^◌, ◌≤◌, ◌<◌, pos, ◌+ℤ◌}
use Rattle.exact.specs.Rounding.{Fraction, ◌over◌}
use Rattle.exact.specs.Words.{sum_of}
use Rattle.exact.proofs.Rounding.{Nearest}
use Rattle.octets.specs.Records.{records_in}
use Rattle.group.specs.Listed.{listed}
use Rattle.factors.specs.Metal.{coefficient_of}
use Rattle.factors.specs.Fractions.{cts, cps, cpl, combined}
use Rattle.factors.specs.Rounded.{cps_at, cpl_at}
use Rattle.factors.specs.declared.Metal.{Metal}
use Rattle.factors.specs.declared.Prover.{Prover}
use Rattle.run.specs.declared.Run.{Run}
use Rattle.run.specs.declared.Figures.{Figures}
use Rattle.draw.specs.Fill.{fill_at}
use Rattle.draw.specs.Passes.{pass_count, pass_sum, pass_pressure, water_compressibility, water_at, pass_volume}
use Rattle.draw.specs.Profile.{out_pass, back_pass, volume_count, volume_of, volumes_of}
use Rattle.draw.specs.declared.FillFigures.{FillFigures}
use Rattle.draw.specs.declared.Profile.TheVariants.{Bidirectional}
use Rattle.draw.proofs.Sums.{drawn_at}
use Rattle.ticket.specs.declared.Ticket.{Ticket}
use Rattle.ticket.specs.declared.Volumes.{Volumes}
use Rattle.promises.specs.Signed.{AboveZero}

-- 'rounded once, halves upward': q is the whole number nearest to n / d, the upper where two are as near, and no other number is
pub record RoundedOnce (n d q : ℕ) : Type 0 where
  pub near : Nearest n d q
  pub only : (p : ℕ) → Nearest n d p → p ≡ q

-- a fraction so rounded to d places, as a whole number of 10^-d
abbrev pub RoundedTo : ℕ → Fraction → ℕ → Type 0
RoundedTo d (num over den) q = RoundedOnce (num * 10 ^ d) den q

-- 01, 'Proving': every figure of a run is its formula on the rounded figures before it
pub record RunRounded (prover : Prover) (k : ℕ) (run : Run) (f : Figures) : Type 0 where
  -- 'Indicated volume = pulses ÷ K', K in 0.001 pulse per barrel; 02: 'divides the thousandths by K and rounds once'
  pub indicated_volume : RoundedTo 4 (run.pulses over k) f.indicated
  pub steel_temperature : RoundedTo 4 (cts run.prover.temperature (coefficient_of prover.metal)) f.cts
  pub steel_pressure : RoundedTo 4 (cps run.prover.liquid.pressure prover.pipe.diameter prover.pipe.modulus prover.pipe.wall) f.cps
  pub prover_liquid : RoundedTo 4 (cpl run.prover.liquid.compressibility run.prover.liquid.pressure run.prover.liquid.equilibrium) f.prover.cpl
  -- 'Prover factor from CTS, CPS, CTL and CPL at the prover'
  pub prover_factor : RoundedTo 4 (combined 4 (f.cts ∷ f.cps ∷ run.prover.ctl ∷ f.prover.cpl ∷ [])) f.prover.factor
  -- 'Corrected prover volume = base volume × prover factor'
  pub prover_volume : RoundedTo 4 (prover.base * f.prover.factor over 100000000) f.prover.volume
  pub meter_liquid : RoundedTo 4 (cpl run.meter.liquid.compressibility run.meter.liquid.pressure run.meter.liquid.equilibrium) f.meter.cpl
  -- 'meter factor product from CTL and CPL at the meter'
  pub meter_factor : RoundedTo 4 (combined 4 (run.meter.ctl ∷ f.meter.cpl ∷ [])) f.meter.factor
  -- 'Corrected meter volume = indicated volume × meter product'
  pub meter_volume : RoundedTo 4 (f.indicated * f.meter.factor over 100000000) f.meter.volume
  -- 'Run factor = corrected prover volume ÷ corrected meter volume'
  pub run_factor : RoundedTo 4 (f.prover.volume over f.meter.volume) f.factor

-- 01, 'Water draw', of a fill
pub record FillRounded (metal : Metal) (s : List ℕ) (i : ℕ) (f : FillFigures) : Type 0 where
  -- 'adjusted measure = certified volume + scale reading'
  pub adjusted_measure : AboveZero (pos (fill_at s i).certified +ℤ (fill_at s i).scale) f.adjusted
  pub measure_steel : RoundedTo 6 (cts (fill_at s i).measure (fill_at s i).coefficient) f.measure
  pub prover_steel : RoundedTo 6 (cts (fill_at s i).prover (coefficient_of metal)) f.prover
  -- 'CCTS = rounded measure CTS ÷ rounded prover CTS'
  pub steel_ratio : RoundedTo 6 (f.measure over f.prover) f.ccts
  -- 'drawn = adjusted × CTDW × CCTS', two factors of 10^-6
  pub drawn_volume : RoundedOnce (f.adjusted * (fill_at s i).ctdw * f.ccts) (10 ^ 12) f.drawn

-- 'A pass is the sum of its fills, divided by the unrounded product CPS × CPL, then rounded', each factor counting 10^-6
pub record PassRounded (prover : Prover) (s : List ℕ) (pass : ℕ) : Type 0 where
  pub pipe_pressure : RoundedTo 6 (cps (pass_pressure s pass) prover.pipe.diameter prover.pipe.modulus prover.pipe.wall) (cps_at 6 prover.pipe (pass_pressure s pass))
  pub water_pressure : RoundedTo 6 (cpl water_compressibility (pass_pressure s pass) 0) (cpl_at 6 (water_at (pass_pressure s pass)))
  pub pass-volume : RoundedOnce (pass_sum prover.metal s pass * 10 ^ 12) (cps_at 6 prover.pipe (pass_pressure s pass) * cpl_at 6 (water_at (pass_pressure s pass))) (pass_volume prover s pass)

-- 'Passes start at 1 and never go back or skip ..; all fills of a pass carry one pressure': the passes of the formula are 1 to the count and
-- each has a fill, its pressure is that of each of its fills, and its sum has every fill of the draw once
pub record PassesCounted (prover : Prover) (s : List ℕ) : Type 0 where
  pub fills_of_passes : (i : ℕ) → i < records_in 32 s → (1 ≤ (fill_at s i).pass) × ((fill_at s i).pass ≤ pass_count s)
  pub passes_of_fills : (pass : ℕ) → 1 ≤ pass → pass ≤ pass_count s → (i : ℕ) × (i < records_in 32 s) × ((fill_at s i).pass ≡ pass)
  pub one_pressure : (i : ℕ) → i < records_in 32 s → (fill_at s i).pressure ≡ pass_pressure s (fill_at s i).pass
  pub fills_once : sum_of (listed (pass_sum prover.metal s) (pass_count s) 1) ≡ sum_of (listed (drawn_at prover.metal s) (records_in 32 s) 0)

-- 02: 'passes come in pairs, odd out and even back, and a round trip is the sum of the two corrected passes': each round trip has its own two passes
-- of the draw, next to each other, and their rounded volumes added; no pass is left over, and none is of two round trips
pub record RoundTripsCounted (prover : Prover) (s : List ℕ) : Type 0 where
  pub odd_out : (trip : ℕ) → 1 ≤ trip → out_pass trip % 2 ≡ 1
  pub then-back : (trip : ℕ) → 1 ≤ trip → back_pass trip ≡ out_pass trip + 1
  pub within_passes : (trip : ℕ) → trip ≤ volume_count Bidirectional s → back_pass trip ≤ pass_count s
  pub both_added : (trip : ℕ) → volume_of Bidirectional prover s trip ≡ pass_volume prover s (out_pass trip) + pass_volume prover s (back_pass trip)
  pub passes_once : sum_of (volumes_of Bidirectional prover s) ≡ sum_of (listed (pass_volume prover s) (pass_count s) 1)

-- 01, 'Ticket': every figure is its formula on the rounded figures before it
pub record TicketRounded (t : Ticket) (v : Volumes) : Type 0 where
  pub liquid : RoundedTo 4 (cpl t.liquid.compressibility t.liquid.pressure t.liquid.equilibrium) (cpl_at 4 t.liquid)
  -- 'Factor = meter factor × CTL × CPL (from the ticket's P and F), 4 places'; 02: 'tickets get one as well'
  pub ticket_factor : RoundedTo 4 (combined 4 (t.mf ∷ t.ctl ∷ cpl_at 4 t.liquid ∷ [])) v.factor
  -- 'Gross standard = indicated × factor, to 0.01'
  pub gross_standard : RoundedOnce ((t.closing - t.opening) * v.factor) 10000 v.gross
  -- 'Net = gross × (100000 - S) ÷ 100000'
  pub net_volume : RoundedOnce (v.gross * (100000 - t.sediment)) 100000 v.net
