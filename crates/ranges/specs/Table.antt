-- 01, 'Units and ranges': the table, a line for each quantity, in its order; then the ranges that 'Records' and 'Ticket' add, and 02's.
use Rattle.std.specs.Prelude.{Bool, ℕ, ℤ, pos, neg_ℤ}
use Rattle.ranges.specs.Within.{within, within_signed}

-- prover and meter temperature, 0.1 °F
unfoldable pub temperature_ok : ℤ → Bool
temperature_ok = within_signed (neg_ℤ (pos 200)) (pos 2000)

-- water draw: the prover's temperature, 0.1 °F
unfoldable pub draw_prover_ok : ℤ → Bool
draw_prover_ok = within_signed (pos 350) (pos 1050)

-- water draw: the measure's temperature, 0.1 °F
unfoldable pub draw_measure_ok : ℤ → Bool
draw_measure_ok = within_signed (pos 321) (pos 1050)

-- pressure, psi gage
unfoldable pub pressure_ok : ℕ → Bool
pressure_ok = within 0 1500

-- cubical coefficient, 10^-7 per °F
unfoldable pub coefficient_ok : ℕ → Bool
coefficient_ok = within 100 400

-- modulus E, psi
unfoldable pub modulus_ok : ℕ → Bool
modulus_ok = within 10000000 40000000

-- inside diameter ID, 0.001 inch
unfoldable pub diameter_ok : ℕ → Bool
diameter_ok = within 1000 60000

-- wall WT, 0.001 inch
unfoldable pub wall_ok : ℕ → Bool
wall_ok = within 100 3000

-- compressibility F, 10^-8 per psi
unfoldable pub compressibility_ok : ℕ → Bool
compressibility_ok = within 0 10000

-- CTL, 0.0001
unfoldable pub ctl_ok : ℕ → Bool
ctl_ok = within 5000 15000

-- run factor, 0.0001
unfoldable pub run_factor_ok : ℕ → Bool
run_factor_ok = within 8000 12000

-- CTDW, 0.000001
unfoldable pub ctdw_ok : ℕ → Bool
ctdw_ok = within 980000 1020000

-- base and indicated volume, 0.0001 barrel
unfoldable pub volume_ok : ℕ → Bool
volume_ok = within 1 100000000

-- pulses, 0.001 pulse (02, 'Longer run records'); of whole ones that is 01's 1 to 100,000,000
unfoldable pub pulses_ok : ℕ → Bool
pulses_ok = within 1000 100000000000

-- K factor, 0.001 pulse per barrel
unfoldable pub k_factor_ok : ℕ → Bool
k_factor_ok = within 1 1000000000

-- repeatability limit, 1 in 10,000
unfoldable pub limit_ok : ℕ → Bool
limit_ok = within 1 100

-- runs in a job
unfoldable pub runs_ok : ℕ → Bool
runs_ok = within 5 20

-- passes in a draw
unfoldable pub passes_ok : ℕ → Bool
passes_ok = within 3 20

-- 02: passes in a draw of a bidirectional prover
unfoldable pub paired_passes_ok : ℕ → Bool
paired_passes_ok = within 6 20

-- fills in a draw
unfoldable pub fills_ok : ℕ → Bool
fills_ok = within 3 60

-- 'Records', the fill: certified volume, 0.01 cubic inch
unfoldable pub certified_ok : ℕ → Bool
certified_ok = within 20000 100000000

-- 'Records', the fill: scale reading, 0.01 cubic inch
unfoldable pub scale_ok : ℤ → Bool
scale_ok = within_signed (neg_ℤ (pos 10000)) (pos 10000)

-- 'Ticket': a meter's reading, 0.01 barrel
unfoldable pub reading_ok : ℕ → Bool
reading_ok = within 0 99999999

-- 'Ticket': the supplied meter factor, 0.0001
unfoldable pub meter_factor_ok : ℕ → Bool
meter_factor_ok = within 8000 12000

-- 'Ticket': sediment and water S, 0.001 %
unfoldable pub sediment_ok : ℕ → Bool
sediment_ok = within 0 100000

-- 02, 'Look up compressibility': API gravity, 0.1 °API
unfoldable pub gravity_ok : ℕ → Bool
gravity_ok = within 0 900

-- 02, the same: records of a table
unfoldable pub entries_ok : ℕ → Bool
entries_ok = within 1 4096

-- 02, 'Longer run records': records of a file to be moved
unfoldable pub moved_ok : ℕ → Bool
moved_ok = within 1 4096
