-- The figures of interpolated counts, each computed.
use mathlib.Core.Path.{refl}
use Rattle.ranges.specs.Table.{temperature_ok, pressure_ok, coefficient_ok, modulus_ok, diameter_ok, wall_ok, compressibility_ok, ctl_ok, run_factor_ok, volume_ok, pulses_ok, k_factor_ok, limit_ok, runs_ok, moved_ok}
use Rattle.exact.specs.Rounding.{rounded_div, rounded}
use Rattle.octets.specs.Octets.{number_at, word_at, long_at, quad_at, signed_of, signed_at, is_zero_at, zero_between, bytes_of}
use Rattle.octets.specs.Records.{records_in, are_records, joined}
use Rattle.octets.specs.FirstToLast.{first_to_last, place_if}
use Rattle.group.specs.Listed.{listed}
use Rattle.group.specs.Repeatability.{smallest, largest, qualifies, group_at, qualifies_at, first_group}
use Rattle.factors.specs.Metal.{metal_ok}
use Rattle.factors.specs.Prover.{pipe_ok, prover_ok}
use Rattle.factors.specs.Liquid.{liquid_ok, cpl_from}
use Rattle.factors.specs.Rounded.{cts_at, cps_at, cpl_at, combined_at, corrected_at}
use Rattle.factors.specs.Fractions.{cts, cps, cpl, combined}
use Rattle.run.specs.Record.{fields_from, run_from, run_at, side_ok, run_ok, unnamed_ok}
use Rattle.run.specs.Figures.{indicated, steel_cts, steel_cps, corrected_by, at_prover, at_meter, figures_from, figures_of}
use Rattle.run.specs.Answers.{record_fault, figures_fault}
use Rattle.proving.specs.Judging.{run_fault, settings_fault, input_fault}
use Rattle.proving.specs.Job.{factor_at, factors_of, first_five, found_of}
use Rattle.moving.specs.Judging.{lengths_ok, is_whole, move_fault, move_faults, move_of}
use Rattle.promises.specs.Figures.{prover}
use Rattle.promises.specs.InterpolatedFigures.{long_record, runs_of, InterpolatedFigures}

pub interpolated_figures : InterpolatedFigures
unfolding prover long_record runs_of temperature_ok pressure_ok coefficient_ok modulus_ok diameter_ok wall_ok compressibility_ok ctl_ok run_factor_ok volume_ok pulses_ok k_factor_ok limit_ok runs_ok moved_ok rounded_div rounded number_at word_at long_at quad_at signed_of signed_at is_zero_at zero_between bytes_of records_in are_records joined first_to_last place_if listed smallest largest qualifies group_at qualifies_at first_group metal_ok pipe_ok prover_ok liquid_ok cpl_from cts_at cps_at cpl_at combined_at corrected_at cts cps cpl combined fields_from run_from run_at side_ok run_ok unnamed_ok indicated steel_cts steel_cps corrected_by at_prover at_meter figures_from figures_of record_fault figures_fault run_fault settings_fault input_fault factor_at factors_of first_five found_of lengths_ok is_whole move_fault move_faults move_of
interpolated_figures = record { job = refl; not_back = refl; back = refl; buffer = refl; no_records = refl; nothing = refl }
