-- Round trips by figures, each computed.
use mathlib.Core.Path.{refl}
use Rattle.ranges.specs.Table.{draw_prover_ok, draw_measure_ok, pressure_ok, coefficient_ok, modulus_ok, diameter_ok, wall_ok, ctdw_ok, passes_ok, paired_passes_ok, fills_ok, certified_ok, scale_ok}
use Rattle.exact.specs.Rounding.{rounded_div, rounded}
use Rattle.exact.specs.Words.{sum_of}
use Rattle.octets.specs.Octets.{number_at, byte_at, word_at, long_at, signed_of, signed_at, is_zero_at, zero_between, bytes_of}
use Rattle.octets.specs.Records.{records_in, are_records}
use Rattle.octets.specs.FirstToLast.{first_to_last, place_if}
use Rattle.group.specs.Mean.{mean_of}
use Rattle.group.specs.Listed.{listed}
use Rattle.group.specs.Repeatability.{smallest, largest, qualifies, group_at, qualifies_at, first_group}
use Rattle.factors.specs.Metal.{metal_ok}
use Rattle.factors.specs.Prover.{pipe_ok}
use Rattle.factors.specs.Liquid.{cpl_from}
use Rattle.factors.specs.Rounded.{cts_at, cps_at, cpl_at}
use Rattle.factors.specs.Fractions.{cts, cps, cpl}
use Rattle.draw.specs.Fill.{fill_from, fill_at, fill_ok, unnamed_ok, follows, rule_ok}
use Rattle.draw.specs.Drawn.{adjusted, measure_cts, prover_cts, ccts, drawn as drawn_by}
use Rattle.draw.specs.Passes.{pass_count, is_of, drawn_for, pass_sum, pass_pressure, water_at, corrected_volume, pass_volume}
use Rattle.draw.specs.Profile.{passes_fit, out_pass, back_pass, trip_volume, volume_count, volume_of, first_pass, volumes_of}
use Rattle.draw.specs.Base.{barrels_of, base_from, base_of}
use Rattle.draw.specs.Answers.{record_fault, fill_fault, fills_fault, draw_fault, draw_of}
use Rattle.promises.specs.Figures.{fill_bytes, drawn}
use Rattle.promises.specs.OutAndBack.{source_fill, source_odd, source, plain_pass, three_from, stray_trip, OutAndBack}

pub out_and_back : OutAndBack
unfolding fill_bytes drawn draw_prover_ok draw_measure_ok pressure_ok coefficient_ok modulus_ok diameter_ok wall_ok passes_ok paired_passes_ok fills_ok certified_ok scale_ok ctdw_ok rounded_div rounded sum_of number_at byte_at word_at long_at signed_of signed_at is_zero_at zero_between bytes_of records_in are_records first_to_last place_if mean_of listed smallest largest qualifies group_at qualifies_at first_group metal_ok pipe_ok cpl_from cts_at cps_at cpl_at cts cps cpl fill_from fill_at fill_ok unnamed_ok follows rule_ok adjusted measure_cts prover_cts ccts drawn_by pass_count is_of drawn_for pass_sum pass_pressure water_at corrected_volume pass_volume passes_fit out_pass back_pass trip_volume volume_count volume_of first_pass volumes_of barrels_of base_from base_of record_fault fill_fault fills_fault draw_fault draw_of source_fill source_odd source plain_pass three_from stray_trip
out_and_back =
    record {
      source_trips = refl;
      source_base = refl;
      source_one_way = refl;
      odd_count = refl;
      odd_behind_three = refl;
      four_passes = refl;
      at_the_limit = refl;
      past_the_limit = refl;
      from_pass_3 = refl;
      two_pressures = refl;
      record_first = refl;
    }
