-- The paper's figures, each computed.
use mathlib.Core.Path.{refl}
use lib.Ieee.{of_bits, of_int, div}
use Rattle.ranges.specs.Table.{temperature_ok, draw_prover_ok, draw_measure_ok, pressure_ok, coefficient_ok, modulus_ok, diameter_ok, wall_ok, compressibility_ok, ctl_ok, ctdw_ok, run_factor_ok, volume_ok, pulses_ok, k_factor_ok, runs_ok}
use Rattle.ranges.specs.Table.{passes_ok, fills_ok, certified_ok, scale_ok, reading_ok, meter_factor_ok, sediment_ok}
use Rattle.exact.specs.Rounding.{rounded_div, rounded}
use Rattle.exact.specs.Words.{sum_of}
use Rattle.octets.specs.Octets.{number_at, byte_at, word_at, long_at, signed_of, signed_at, is_zero_at, zero_between, bytes_of}
use Rattle.octets.specs.Records.{records_in, are_records}
use Rattle.octets.specs.FirstToLast.{first_to_last, place_if}
use Rattle.group.specs.Mean.{mean_of}
use Rattle.group.specs.Listed.{listed}
use Rattle.group.specs.Repeatability.{smallest, largest, qualifies, group_at, qualifies_at, first_group}
use Rattle.factors.specs.Metal.{metal_ok}
use Rattle.factors.specs.Prover.{pipe_ok, prover_ok}
use Rattle.factors.specs.Liquid.{liquid_ok, cpl_from}
use Rattle.factors.specs.Rounded.{cts_at, cps_at, cpl_at, combined_at, corrected_at}
use Rattle.factors.specs.Fractions.{cts, cps, cpl, combined}
use Rattle.factors.specs.Answers.{cts_of, cps_of, cpl_of}
use Rattle.run.specs.Record.{side_ok, run_ok}
use Rattle.run.specs.Figures.{indicated as indicated_by, steel_cts, steel_cps, corrected_by, at_prover, at_meter, figures_from, figures_of as run_figures}
use Rattle.run.specs.Answers.{given_fault, figures_fault, figures_told, worked_of}
use Rattle.report.specs.Record.{list_of, fields_of, bytes_of_report}
use Rattle.report.specs.Judged.{factors_ok, first_ok, job_ok, report_ok, is_report, report_of, write_of, read_of}
use Rattle.proving.specs.Job.{five_at}
use Rattle.draw.specs.Fill.{fill_from, fill_at, fill_ok, unnamed_ok, follows, rule_ok}
use Rattle.draw.specs.Drawn.{adjusted, measure_cts, prover_cts, ccts, drawn as drawn_by, figures_of as fill_figures}
use Rattle.draw.specs.Passes.{pass_count, is_of, drawn_for, pass_sum, pass_pressure, water_at, corrected_volume, pass_volume}
use Rattle.draw.specs.Profile.{passes_fit, volume_count, volume_of, first_pass, volumes_of}
use Rattle.draw.specs.Base.{barrels_of, base_from, base_of}
use Rattle.draw.specs.Answers.{record_fault, fill_fault, fills_fault, draw_fault, fill_of, draw_of}
use Rattle.ticket.specs.Ranges.{ticket_ok}
use Rattle.ticket.specs.Formulas.{indicated, factor, gross, net}
use Rattle.ticket.specs.Answers.{volumes, ticket_of}
use Rattle.live.specs.Exact.{numerator, denominator}
use Rattle.live.specs.Rounding.{away_from_zero}
use Rattle.live.specs.Live.{whole_of, single_of, temperature_of, psi_ok, pressure_of, live_of}
use Rattle.live.specs.Panel.{cast, tenth, panel_temperature_of, panel_pressure_of}
use Rattle.octets.specs.Lists.{is_one_of}
use Rattle.book.specs.Line.{waiting, line_of, are_proper}
use Rattle.book.specs.Figures.{shippers, over_shippers, reserve_in, ceiling_in, places, reserve, ceiling, commons, line_at, waiting_of, has, beyond, commons_used, put, default_figures, empty_book}
use Rattle.book.specs.Rules.{is_share, is_share_at, are_shares, keep_rules}
use Rattle.book.specs.Sound.{is_line_sound, is_sound_at, are_lines_sound, is_sound}
use Rattle.book.specs.Calls.{call_fault, has_room, entry_fault, request_fault, request_of, entered, after_request}
use Rattle.promises.specs.Figures.{prover, interpolated, run, propane_prover, propane, fill_bytes, fill, six, passes, drawn, ticket, report_on, sent, Figures, Besides}

-- both tables by reckoning alone: what their figures are made of, unfolded once
reckoned : Figures × Besides
unfolding prover interpolated run propane_prover propane fill_bytes fill six passes drawn ticket report_on temperature_ok draw_prover_ok draw_measure_ok pressure_ok coefficient_ok modulus_ok diameter_ok wall_ok compressibility_ok ctl_ok ctdw_ok run_factor_ok volume_ok pulses_ok k_factor_ok runs_ok passes_ok fills_ok certified_ok scale_ok reading_ok meter_factor_ok sediment_ok rounded_div rounded sum_of number_at byte_at word_at long_at signed_of signed_at is_zero_at zero_between bytes_of records_in are_records first_to_last place_if mean_of listed smallest largest qualifies group_at qualifies_at first_group metal_ok pipe_ok prover_ok liquid_ok cpl_from cts_at cps_at cpl_at combined_at corrected_at cts cps cpl combined cts_of cps_of cpl_of side_ok run_ok indicated_by steel_cts steel_cps corrected_by at_prover at_meter figures_from run_figures given_fault figures_fault figures_told worked_of list_of fields_of bytes_of_report factors_ok first_ok job_ok report_ok is_report report_of write_of read_of five_at fill_from fill_at fill_ok unnamed_ok follows rule_ok adjusted measure_cts prover_cts ccts drawn_by fill_figures pass_count is_of drawn_for pass_sum pass_pressure water_at corrected_volume pass_volume passes_fit volume_count volume_of first_pass volumes_of barrels_of base_from base_of record_fault fill_fault fills_fault draw_fault fill_of draw_of ticket_ok indicated factor gross net volumes ticket_of numerator denominator away_from_zero whole_of single_of temperature_of psi_ok pressure_of live_of of_bits cast tenth panel_temperature_of panel_pressure_of of_int div waiting line_of is_one_of are_proper shippers over_shippers reserve_in ceiling_in default_figures is_share is_share_at are_shares keep_rules places reserve ceiling commons line_at waiting_of has beyond commons_used put empty_book is_line_sound is_sound_at are_lines_sound is_sound has_room call_fault entry_fault request_fault request_of entered after_request sent
reckoned = (
  record {
    cts_at_70 = refl;
    cts_at_50 = refl;
    cts_of_mild_steel = refl;
    cps_at_50 = refl;
    cpl_of_water = refl;
    one_run = refl;
    five_qualify = refl;
    five_mean = refl;
    may_stand = refl;
    may_not = refl;
    begins_at_run_2 = refl;
    report_for_7 = refl;
    report_read_back = refl;
    one_fill = refl;
    one_barrel = refl;
    one_ticket = refl;
    reading_73 = refl;
    reading_below_0 = refl;
    ninth = refl;
    fifth = refl;
    first = refl;
  },
  record {
    no-volume = refl;
    no_factor = refl;
    not_whole = refl;
    figure_6 = refl;
    at_equilibrium = refl;
    below_equilibrium = refl;
    first_not_tightest = refl;
    by_smallest_not_mean = refl;
    half_goes_up = refl;
    wide_mean = refl;
    buffer_first = refl;
    number_next = refl;
    report_last = refl;
    pass_volumes = refl;
    from_second = refl;
    back = refl;
    skipped = refl;
    mixed = refl;
    range_first = refl;
    two_fills = refl;
    one_pass = refl;
    equal_readings = refl;
    closing_below = refl;
    field_first = refl;
    little_below = refl;
    half_below = refl;
    minus_zero = refl;
    just_within = refl;
    temperature_first = refl;
    shown = refl;
    shown_below_zero = refl;
    shown_half = refl;
    shown_coldest = refl;
    shown_hottest = refl;
    too_cold = refl;
    too_hot = refl;
    shown_pressure = refl;
    pressed_too_far = refl;
  },
)

pub figures : Figures
figures = reckoned.0

pub besides : Besides
besides = reckoned.1
