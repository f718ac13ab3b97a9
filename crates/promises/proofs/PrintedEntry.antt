-- Each figure by computing.
use mathlib.Core.Path.{refl}
use Rattle.exact.specs.Rounding.{rounded_div}
use Rattle.ranges.specs.Table.{temperature_ok, compressibility_ok, gravity_ok, entries_ok}
use Rattle.octets.specs.Octets.{number_at, word_at, signed_of, signed_at, bytes_of}
use Rattle.octets.specs.FirstToLast.{first_to_last, place_if}
use Rattle.octets.specs.Records.{records_in, are_records}
use Rattle.lookup.specs.HalfDegree.{half_degree, half_degree_signed, on_half_degree, on_half_degree_signed}
use Rattle.lookup.specs.Table.{entry_from, entry_at, entry_ok, record_ok, follows, order_ok}
use Rattle.lookup.specs.Pair.{asked_ok, has_pair}
use Rattle.lookup.specs.Answers.{entry_fault, table_fault, found_in, look_up_of}
use Rattle.promises.specs.PrintedEntry.{PrintedEntry, entry_bytes, printed, around_zero, corners, again}

pub printed_entry : PrintedEntry
unfolding entry_bytes printed around_zero corners again look_up_of found_in table_fault entry_fault asked_ok has_pair follows order_ok record_ok entry_ok entry_at entry_from on_half_degree_signed on_half_degree half_degree_signed half_degree rounded_div temperature_ok compressibility_ok gravity_ok entries_ok are_records records_in first_to_last place_if number_at word_at signed_of signed_at bytes_of
printed_entry =
    record {
      example = refl;
      just_below = refl;
      just_above = refl;
      colder = refl;
      warmer = refl;
      figure_5_prover = refl;
      figure_5_meter = refl;
      figure_6_prover = refl;
      figure_6_meter = refl;
      below-zero = refl;
      at_zero = refl;
      least = refl;
      most = refl;
      too_cold = refl;
      too_warm = refl;
      too_light = refl;
      not_at_101 = refl;
      not_of_205 = refl;
      no_record = refl;
      not_whole = refl;
      twice = refl;
      twice_first = refl;
      twice_before_none = refl;
      range_before_none = refl;
      gravity_first = refl;
      gravity_falls = refl;
      off_the_half = refl;
      gravity_off_the_half = refl;
      record_too_warm = refl;
      record_too_light = refl;
      f_too_large = refl;
      last_bytes = refl;
    }
