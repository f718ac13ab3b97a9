-- Agreements by figures, each computed.
use mathlib.Core.Path.{refl}
use Rattle.octets.specs.FirstToLast.{first_to_last}
use Rattle.octets.specs.Lists.{is_one_of}
use Rattle.octets.specs.Octets.{is_zero_at, zero_between}
use Rattle.book.specs.Line.{waiting, line_of, are_proper}
use Rattle.book.specs.Figures.{shippers, over_shippers, reserve_in, ceiling_in, places, reserve, ceiling, commons, line_at, waiting_of, has, held, beyond, commons_used, put, default_figures, empty_book}
use Rattle.book.specs.Rules.{is_share, is_share_at, are_shares, keep_rules}
use Rattle.book.specs.Sound.{is_line_sound, is_sound_at, are_lines_sound, is_sound}
use Rattle.book.specs.Calls.{call_fault, has_room, entry_fault, request_fault, request_of, entered, after_request, setting_fault, setting_of, agreed, after_setting, commons_of}
use Rattle.promises.specs.Figures.{sent}
use Rattle.promises.specs.OwnFigures.{figures_of, new_with, third_of1, set_new, OwnFigures}

pub own_figures : OwnFigures
unfolding first_to_last is_one_of is_zero_at zero_between waiting line_of are_proper shippers over_shippers reserve_in ceiling_in places reserve ceiling commons line_at waiting_of has held beyond commons_used put default_figures empty_book is_share is_share_at are_shares keep_rules is_line_sound is_sound_at are_lines_sound is_sound call_fault has_room entry_fault request_fault request_of entered after_request setting_fault setting_of agreed after_setting commons_of sent figures_of new_with third_of1 set_new
own_figures =
    record {
      below_its_ceiling = refl;
      at_its_ceiling = refl;
      below_its_reserve = refl;
      at_its_reserve = refl;
      one_shared = refl;
      thirteen = refl;
      fourteenth = refl;
      own_place_kept = refl;
      second_is_full = refl;
      reserve_13 = refl;
      reserve_14 = refl;
      reserve_0 = refl;
      ceiling_is_reserve = refl;
      ceiling_below_reserve = refl;
      ceiling_17 = refl;
      sixteen = refl;
      seventeen = refl;
      waiting_first = refl;
      unsound_first = refl;
    }
