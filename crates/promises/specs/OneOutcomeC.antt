-- One outcome for each function of the C face that takes no book by pointer; those that do are in InPlaceC.antt.
use Rattle.api.proofs.corrections.endakuro_cts_four.Reads as cts-four
use Rattle.api.proofs.corrections.endakuro_cts_six.Reads as cts-six
use Rattle.api.proofs.corrections.endakuro_cps_four.Reads as cps-four
use Rattle.api.proofs.corrections.endakuro_cps_six.Reads as cps-six
use Rattle.api.proofs.corrections.endakuro_cpl_four.Reads as cpl-four
use Rattle.api.proofs.corrections.endakuro_cpl_six.Reads as cpl-six
use Rattle.api.proofs.quotients.endakuro_rounded_ratio.Reads as ratio
use Rattle.api.proofs.jobs.endakuro_prove.Reads as prove
use Rattle.api.proofs.jobs.endakuro_accept.Reads as accept
use Rattle.api.proofs.jobs.endakuro_run.Reads as a-run
use Rattle.api.proofs.jobs.endakuro_prove_long.Reads as prove-long
use Rattle.api.proofs.jobs.endakuro_accept_long.Reads as accept-long
use Rattle.api.proofs.jobs.endakuro_run_long.Reads as a-long-run
use Rattle.api.proofs.moves.endakuro_forward.Reads as forward
use Rattle.api.proofs.moves.endakuro_back.Reads as back
use Rattle.api.proofs.reports.endakuro_write.Reads as write
use Rattle.api.proofs.reports.endakuro_read.Reads as read
use Rattle.api.proofs.water.endakuro_fill.Reads as fill
use Rattle.api.proofs.water.endakuro_passes.Reads as passes
use Rattle.api.proofs.water.endakuro_trips.Reads as trips
use Rattle.api.proofs.water.endakuro_draw.Reads as draw
use Rattle.api.proofs.water.endakuro_bidirectional.Reads as bidirectional
use Rattle.api.proofs.tickets.endakuro_ticket.Reads as ticket
use Rattle.api.proofs.readings.endakuro_live.Reads as live
use Rattle.api.proofs.readings.endakuro_channels.Reads as channels
use Rattle.api.proofs.panel.endakuro_panel_temperature.Reads as panel-temperature
use Rattle.api.proofs.panel.endakuro_panel_pressure.Reads as panel-pressure
use Rattle.api.proofs.lookups.endakuro_look_up.Reads as look_up
use Rattle.api.proofs.books.endakuro_empty.Reads as empty
use Rattle.promises.specs.Arguments.{second, fifth, sixth}
use Rattle.promises.specs.Outcome.{OneAnswer, OneLeft}

pub record OneOutcomeC : Type 0 where
  pub cts_four_one : OneAnswer cts-four.Pre cts-four.Post
  pub cts_six_one : OneAnswer cts-six.Pre cts-six.Post
  pub cps_four_one : OneAnswer cps-four.Pre cps-four.Post
  pub cps_six_one : OneAnswer cps-six.Pre cps-six.Post
  pub cpl_four_one : OneAnswer cpl-four.Pre cpl-four.Post
  pub cpl_six_one : OneAnswer cpl-six.Pre cpl-six.Post
  pub ratio_one : OneAnswer ratio.Pre ratio.Post
  pub prove-one : OneAnswer prove.Pre prove.Post
  -- and the bytes left in its buffer
  pub prove-left : OneLeft prove.Post (λ κ x. (sixth x).now)
  pub accept_one : OneAnswer accept.Pre accept.Post
  pub run_one : OneAnswer a-run.Pre a-run.Post
  pub prove-long-one : OneAnswer prove-long.Pre prove-long.Post
  pub prove-long-left : OneLeft prove-long.Post (λ κ x. (sixth x).now)
  pub accept_long_one : OneAnswer accept-long.Pre accept-long.Post
  pub run_long_one : OneAnswer a-long-run.Pre a-long-run.Post
  pub forward_one : OneAnswer forward.Pre forward.Post
  pub forward_left : OneLeft forward.Post (λ κ x. (second x).now)
  pub back_one : OneAnswer back.Pre back.Post
  pub back_left : OneLeft back.Post (λ κ x. (second x).now)
  pub write_one : OneAnswer write.Pre write.Post
  -- and the bytes left in its buffer
  pub write_left : OneLeft write.Post (λ κ x. (fifth x).now)
  pub read_one : OneAnswer read.Pre read.Post
  pub fill_one : OneAnswer fill.Pre fill.Post
  pub passes_one : OneAnswer passes.Pre passes.Post
  pub trips_one : OneAnswer trips.Pre trips.Post
  pub draw_one : OneAnswer draw.Pre draw.Post
  pub bidirectional_one : OneAnswer bidirectional.Pre bidirectional.Post
  pub ticket_one : OneAnswer ticket.Pre ticket.Post
  pub live_one : OneAnswer live.Pre live.Post
  pub channels_one : OneAnswer channels.Pre channels.Post
  pub panel_temperature_one : OneAnswer panel-temperature.Pre panel-temperature.Post
  pub panel_pressure_one : OneAnswer panel-pressure.Pre panel-pressure.Post
  pub look_up_one : OneAnswer look_up.Pre look_up.Post
  pub empty_one : OneAnswer empty.Pre empty.Post
