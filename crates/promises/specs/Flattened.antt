-- The C face loses nothing: two answers of the library that flatten to the same struct are the same answer.
use Rattle.std.specs.Prelude.{◌≡◌, List, ℕ, Result}
use Rattle.refusals.specs.Told.{Told}
use Rattle.api.specs.Flat.{flat_factor, flat_report, flat_run, flat_fill, flat_passes, flat_draw, flat_volumes, flat_live, flat_panel, flat_entry, flat_moved, flat_done, flat_taken, flat_commons, flat_quotient}
use Rattle.refusals.specs.declared.Refusal.{Refusal}
use Rattle.refusals.specs.Answered.{told}
use Rattle.exact.specs.declared.QuotientError.{QuotientError}
use Rattle.draw.specs.Volumes.{counted, held}
use Rattle.draw.specs.declared.DrawVolumes.{DrawVolumes}
use Rattle.api.specs.declared.water.EndakuroPasses.{EndakuroPasses}

abbrev pub LosesNothing : {A F : Type 0} → (Told A → F) → Type 0
LosesNothing {A} flat = (a b : Result A Refusal) → flat (told a) ≡ flat (told b) → a ≡ b

-- a draw's volumes, as the exports flatten what is answered of them
abbrev pub flat_found : Told DrawVolumes → EndakuroPasses
flat_found t = flat_passes (counted t) (held t)

pub record Flattened : Type 0 where
  pub factor_loses_nothing : LosesNothing flat_factor
  pub report_loses_nothing : LosesNothing flat_report
  pub run_loses_nothing : LosesNothing flat_run
  pub fill_loses_nothing : LosesNothing flat_fill
  pub volumes_lose_nothing : LosesNothing flat_found
  -- whatever count and volumes are flattened
  pub passes_lose_nothing : (a b : Result ℕ Refusal) (v w : List ℕ) → flat_passes (told a) v ≡ flat_passes (told b) w → (a ≡ b) × (v ≡ w)
  pub draw_loses_nothing : LosesNothing flat_draw
  pub ticket_loses_nothing : LosesNothing flat_volumes
  pub live_loses_nothing : LosesNothing flat_live
  pub panel_loses_nothing : LosesNothing flat_panel
  pub look_up_loses_nothing : LosesNothing flat_entry
  pub moved_loses_nothing : LosesNothing flat_moved
  pub change_loses_nothing : LosesNothing flat_done
  pub take_loses_nothing : LosesNothing flat_taken
  pub commons_lose_nothing : LosesNothing flat_commons
  pub quotient_loses_nothing : (a b : Result ℕ QuotientError) → flat_quotient a ≡ flat_quotient b → a ≡ b
