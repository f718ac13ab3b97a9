-- The C face loses nothing: what was flattened is read back, and a number of 0 means done, since no refusal has it.
use Rattle.std.specs.Prelude.{Result, Ok, Err}
use mathlib.Core.Path.{◌≡◌, refl, sym, ap, ◌∙◌}
use mathlib.Core.List.{[]}
use Rattle.refusals.specs.Told.{Told, done, refused}
use Rattle.refusals.proofs.Laws.{not-zero, told_one}
use Rattle.octets.specs.Records.{zeros_after}
use Rattle.draw.specs.declared.DrawVolumes.{DrawVolumes}
use Rattle.api.specs.Flat.{flat_passes}
use Rattle.api.specs.declared.quotients.EndakuroQuotient.{EndakuroQuotient}
use Rattle.api.specs.declared.water.EndakuroPasses.{EndakuroPasses}
use Rattle.promises.specs.FlatEnding.{Flat, by_kind, passes_in}
use Rattle.promises.specs.Flattened.{LosesNothing, flat_found, Flattened}
use Rattle.promises.proofs.FlatEndings.{held, ReadBack, factor_back, report_back, run_back, fill_back, passes_back, volumes_back, draw_back, ticket_back, live_back, panel_back, entry_back, moved_back, change_back, take_back, commons_back, quotient_back}
use Rattle.refusals.specs.declared.Refusal.{Refusal}
use Rattle.refusals.specs.Answered.{told}

-- what is told is done, or refused with a number that is not 0
abbrev Numbered : {A : Type 0} → Told A → Type 0
Numbered (done values) = Unit {0}
Numbered (refused number at) = number ≡ 0 → ⊥

-- what a struct holds fixes what was told
held_one : {A : Type 0} (zeros : A) (t u : Told A) → Numbered t → Numbered u → held zeros t ≡ held zeros u → t ≡ u
held_one zeros (done x) (done y) p q is = λ i. done (is i).values
held_one zeros (done x) (refused n a) p q is = absurd (q (λ i. (sym is i).number))
held_one zeros (refused n a) (done y) p q is = absurd (p (λ i. (is i).number))
held_one zeros (refused n a) (refused m b) p q is = λ i. refused (is i).number (is i).at

numbered : {A : Type 0} (a : Result A Refusal) → Numbered (told a)
numbered (Ok x) = tt
numbered (Err why) = not-zero why

-- so a flattening that is read back loses nothing of an answer
module _ {A F : Type 0} {zeros : A} {flat : Told A → F} {read : F → Flat A} (back : ReadBack zeros flat read) where
  loses_nothing : LosesNothing flat
  loses_nothing a b is = told_one a b (held_one zeros (told a) (told b) (numbered a) (numbered b) (sym (back.same (told a)) ∙ ap read is ∙ back.same (told b)))

-- a draw's volumes are read back with their count
abbrev found_in : EndakuroPasses → Flat DrawVolumes
found_in f = record { number = f.number; at = f.at; values = record { count = f.count; volumes = f.volumes } }

abbrev none_found : DrawVolumes
none_found = record { count = 0; volumes = zeros_after 20 [] }

found_same : (t : Told DrawVolumes) → found_in (flat_found t) ≡ held none_found t
unfolding flat_passes
found_same (done found) = refl
found_same (refused number at) = refl

found_back : ReadBack none_found flat_found found_in
found_back = record { same = found_same }

pub flattened : Flattened
flattened =
    record {
      factor_loses_nothing = loses_nothing factor_back;
      report_loses_nothing = loses_nothing report_back;
      run_loses_nothing = loses_nothing run_back;
      fill_loses_nothing = loses_nothing fill_back;
      volumes_lose_nothing = loses_nothing found_back;
      passes_lose_nothing = λ a b v w is. (
        told_one a b (held_one 0 _ _ (numbered a) (numbered b) (sym ((passes_back v).same (told a)) ∙ ap passes_in is ∙ (passes_back w).same (told b))),
        sym (volumes_back (told a) v refl) ∙ volumes_back (told b) w is,
      );
      draw_loses_nothing = loses_nothing draw_back;
      ticket_loses_nothing = loses_nothing ticket_back;
      live_loses_nothing = loses_nothing live_back;
      panel_loses_nothing = loses_nothing panel_back;
      look_up_loses_nothing = loses_nothing entry_back;
      moved_loses_nothing = loses_nothing moved_back;
      change_loses_nothing = loses_nothing change_back;
      take_loses_nothing = loses_nothing take_back;
      commons_lose_nothing = loses_nothing commons_back;
      quotient_loses_nothing = λ a b is. sym (quotient_back a) ∙ ap (λ (f : EndakuroQuotient). by_kind f.kind f.value) is ∙ quotient_back b;
    }
