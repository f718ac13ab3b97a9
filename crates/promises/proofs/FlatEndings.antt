-- A struct of the C face, read, is what was flattened into it: so it ends as that does, and a caller may go by its number.
use Rattle.std.specs.Prelude.{Result, Ok, Err}
use mathlib.Core.Path.{◌≡◌, refl, sym, ap, ◌∙◌, subst}
use mathlib.Core.Bool.{Bool, true, false, ◌&&◌}
use mathlib.Core.List.{List}
use Prim.Native.Nat.{ℕ, zero, suc}
use native.Mathlib.Omega.{arith}
use Rattle.refusals.specs.Told.{Told, done, refused}
use Rattle.octets.specs.Lists.{is_one_of}
use Rattle.api.specs.Flat.{number_in, record_in, values_in, no_report, no_figures, no_fill, no_base, no_volumes, no_reading, nothing_shown, no_entry, no_handout, no_commons}
use Rattle.api.specs.Flat.{flat_factor, flat_report, flat_run, flat_fill, flat_passes, flat_draw, flat_volumes, flat_live, flat_panel, flat_entry, flat_moved, flat_done, flat_taken, flat_commons, flat_quotient}
use Rattle.api.specs.declared.water.EndakuroPasses.{EndakuroPasses}
use Rattle.promises.proofs.Groups.{apart}
use Rattle.promises.specs.Ending.{record_ok, refusal_ok, Ends}
use Rattle.promises.specs.FlatEnding.{Flat, by_number, FlatEnds, LeavesAsFound, by_kind}
use Rattle.promises.specs.FlatEnding.{factor_in, report_in, run_in, fill_in, passes_in, base_in, volumes_in, reading_in, shown_in, entry_in, moved_in, change_in, handout_in, commons_in}
use Rattle.exact.specs.declared.QuotientError.TheVariants.{ZeroDivisor, TooLarge}
use Rattle.exact.specs.declared.QuotientError.{QuotientError}

-- what a struct holds of what was told
abbrev pub held : {A : Type 0} → A → Told A → Flat A
held zeros t = record { number = number_in t; at = record_in t; values = values_in zeros t }

-- a flattening that is read back
pub record ReadBack {A F : Type 0} (zeros : A) (flat : Told A → F) (read : F → Flat A) : Type 0 where
  pub same : (t : Told A) → read (flat t) ≡ held zeros t

-- 0 is on no entry's list
not_on : (there recorded : Bool) → there ≡ false → (there && recorded) ≡ true → ⊥
not_on false recorded none is = apart (sym is)
not_on true recorded none is = apart none

module _ {A : Type 0} {numbers : List ℕ} {first last : ℕ} (no_zero : is_one_of 0 numbers ≡ false) (zeros : A) where
  held_ends : (t : Told A) → Ends numbers first last t → FlatEnds numbers first last zeros (held zeros t) t
  unfolding refusal_ok
  held_ends (done x) ends = record { ends = ends; means = refl; no_record = λ _. refl; no_values = λ some. absurd (some refl) }
  held_ends (refused zero at) ends = absurd (not_on (is_one_of 0 numbers) (record_ok first last 0 at) no_zero ends.gives)
  held_ends (refused (suc n) at) ends = record { ends = ends; means = refl; no_record = λ is. absurd (omega (arith, is)); no_values = λ _. refl }

  pub flat_ends : {F : Type 0} {flat : Told A → F} {read : F → Flat A} {r : F} {t : Told A} → ReadBack zeros flat read → r ≡ flat t → Ends numbers first last t → FlatEnds numbers first last zeros (read r) t
  flat_ends {F} {flat} {read} {r} {t} back is ends = subst (λ (f : Flat A). FlatEnds numbers first last zeros f t) (sym (ap read is ∙ back.same t)) (held_ends t ends)

-- a caller goes by the number: at 0 the answer is done, at any other refused
zero_is_done : {A : Type 0} (number at : ℕ) (values : A) → number ≡ 0 → by_number number at values ≡ done values
zero_is_done zero at values is = refl
zero_is_done (suc n) at values is = absurd (omega (arith, is))

other_is_refused : {A : Type 0} (number at : ℕ) (values : A) → (number ≡ 0 → ⊥) → by_number number at values ≡ refused number at
other_is_refused zero at values some = absurd (some refl)
other_is_refused (suc n) at values some = refl

module _ {A : Type 0} {numbers : List ℕ} {first last : ℕ} {zeros : A} {f : Flat A} {meaning : Told A} (ends : FlatEnds numbers first last zeros f meaning) where
  pub done_at_zero : f.number ≡ 0 → meaning ≡ done f.values
  done_at_zero is = sym ends.means ∙ zero_is_done f.number f.at f.values is

  pub refused_at_other : (f.number ≡ 0 → ⊥) → meaning ≡ refused f.number f.at
  refused_at_other some = sym ends.means ∙ other_is_refused f.number f.at f.values some

  pub flat_leaves : {B : Type 0} {left found : B} → ((number at : ℕ) → meaning ≡ refused number at → left ≡ found) → LeavesAsFound f left found
  flat_leaves leaves some = leaves f.number f.at (refused_at_other some)

-- each struct is read back
pub factor_back : ReadBack 0 flat_factor factor_in
unfolding flat_factor
factor_back = record { same = λ t. refl }

pub report_back : ReadBack no_report flat_report report_in
unfolding flat_report
report_back = record { same = λ t. refl }

pub run_back : ReadBack no_figures flat_run run_in
unfolding flat_run
run_back = record { same = λ t. refl }

pub fill_back : ReadBack no_fill flat_fill fill_in
unfolding flat_fill
fill_back = record { same = λ t. refl }

pub passes_back : (volumes : List ℕ) → ReadBack 0 (λ t. flat_passes t volumes) passes_in
unfolding flat_passes
passes_back volumes = record { same = λ t. refl }

pub volumes_back : (t : Told ℕ) (volumes : List ℕ) {r : EndakuroPasses} → r ≡ flat_passes t volumes → r.volumes ≡ volumes
unfolding flat_passes
volumes_back t volumes is = ap (λ (f : EndakuroPasses). f.volumes) is

pub draw_back : ReadBack no_base flat_draw base_in
unfolding flat_draw
draw_back = record { same = λ t. refl }

pub ticket_back : ReadBack no_volumes flat_volumes volumes_in
unfolding flat_volumes
ticket_back = record { same = λ t. refl }

pub live_back : ReadBack no_reading flat_live reading_in
unfolding flat_live
live_back = record { same = λ t. refl }

pub panel_back : ReadBack nothing_shown flat_panel shown_in
unfolding flat_panel
panel_back = record { same = λ t. refl }

pub entry_back : ReadBack no_entry flat_entry entry_in
unfolding flat_entry
entry_back = record { same = λ t. refl }

pub moved_back : ReadBack 0 flat_moved moved_in
unfolding flat_moved
moved_back = record { same = λ t. refl }

pub change_back : ReadBack tt flat_done change_in
unfolding flat_done
change_back = record { same = λ t. refl }

pub take_back : ReadBack no_handout flat_taken handout_in
unfolding flat_taken
take_back = record { same = λ t. refl }

pub commons_back : ReadBack no_commons flat_commons commons_in
unfolding flat_commons
commons_back = record { same = λ t. refl }

pub quotient_back : (q : Result ℕ QuotientError) → by_kind (flat_quotient q).kind (flat_quotient q).value ≡ q
quotient_back (Ok q) = refl
quotient_back (Err ZeroDivisor) = refl
quotient_back (Err TooLarge) = refl

pub no_quotient : (q : Result ℕ QuotientError) → ((flat_quotient q).kind ≡ 0 → ⊥) → (flat_quotient q).value ≡ 0
no_quotient (Ok q) some = absurd (some refl)
no_quotient (Err ZeroDivisor) some = refl
no_quotient (Err TooLarge) some = refl
