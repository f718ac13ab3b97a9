-- Places by agreement, of the code on each of its faces: the book's laws of any sound book, and what a setting is answered.
use mathlib.Core.Path.{◌≡◌, sym, ap, ◌∙◌}
use mathlib.Core.Bool.{true, false, and-false}
use Prim.Native.Nat.{ℕ, ◌<◌}
use native.Mathlib.Omega.{arith}
use borrow.Author.Tests.{lt-ltb}
use lib.Dec.{eqb}
use lib.ListN.{length}
use Rattle.refusals.specs.Told.{refused}
use Rattle.book.specs.Figures.{shippers, over_shippers, places, reserve, ceiling, commons, has}
use Rattle.book.specs.Rules.{keep_rules}
use Rattle.book.specs.Sound.{is_sound}
use Rattle.book.specs.Calls.{setting_fault, setting_of, agreed, after_setting}
use Rattle.book.specs.Demand3.{request, setting, Answer, answer_to, after}
use Rattle.book.specs.declared.Book.{Book}
use Rattle.book.specs.declared.Figures.{Figures}
use Rattle.book.proofs.Agreed.{agreed_is}
use Rattle.book.proofs.Books.{sound_is}
use Rattle.book.proofs.Demand3 as book
use Rattle.promises.specs.Sessions.{Contracts, about, about_none, AsMeant}
use Rattle.promises.specs.Demand3.{ValidNew, went_in}
use Rattle.promises.specs.Agreement.{Places, Agreement, AgreementOnEachFace}
use Rattle.promises.proofs.Demand1.{setting_leaves_book}
use Rattle.promises.proofs.Demand3.{answered, whether_is, sound_reached}
use Rattle.promises.proofs.Sessions.{about_judged, sessions}

places_of : (found : Book) → is_sound found ≡ true → Places found
unfolding reserve ceiling commons places over_shippers
places_of found sound =
    let rules = agreed_is found.figures (sound_is found sound).rules in
    let sum = rules.sum in
    record {
      reserve_1_to_13 = λ shipper known. let share = rules.each shipper known in (share.some, share.most);
      ceiling_to_16 = λ shipper known. let share = rules.each shipper known in (share.own, share.narrow);
      at_most_16 = sum;
      rest_of_16 = omega arith;
    }

not_sound : (found : Book) → keep_rules found.figures ≡ false → is_sound found ≡ false
unfolding is_sound
not_sound found outside = rw outside (and-false (eqb (length found.lines) shippers))

module _ (does : Contracts) (meant : AsMeant does) where
  -- a setting's answer and the book that it leaves, of their meanings
  module _ {figures : Figures} {found left : Book} {answer : Answer} (did : does (setting figures) found answer left) where
    set_answered : answer ≡ about_none (setting_of found figures)
    unfolding answer_to setting_of
    set_answered = (meant.each_call (setting figures) found answer left did).0 ∙ sym (about_judged 0 0 (setting_fault found figures))

    left_is : left ≡ after_setting found figures
    unfolding after
    left_is = (meant.each_call (setting figures) found answer left did).1

    -- refused, and nothing has changed
    set_refused : {n at : ℕ} → setting_of found figures ≡ refused n at → (answer ≡ refused n at) × (left ≡ found)
    set_refused is = (set_answered ∙ ap about_none is, left_is ∙ setting_leaves_book found figures is)

  goes_in : (found left : Book) (shipper number : ℕ) (answer : Answer) → is_sound found ≡ true → shipper < 4 → has found shipper < reserve found shipper → ValidNew found shipper number
      → does (request shipper number) found answer left → answer ≡ went_in shipper number
  goes_in found left shipper number answer sound known few new did =
      answered does meant did ∙ ap (about shipper number) (book.below_the_reserve_goes_in found sound shipper known number new.valid new.new few)

  agreement : Agreement does
  unfolding shippers agreed
  agreement =
      record {
        figures_keep_the_rules = places_of;
        outside_is_not_sound = not_sound;
        below_its_reserve_goes_in = λ found left shipper number answer reached. goes_in found left shipper number answer (sound_reached does meant found reached);
        reserves_are_never_eaten = goes_in;
        refused_only_when_commons_used = λ found left shipper number n at reached known many below new did.
            let sound = sound_reached does meant found reached in
            let refusal = sym (whether_is does meant did) in (
              book.refused_is_25 found sound shipper known number new.valid new.new below n at refusal,
              book.refused_only_when_commons_full found sound shipper known number new.valid new.new below n at refusal,
            );
        never_above_its_ceiling = λ found shipper reached known. book.never_above_the_ceiling found (sound_reached does meant found reached) shipper known;
        never_more_than_13 = λ found shipper reached known. book.never_above_13 found (sound_reached does meant found reached) shipper known;
        request_depends_on = λ found other left left' shipper shipper' number answer answer' sound sound' known known' line own top used did did'.
            whether_is does meant did ∙ book.request_depends_on found other shipper shipper' number sound sound' (lt-ltb shipper 4 known ∙ sym (lt-ltb shipper' 4 known')) line own top used
            ∙ sym (whether_is does meant did');
        set_on_an_empty_book = λ found left figures answer sound empty rules did.
            let now = left_is did ∙ book.setting_leaves found figures sound empty rules in (
              set_answered did ∙ ap about_none (book.setting_made found figures sound empty rules),
              ap (λ (b : Book). b.figures) now,
              ap (λ (b : Book). b.last) now,
              ap (λ (b : Book). b.lines) now,
            );
        unsound_is_20 = λ found left figures answer unsound did. set_refused did (book.setting_20 found figures unsound);
        waiting_is_30 = λ found left figures answer sound any did. set_refused did (book.setting_30 found figures sound (λ empty. omega arith));
        outside_is_31 = λ found left figures answer sound empty outside did. set_refused did (book.setting_31 found figures sound empty outside);
      }

pub agreement_on_each_face : AgreementOnEachFace
agreement_on_each_face = record { by_value = agreement _ sessions.by_value; in_place = agreement _ sessions.in_place; from_c = agreement _ sessions.from_c }
