-- Demand 3 of the code, on each of its faces: what a session leaves is what the book's meanings say (Sessions.antt), and of these the laws
-- of `book` hold.
use mathlib.Core.Path.{◌≡◌, refl, sym, ap, ◌∙◌, subst}
use mathlib.Core.Bool.{true}
use mathlib.Core.List.{List}
use Prim.Native.Nat.{ℕ, ◌+◌, ◌*◌}
use native.Mathlib.Omega.{arith}
use borrow.Author.Tests.{lt-ltb}
use Rattle.refusals.specs.Told.{Told, done, refused}
use Rattle.octets.specs.Lists.{is_one_of}
use Rattle.book.specs.Figures.{shippers, places, waiting_of, has, default_figures, empty_book}
use Rattle.book.specs.Sound.{is_sound}
use Rattle.book.specs.Calls.{request_fault, request_of, after_request, take_of}
use Rattle.book.specs.Demand3.{SoundEmpty, request, take, Answer, answer_to, after, after_all, Step, answers_to, NoneSet, is_going_in, is_withdrawn, is_taken, how_often, times, waits, fate_of, NoLaterThan}
use Rattle.book.specs.declared.Book.{Book}
use Rattle.book.proofs.Demand3 as book
use Rattle.book.proofs.Books.{sound_is}
use Rattle.book.proofs.Empty.{empty_from, default_keep_rules, no_other_empty}
use Rattle.promises.specs.Sessions.{Contracts, Session, about, calls_of, AsMeant}
use Rattle.promises.specs.Demand3.{Reached, ReachedFromNew, WentIn, whether, Demand3, Demand3OnEachFace, EmptyBooks}
use Rattle.promises.proofs.Sessions.{about_judged, sessions}

whether_about : (shipper number : ℕ) (t : Told Unit) → whether (about shipper number t) ≡ t
whether_about shipper number (done made) = refl
whether_about shipper number (refused n at) = refl

module _ (does : Contracts) (meant : AsMeant does) where
  -- a request's answer, of its meaning
  module _ {shipper number : ℕ} {found left : Book} {answer : Answer} (did : does (request shipper number) found answer left) where
    pub answered : answer ≡ about shipper number (request_of found shipper number)
    unfolding answer_to request_of
    answered = (meant.each_call (request shipper number) found answer left did).0 ∙ sym (about_judged shipper number (request_fault found shipper number))

    pub whether_is : whether answer ≡ request_of found shipper number
    whether_is = ap whether answered ∙ whether_about shipper number (request_of found shipper number)

    left_is : left ≡ after_request found shipper number
    unfolding after
    left_is = (meant.each_call (request shipper number) found answer left did).1

  take_answered : {found left : Book} {answer : Answer} → does take found answer left → answer ≡ take_of found
  unfolding answer_to
  take_answered {found} {left} {answer} did = (meant.each_call take found answer left did).0

  pub sound_reached : (found : Book) → Reached does found → is_sound found ≡ true
  sound_reached found reached =
      ap is_sound (meant.every_session reached.start reached.steps found reached.session).1 ∙ book.always_sound (calls_of reached.steps) reached.start reached.empty.sound

  -- a book reached from a new one has the figures of a new one
  module _ (found : Book) (reached : ReachedFromNew does found) where
    sound_new : is_sound found ≡ true
    sound_new = sound_reached found (record { start = reached.start; empty = reached.empty; steps = reached.steps; session = reached.session })

    figures_new : found.figures ≡ default_figures
    figures_new =
        let are = meant.every_session reached.start reached.steps found reached.session in
        ap (λ (b : Book). b.figures) are.1 ∙ book.figures_stay (calls_of reached.steps) reached.start (subst NoneSet are.0 reached.unset) ∙ reached.new

  -- what comes after a request that went in
  module _ {found left : Book} {shipper number : ℕ} {later : List Step} (went : WentIn does shipper number found later left) where
    in-it : request_of found shipper number ≡ done tt
    in-it = sym (whether_is went.goes_in)

    steps_are : later ≡ answers_to (calls_of later) (after_request found shipper number)
    steps_are = (meant.every_session went.next later left went.session).0 ∙ ap (answers_to (calls_of later)) (left_is went.goes_in)

    left_then : left ≡ after_all (calls_of later) (after_request found shipper number)
    left_then = (meant.every_session went.next later left went.session).1 ∙ ap (after_all (calls_of later)) (left_is went.goes_in)

    in-time : NoLaterThan (4 * (has found shipper + 1)) later (fate_of shipper number later)
    in-time =
        subst (λ (steps : List Step). NoLaterThan (4 * (has found shipper + 1)) steps (fate_of shipper number steps)) (sym steps_are)
        (book.taken_in_time found shipper number in-it (calls_of later))

    once : how_often (is_going_in shipper number) later ≡ 0 → how_often (is_taken shipper number) later + how_often (is_withdrawn shipper number) later + times number (waiting_of left shipper) ≡ 1
    once alone =
        (λ i. how_often (is_taken shipper number) (steps_are i) + how_often (is_withdrawn shipper number) (steps_are i) + times number (waiting_of (left_then i) shipper))
        ∙ book.once_or_waiting found shipper number in-it (calls_of later) (ap (how_often (is_going_in shipper number)) (sym steps_are) ∙ alone)

    still : fate_of shipper number later ≡ waits → is_one_of number (waiting_of left shipper) ≡ true
    still fate =
        ap (λ (b : Book). is_one_of number (waiting_of b shipper)) left_then
        ∙ book.neither_waits_still found shipper number in-it (calls_of later) (ap (fate_of shipper number) (sym steps_are) ∙ fate)

  accounted : (start found : Book) (steps : List Step) (shipper number : ℕ) → SoundEmpty start → Session does start steps found
      → how_often (is_going_in shipper number) steps ≡ how_often (is_taken shipper number) steps + how_often (is_withdrawn shipper number) steps + times number (waiting_of found shipper)
  accounted start found steps shipper number empty session =
      let are = meant.every_session start steps found session in
      ap (how_often (is_going_in shipper number)) are.0 ∙ book.all_accounted_for start empty (calls_of steps) shipper number
      ∙ sym (λ i. how_often (is_taken shipper number) (are.0 i) + how_often (is_withdrawn shipper number) (are.0 i) + times number (waiting_of (are.1 i) shipper))

  pub demand_3 : Demand3 does
  unfolding shippers places
  demand_3 =
      record {
        sound_always = sound_reached;
        sound_after_any_call = λ call found left answer sound did. ap is_sound (meant.each_call call found answer left did).1 ∙ book.every_call_keeps_soundness call found sound;
        fewer_than_2_goes_in = λ found left shipper number answer reached known few new did.
            let own = ((book.default-figures found (figures_new found reached)).0 shipper known).0 in
            answered did ∙ ap (about shipper number) (book.below_the_reserve_goes_in found (sound_new found reached) shipper known number new.valid new.new (omega arith));
        refused_only_when_8_used = λ found left shipper number n at reached known many below new did.
            let figures = book.default-figures found (figures_new found reached) in
            let top = (figures.0 shipper known).1 in
            book.refused_only_when_commons_full found (sound_new found reached) shipper known number new.valid new.new (omega arith) n at (sym (whether_is did)) ∙ figures.1;
        never_more_than_8 = λ found shipper reached known.
            let top = ((book.default-figures found (figures_new found reached)).0 shipper known).1 in
            let most = book.never_above_the_ceiling found (sound_new found reached) shipper known in
            omega arith;
        never_more_than_16 = book.never_above_the_places;
        waits_behind = λ found next shipper number did. ap (λ (b : Book). waiting_of b shipper) (left_is did) ∙ book.waits_behind found shipper number (sym (whether_is did));
        taken-by-4·k+1 = λ found left shipper number later went. in-time went;
        at_most_once = λ found left shipper number later went. once went;
        waiting_still = λ found left shipper number later went. still went;
        all_accounted_for = accounted;
        waits_at_most_once = λ found shipper number reached known. book.waits_at_most_once found (sound_reached found reached) shipper known number;
        request_depends_on = λ found other left left' shipper shipper' number answer answer' sound sound' figures figures' known known' line used did did'.
            let mine = book.default-figures found figures in
            let yours = book.default-figures other figures' in
            let own = mine.0 shipper known in
            let own' = yours.0 shipper' known' in
            whether_is did
            ∙ book.request_depends_on found other shipper shipper' number sound sound' (lt-ltb shipper 4 known ∙ sym (lt-ltb shipper' 4 known')) line (own.0 ∙ sym own'.0) (own.1 ∙ sym own'.1)
            (λ many. let two = own.0 in (used (omega arith), mine.1 ∙ sym yours.1))
            ∙ sym (whether_is did');
        unknown_shipper = λ found left shipper number answer sound past did. answered did ∙ ap (about shipper number) (book.unknown_shipper found shipper number sound past);
        take_depends_on = λ found other left left' answer answer' sound sound' lines last did did'. take_answered did ∙ book.take_depends_on found other sound sound' lines last ∙ sym (take_answered did');
      }

pub demand_3_on_each_face : Demand3OnEachFace
demand_3_on_each_face = record { by_value = demand_3 _ sessions.by_value; in_place = demand_3 _ sessions.in_place; from_c = demand_3 _ sessions.from_c }

-- a new book has 3 as last served
new_is_empty : (r : Book) → r ≡ empty_book → SoundEmpty r
unfolding empty_book
new_is_empty r is = subst SoundEmpty (sym is) (empty_from 3 default_figures (omega arith) default_keep_rules)

new_has_default : (r : Book) → r ≡ empty_book → r.figures ≡ default_figures
unfolding empty_book
new_has_default r is = ap (λ (b : Book). b.figures) is

pub empty_books : EmptyBooks
empty_books =
    record {
      new_book = λ κ a r x. new_is_empty r;
      new_from_c = λ κ a r x. new_is_empty r;
      new_figures = λ κ a r x. new_has_default r;
      new_figures_from_c = λ κ a r x. new_has_default r;
      any_other = empty_from;
      no_other = λ found is. no_other_empty found (sound_is found is.sound) is.empty;
    }
