-- What each call does, by its answer, and that every call keeps a book sound.
use Rattle.std.specs.Prelude.{Option, None, Some}
use mathlib.Core.Path.{◌≡◌, refl, sym, ap, ◌∙◌, subst}
use mathlib.Core.Logic.{⊎_elim}
use mathlib.Core.Bool.{Bool, true, false, ◌||◌}
use mathlib.Core.List.{List, [], ◌∷◌, ◌++◌}
use Prim.Native.Nat.{ℕ, ◌+◌, ◌≤◌, ◌<◌}
use native.Mathlib.Decide.{ℕ_discrete}
use native.Mathlib.Omega.{arith}
use borrow.Author.Tests.{ltb-true, lt-ltb, le-ltb}
use lib.Dec.{ltb}
use lib.ListN.{length, get_or, length-append}
use Rattle.refusals.specs.Told.{done, refused, Fault, fine, fault, demand, unless, judged, left_by}
use Rattle.refusals.proofs.Laws.{done_one, refused_not_done}
use Rattle.octets.specs.FirstToLast.{place_if}
use Rattle.octets.specs.Lists.{is_one_of}
use Rattle.octets.proofs.FirstToLast.{places as searched, nowhere, place_no, First, place_first, first-place}
use Rattle.book.specs.Line.{without, are_proper}
use Rattle.book.specs.Figures.{shippers, reserve, ceiling, commons, line_at, waiting_of, has, held, commons_used, put}
use Rattle.book.specs.Rules.{keep_rules}
use Rattle.book.specs.Sound.{is_sound}
use Rattle.book.specs.declared.Handed.{Handed}
use Rattle.book.specs.Calls.{request_fault, request_of, entered, after_request, withdrawal_fault, withdrawal_of, removed, after_withdrawal, has_room, of_turn, has_any, next_turn, oldest_of, handed_out, take_of, after_take, setting_fault, setting_of, agreed, after_setting}
use Rattle.book.specs.Demand3.{Call, request, withdrawal, take, setting, Answer, answer_to, after, after_all}
use Rattle.book.specs.declared.Book.{Book}
use Rattle.book.specs.declared.Figures.{Figures}
use Rattle.book.proofs.Books.{SoundBook, has_count}
use Rattle.book.proofs.Bools.{decided}
use Rattle.book.proofs.Calls.{Accepted, accepted, granted, Settable, settable}
use Rattle.book.proofs.Empty.{sound_agreed}
use Rattle.book.proofs.Puts.{sound_put, commons_put, waiting_put, waiting_put_other}
use Rattle.book.proofs.Waiting.{among_at, proper_more, proper_without, length_without}

-- a request is refused, or waits
pub data In (book : Book) : Answer → Book → Type 0 where
  no_in : (n at : ℕ) → In book (refused n at) book
  went-in : (s x : ℕ) → Accepted book s x → In book (done (record { shipper = s; number = x })) (entered book s x)

-- a withdrawal and a take are refused, or a request that waited has left
pub data Out (book : Book) : Answer → Book → Type 0 where
  no_out : (n at : ℕ) → Out book (refused n at) book
  went_out : (s x last : ℕ) → s < 4 → is_one_of x (waiting_of book s) ≡ true → last < 4 → Out book (done (record { shipper = s; number = x })) (removed book s x last)

pub request_did : (book : Book) (s x : ℕ) → In book (answer_to (request s x) book) (after_request book s x)
unfolding answer_to after_request request_of
request_did book s x = by (request_fault book s x) (accepted book s x)
  where
    by : (f : Fault) → (f ≡ fine → Accepted book s x) → In book (judged f (record { shipper = s; number = x })) (left_by (judged {A = Unit {0}} f tt) (λ (made : Unit). entered book s x) book)
    by fine told = went-in s x (told refl)
    by (fault n at) told = no_in n at

pub withdrawal_did : (book : Book) (s x : ℕ) → Out book (answer_to (withdrawal s x) book) (after_withdrawal book s x)
unfolding answer_to after_withdrawal withdrawal_of
withdrawal_did book s x = by (withdrawal_fault book s x) refl
  where
    by : (f : Fault) → withdrawal_fault book s x ≡ f
        → Out book (judged f (record { shipper = s; number = x })) (left_by (judged {A = Unit {0}} f tt) (λ (made : Unit). removed book s x book.last) book)
    by fine is = let told = granted book s x is in went_out s x book.last told.call.known told.waits told.call.sound.turn
    by (fault n at) is = no_out n at

-- a setting is refused, or the figures are agreed in an empty book
pub data Set (book : Book) : Book → Type 0 where
  no_set : Set book book
  was_set : (figures : Figures) → held book ≡ 0 → keep_rules figures ≡ true → Set book (agreed book figures)

pub setting_did : (book : Book) (figures : Figures) → Set book (after_setting book figures)
unfolding after_setting setting_of
setting_did book figures = by (setting_fault book figures) (settable book figures)
  where
    by : (f : Fault) → (f ≡ fine → Settable book figures) → Set book (left_by (judged {A = Unit {0}} f tt) (λ (made : Unit). agreed book figures) book)
    by fine told = let it = told refl in was_set figures it.empty it.rules
    by (fault n at) told = no_set

-- a request, a withdrawal and a take leave the figures
pub in-figures : (book : Book) {answer : Answer} {left : Book} → In book answer left → left.figures ≡ book.figures
unfolding entered put
in-figures book (no_in n at) = refl
in-figures book (went-in s x told) = refl

pub out_figures : (book : Book) {answer : Answer} {left : Book} → Out book answer left → left.figures ≡ book.figures
unfolding removed put
out_figures book (no_out n at) = refl
out_figures book (went_out s x last known waits turn) = refl

-- a setting leaves the lines and the turn
pub set_line : (book : Book) {left : Book} (s : ℕ) → Set book left → waiting_of left s ≡ waiting_of book s
unfolding agreed waiting_of line_at
set_line book s no_set = refl
set_line book s (was_set figures empty rules) = refl

pub set_turn : (book : Book) {left : Book} → Set book left → left.last ≡ book.last
unfolding agreed
set_turn book no_set = refl
set_turn book (was_set figures empty rules) = refl

-- a request and a withdrawal do not move the turn on
pub in-turn : (book : Book) {answer : Answer} {left : Book} → In book answer left → left.last ≡ book.last
unfolding entered put
in-turn book (no_in n at) = refl
in-turn book (went-in s x told) = refl

pub withdrawal_turn : (book : Book) (s x : ℕ) → (after_withdrawal book s x).last ≡ book.last
unfolding after_withdrawal withdrawal_of removed put
withdrawal_turn book s x = by (withdrawal_fault book s x)
  where
    by : (f : Fault) → (left_by (judged {A = Unit {0}} f tt) (λ (made : Unit). removed book s x book.last) book).last ≡ book.last
    by fine = refl
    by (fault n at) = refl

-- the next turn: its shipper has any, and none before it
pub turn_known : (book : Book) (turn : ℕ) → of_turn book turn < 4
unfolding of_turn shippers
turn_known book turn = omega arith

pub turn_first : (book : Book) {turn : ℕ} → next_turn book ≡ Some turn → First (has_any book) 4 1 turn
unfolding next_turn shippers
turn_first book is = place_first (has_any book) 4 1 is

pub turn_any : (book : Book) (turn : ℕ) → next_turn book ≡ Some turn → 0 < length (waiting_of book (of_turn book turn))
unfolding has_any has
turn_any book turn is = ltb-true _ _ (turn_first book is).passes

-- which turn is next: nobody before it has any
abbrev pub NobodyBefore : Book → ℕ → Type 0
NobodyBefore book turn = (j : ℕ) → 1 ≤ j → j < turn → has_any book j ≡ false

module _ (book : Book) where
  pub turn_here : (turn : ℕ) → 1 ≤ turn → turn ≤ 4 → has_any book turn ≡ true → NobodyBefore book turn → next_turn book ≡ Some turn
  unfolding next_turn shippers
  turn_here turn l h any nobody = first-place (has_any book) 4 1 (record { from = l; below = omega arith; passes = any; before = nobody })

  pub turn_nowhere : NobodyBefore book 5 → next_turn book ≡ None
  unfolding next_turn shippers
  turn_nowhere nobody = nowhere searched (place_if (has_any book)) 4 1 (λ j l h. place_no (has_any book) j (nobody j l (omega arith)))

-- the same of a sound book, by the counts of the lines
abbrev pub NoneBefore : Book → ℕ → Type 0
NoneBefore book turn = (j : ℕ) → 1 ≤ j → j < turn → (line_at book (of_turn book j)).count ≤ 0

module _ (book : Book) (sound : SoundBook book) where
  any_count : (turn : ℕ) → has_any book turn ≡ ltb 0 (line_at book (of_turn book turn)).count
  unfolding has_any
  any_count turn = ap (ltb 0) (has_count book (of_turn book turn) (sound.lines (of_turn book turn) (turn_known book turn)))

  pub turn_is : (turn : ℕ) → 1 ≤ turn → turn ≤ 4 → 0 < (line_at book (of_turn book turn)).count → NoneBefore book turn → next_turn book ≡ Some turn
  turn_is turn l h any nobody = turn_here book turn l h (any_count turn ∙ lt-ltb _ _ any) (λ j l h. any_count j ∙ le-ltb _ _ (nobody j l h))

  pub turn_none : NoneBefore book 5 → next_turn book ≡ None
  turn_none nobody = turn_nowhere book (λ j l h. any_count j ∙ le-ltb _ _ (nobody j l h))

pub take_did : (book : Book) → Out book (answer_to take book) (after_take book)
unfolding answer_to after_take take_of handed_out oldest_of
take_did book = by (is_sound book) (next_turn book) refl
  where
    by : (t : Bool) (next : Option ℕ) → next_turn book ≡ next → Out book (unless (demand t 20) (handed_out book next))
        (left_by (unless (demand t 20) (handed_out book next)) (λ (handed : Handed). removed book handed.shipper handed.number handed.shipper) book)
    by false next is = no_out 20 0
    by true None is = no_out 27 0
    by true (Some turn) is =
        let s = of_turn book turn in
        went_out s (get_or (waiting_of book s) 0 0) s (turn_known book turn) (among_at _ (waiting_of book s) 0 (turn_any book turn is) refl) (turn_known book turn)

-- what a take that hands one out tells
out_waits : (book : Book) {answer : Answer} {left : Book} (s x : ℕ) → Out book answer left → answer ≡ done (record { shipper = s; number = x }) → (s < 4) × (is_one_of x (waiting_of book s) ≡ true)
out_waits book s x (no_out n at) is = absurd (refused_not_done is)
out_waits book s x (went_out t y last known waits turn) is =
    let it = done_one is in
    subst (λ (h : Handed). (h.shipper < 4) × (is_one_of h.number (waiting_of book h.shipper) ≡ true)) it (known, waits)

pub handed_out_known : (book : Book) (s x : ℕ) → take_of book ≡ done (record { shipper = s; number = x }) → (is_sound book ≡ true) × (s < 4) × (is_one_of x (waiting_of book s) ≡ true)
unfolding answer_to take_of
handed_out_known book s x is =
    let waits = out_waits book s x (take_did book) is in
    let sound = ⊎_elim (λ t. t) (λ f. absurd (refused_not_done (sym (ap (λ (t : Bool). unless (demand t 20) (handed_out book (next_turn book))) f) ∙ is))) (decided (is_sound book)) in
    (sound, waits.0, waits.1)

module _ (book : Book) (sound : SoundBook book) (s : ℕ) (known : s < 4) where
  -- a shipper's numbers in a sound book
  pub at_proper : are_proper (waiting_of book s) ≡ true
  unfolding waiting_of
  at_proper = (sound.lines s known).proper

  pub at_ceiling : has book s ≤ ceiling book s
  at_ceiling = let few = (sound.lines s known).few in let many = has_count book s (sound.lines s known) in omega arith

-- one more fits: below the reserve it takes no shared place, and beyond it one was free
room_fits : (book : Book) → SoundBook book → (s x : ℕ) → Accepted book s x → commons_used (put book s (waiting_of book s ++ (x ∷ [])) book.last) ≤ commons book
unfolding has_room has
room_fits book sound s x told =
    let w = waiting_of book s in
    let change = commons_put book s (w ++ (x ∷ [])) book.last sound.four told.call.known in
    let used = sound.used in
    let one : length (w ++ (x ∷ [])) ≡ length w + 1 = length-append w (x ∷ []) in
    ⊎_elim (λ few. let low : length w < reserve book s = ltb-true _ _ few in omega arith)
    (λ many. let free : commons_used book < commons book = ltb-true _ _ (sym (ap (λ (t : Bool). t || ltb (commons_used book) (commons book)) many) ∙ told.room) in omega arith)
    (decided (ltb (length w) (reserve book s)))

sound_in : (book : Book) → SoundBook book → {answer : Answer} {left : Book} → In book answer left → SoundBook left
unfolding entered has
sound_in book sound (no_in n at) = sound
sound_in book sound (went-in s x told) =
    let w = waiting_of book s in
    let known = told.call.known in
    let one : length (w ++ (x ∷ [])) ≡ length w + 1 = length-append w (x ∷ []) in
    let below = told.below in
    sound_put book s (w ++ (x ∷ [])) book.last sound known (omega arith) (proper_more x w (at_proper book sound s known) told.new told.call.valid) (room_fits book sound s x told) sound.turn

sound_out : (book : Book) → SoundBook book → {answer : Answer} {left : Book} → Out book answer left → SoundBook left
unfolding removed has
sound_out book sound (no_out n at) = sound
sound_out book sound (went_out s x last known waits turn) =
    let w = waiting_of book s in
    let top = at_ceiling book sound s known in
    let fewer = length_without x w in
    let used = sound.used in
    let change = commons_put book s (without x w) last sound.four known in
    sound_put book s (without x w) last sound known (omega arith) (proper_without x w (at_proper book sound s known)) (omega arith) turn

sound_set : (book : Book) → SoundBook book → {left : Book} → Set book left → SoundBook left
sound_set book sound no_set = sound
sound_set book sound (was_set figures empty rules) = sound_agreed book sound empty figures rules

pub sound_after : (call : Call) (book : Book) → SoundBook book → SoundBook (after call book)
unfolding after
sound_after (request s x) book sound = sound_in book sound (request_did book s x)
sound_after (withdrawal s x) book sound = sound_out book sound (withdrawal_did book s x)
sound_after take book sound = sound_out book sound (take_did book)
sound_after (setting figures) book sound = sound_set book sound (setting_did book figures)

pub sound_all : (calls : List Call) (book : Book) → SoundBook book → SoundBook (after_all calls book)
unfolding after_all
sound_all [] book sound = sound
sound_all (call ∷ calls) book sound = sound_all calls (after call book) (sound_after call book sound)

-- what holds of a shipper's line after a change: of the new numbers where it is that shipper's, of the old ones where it is another's
pub put_line : (P : List ℕ → Type 0) (book : Book) (t : ℕ) (xs : List ℕ) (last s : ℕ) → SoundBook book → t < 4 → (s ≡ t → P xs) → ((s ≡ t → ⊥) → P (waiting_of book s))
    → P (waiting_of (put book t xs last) s)
put_line P book t xs last s sound known mine others = by (ℕ_discrete s t)
  where
    by : Dec (s ≡ t) → P (waiting_of (put book t xs last) s)
    by (yes same) = subst P (sym (ap (waiting_of (put book t xs last)) same ∙ waiting_put book t xs last sound.four known)) (mine same)
    by (no other) = subst P (sym (waiting_put_other book t xs last s other)) (others other)
