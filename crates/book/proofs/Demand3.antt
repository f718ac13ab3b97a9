-- The customer's third demand, sentence by sentence, about the meanings that the contracts of `request`, `withdraw` and
-- `take` cite. Nearly all of it holds of any sound book, and calls in any order leave a sound book sound (`always_sound`); what
-- was counted from the first call on holds from any sound, empty book. The figures are the book's own: `reserve`, `ceiling` and
-- `commons`; the customer's, 2, 8 and 8, are those of a new book (`default-figures`).
use Rattle.std.specs.Prelude.{Option, None, Some}
use mathlib.Core.Path.{◌≡◌, refl, sym, ap, ◌∙◌, subst}
use mathlib.Core.Logic.{⊎_elim}
use mathlib.Core.Bool.{Bool, true, false, ◌||◌, not, cond}
use mathlib.Core.List.{List, [], ◌∷◌, ◌++◌}
use Prim.Native.Nat.{ℕ, suc, ◌+◌, ◌*◌, ◌-◌, ◌≤◌, ◌<◌, ◌%◌}
use native.Mathlib.Nat.{lt_of_not-le}
use native.Mathlib.Omega.{arith}
use borrow.Author.Tests.{eq-eqb, ne_eqb, lt-ltb, ltb-false, le-ltb}
use lib.Dec.{ltb, eqb}
use lib.ListN.{length, get_or, length-append, get_or-replicate}
use lib.Seq.{get_or-append_seam}
use Rattle.refusals.specs.Told.{Told, done, refused, demand, or_else, judged, left_by}
use Rattle.refusals.proofs.Laws.{judged_was, refused_number, refused_not_done}
use Rattle.octets.specs.FirstToLast.{place_if}
use Rattle.octets.specs.Lists.{is_one_of}
use Rattle.octets.proofs.FirstToLast.{places as searched, same as searched-same}
use Rattle.book.specs.Figures.{shippers, over_shippers, reserve_in, ceiling_in, places, reserve, ceiling, commons, waiting_of, has, held, commons_used, default_figures}
use Rattle.book.specs.Rules.{keep_rules}
use Rattle.book.specs.Sound.{is_sound}
use Rattle.book.specs.Calls.{call_fault, has_room, entry_fault, request_fault, request_of, entered, after_request, of_turn, has_any, next_turn, oldest_of, handed_out, after_withdrawal, take_of, after_take, setting_fault, setting_of, agreed, after_setting}
use Rattle.book.specs.Demand3.{SoundEmpty, Call, request, withdrawal, take, setting, after, after_all, answers_to, NoneSet, is_going_in, is_withdrawn, is_taken, how_often, times, waits, fate_of, NoLaterThan}
use Rattle.book.specs.declared.Book.{Book}
use Rattle.book.specs.declared.Figures.{Figures}
use Rattle.book.proofs.Agreed.{agreed_is}
use Rattle.book.proofs.Books.{SoundBook, sound_is, is-sound, holds_its_places, holds_at_most_13}
use Rattle.book.proofs.Bools.{decided}
use Rattle.book.proofs.Calls.{Accepted, accepted, request_in, room_reserve, room_commons}
use Rattle.book.proofs.Counts.{balance}
use Rattle.book.proofs.Empty.{nothing_waits}
use Rattle.book.proofs.Fates.{Waits, begins, Comes, comes, no_later}
use Rattle.book.proofs.Kept.{request_did, withdrawal_did, take_did, in-figures, out_figures, sound_after, sound_all, at_ceiling, at_proper, turn_known}
use Rattle.book.proofs.Puts.{waiting_put}
use Rattle.book.proofs.Waiting.{Stands, times-append, times_none, times_once, once}

-- The figures of 01: 'places 16, reserve 2, ceiling 8 and commons 8', as long as nothing else is agreed.
pub default-figures : (book : Book) → book.figures ≡ default_figures
    → ((shipper : ℕ) → shipper < 4 → (reserve book shipper ≡ 2) × (ceiling book shipper ≡ 8)) × (commons book ≡ 8) × (places book ≡ 16)
unfolding places reserve ceiling commons over_shippers reserve_in ceiling_in default_figures shippers
default-figures book is = (
  λ shipper known. (ap (λ (f : Figures). reserve_in f shipper) is ∙ get_or-replicate 4 shipper 2 0 known, ap (λ (f : Figures). ceiling_in f shipper) is ∙ get_or-replicate 4 shipper 8 0 known),
  ap (λ (f : Figures). 16 - over_shippers (reserve_in f)) is,
  refl,
)

-- as they are for as long as no figures are set
pub figures_stay : (calls : List Call) (book : Book) → NoneSet (answers_to calls book) → (after_all calls book).figures ≡ book.figures
unfolding NoneSet answers_to after_all after
figures_stay [] book unset = refl
figures_stay (request s x ∷ calls) book unset = figures_stay calls (after_request book s x) unset ∙ in-figures book (request_did book s x)
figures_stay (withdrawal s x ∷ calls) book unset = figures_stay calls (after_withdrawal book s x) unset ∙ out_figures book (withdrawal_did book s x)
figures_stay (take ∷ calls) book unset = figures_stay calls (after_take book) unset ∙ out_figures book (take_did book)
figures_stay (setting figures ∷ calls) book unset = absurd unset

-- (f) 'Start from a sound, empty book and make any requests, withdrawals and takes in any order': every call keeps a sound book sound.
pub every_call_keeps_soundness : (call : Call) (book : Book) → is_sound book ≡ true → is_sound (after call book) ≡ true
every_call_keeps_soundness call book is = is-sound (after call book) (sound_after call book (sound_is book is))

pub always_sound : (calls : List Call) (start : Book) → is_sound start ≡ true → is_sound (after_all calls start) ≡ true
always_sound calls start is = is-sound (after_all calls start) (sound_all calls start (sound_is start is))

module _ (book : Book) (is : is_sound book ≡ true) (shipper : ℕ) (known : shipper < 4) where
  -- (c) 'Nobody ever has more than' its ceiling 'waiting.'
  pub never_above_the_ceiling : has book shipper ≤ ceiling book shipper
  never_above_the_ceiling = at_ceiling book (sound_is book is) shipper known

  -- (e) none of them twice
  pub waits_at_most_once : (number : ℕ) → times number (waiting_of book shipper) ≤ 1
  waits_at_most_once number = times_once number _ (at_proper book (sound_is book is) shipper known)

  module _ (number : ℕ) (valid : number ≡ 0 → ⊥) (new : is_one_of number (waiting_of book shipper) ≡ false) where
    -- a valid new request below the ceiling goes in where there is room
    goes_in : has book shipper < ceiling book shipper → has_room book shipper ≡ true → request_of book shipper number ≡ done tt
    goes_in below room =
        request_in book shipper number (record { call = record { sound = sound_is book is; known = known; valid = valid }; new = new; below = below; room = room })

    -- (a) 'A shipper with fewer than' its reserve 'waiting always gets a valid new one in (number not zero, not waiting in its line);'
    pub below_the_reserve_goes_in : has book shipper < reserve book shipper → request_of book shipper number ≡ done tt
    unfolding reserve ceiling
    below_the_reserve_goes_in few =
        let own = ((agreed_is book.figures (sound_is book is).rules).each shipper known).own in
        goes_in (omega arith) (room_reserve book shipper few)

    -- (b) one with its reserve or more, below its ceiling, 'is refused it only when the .. shared places are used up.'
    pub refused_only_when_commons_full : has book shipper < ceiling book shipper → (n at : ℕ) → request_of book shipper number ≡ refused n at → commons_used book ≡ commons book
    refused_only_when_commons_full below n at refusal =
        let most = (sound_is book is).used in
        let free : commons_used book < commons book → ⊥ = λ free. refused_not_done (sym refusal ∙ goes_in below (room_commons book shipper free)) in
        let full : commons book < suc (commons_used book) = lt_of_not-le free in
        omega arith

    -- and then its number is 25
    pub refused_is_25 : has book shipper < ceiling book shipper → (n at : ℕ) → request_of book shipper number ≡ refused n at → n ≡ 25
    unfolding request_of request_fault call_fault entry_fault shippers
    refused_is_25 below n at refusal =
        ⊎_elim (λ room. absurd (refused_not_done (sym refusal ∙ goes_in below room)))
        (λ full.
        let found : request_of book shipper number ≡ refused 25 0 =
        rw (is, lt-ltb _ _ known, ne_eqb _ _ valid, new, lt-ltb _ _ below) (ap (λ (t : Bool). judged {A = Unit {0}} (demand t 25) tt) full) in
        refused_number (sym refusal ∙ found)) (decided (has_room book shipper))

-- 01, 'places 16': no sound book holds more in all.
pub never_above_the_places : (book : Book) → is_sound book ≡ true → held book ≤ places book
never_above_the_places book is = holds_its_places book (sound_is book is)

-- .. so that nobody has more than 13, whatever its ceiling: each of the others has a place of its own.
pub never_above_13 : (book : Book) → is_sound book ≡ true → (shipper : ℕ) → shipper < 4 → has book shipper ≤ 13
never_above_13 book is = holds_at_most_13 book (sound_is book is)

-- What a setting is answered, and the book that it leaves.
module _ (book : Book) (figures : Figures) where
  pub setting_20 : is_sound book ≡ false → setting_of book figures ≡ refused 20 0
  unfolding setting_of setting_fault
  setting_20 unsound = rw unsound

  module _ (is : is_sound book ≡ true) where
    pub setting_30 : (held book ≡ 0 → ⊥) → setting_of book figures ≡ refused 30 0
    unfolding setting_of setting_fault
    setting_30 any = rw (is, ne_eqb _ _ any)

    module _ (empty : held book ≡ 0) where
      pub setting_31 : keep_rules figures ≡ false → setting_of book figures ≡ refused 31 0
      unfolding setting_of setting_fault
      setting_31 outside = rw (is, eq-eqb _ _ empty, outside)

      module _ (rules : keep_rules figures ≡ true) where
        pub setting_made : setting_of book figures ≡ done tt
        unfolding setting_of setting_fault
        setting_made = rw (is, eq-eqb _ _ empty, rules)

        pub setting_leaves : after_setting book figures ≡ agreed book figures
        unfolding after_setting
        setting_leaves = rw setting_made

-- A request that went in, and whatever calls come later.
module _ (book : Book) (s x : ℕ) (answer : request_of book s x ≡ done tt) where
  told : Accepted book s x
  unfolding request_of
  told = accepted book s x (judged_was (request_fault book s x) tt answer)

  sound : SoundBook book
  sound = told.call.sound

  -- it waits, behind those of its own shipper
  pub waits_behind : waiting_of (after_request book s x) s ≡ waiting_of book s ++ (x ∷ [])
  unfolding after_request entered
  waits_behind =
      let w = waiting_of book s ++ (x ∷ []) in
      ap (λ (t : Told Unit). waiting_of (left_by t (λ (made : Unit). entered book s x) book) s) answer ∙ waiting_put book s w book.last sound.four told.call.known

  sound_then : SoundBook (after_request book s x)
  unfolding after
  sound_then = sound_after (request s x) book sound

  waits_then : (t : ℕ) × Waits s x (after_request book s x) (has book s) t
  unfolding has
  waits_then =
      let w = waiting_of book s in
      begins s x (after_request book s x) (length w) sound_then.turn told.call.known
      (subst (λ (ys : List ℕ). Stands x ys (length w)) (sym waits_behind) (record { place = length w; near = omega arith; within = simp length-append (omega arith); there = get_or-append_seam w x [] 0 }))

  module _ (later : List Call) where
    -- (d) 'A request that goes in behind k of its own shipper's is taken no later than the 4(k+1)th take after that, unless its
    -- shipper withdraws it first.' Whatever calls come later: it is taken at such a take, or its withdrawal is granted first, or
    -- fewer than 4(k+1) takes were made.
    pub taken_in_time : NoLaterThan (4 * (has book s + 1)) (answers_to later (after_request book s x)) (fate_of s x (answers_to later (after_request book s x)))
    taken_in_time =
        let next = after_request book s x in
        let steps = answers_to later next in
        let w = waits_then in
        let few = w.1.four in
        no_later s x (4 * (has book s + 1)) steps (after_all later next) (fate_of s x steps) (comes s x later next (has book s) w.0 (4 * (has book s + 1)) sound_then w.1 (omega arith))

    -- (e) '.. and what is neither is waiting still.'
    pub neither_waits_still : fate_of s x (answers_to later (after_request book s x)) ≡ waits → is_one_of x (waiting_of (after_all later (after_request book s x)) s) ≡ true
    neither_waits_still fate =
        let next = after_request book s x in
        let k = has book s in
        let w = waits_then in
        (subst (Comes s x (4 * k + w.0) (answers_to later next) (after_all later next)) fate (comes s x later next k w.0 (4 * k + w.0) sound_then w.1 (omega arith))).1

    -- (e) 'Each accepted request is taken or withdrawn at most once, and what is neither is waiting still.' Whatever calls come
    -- later, as long as no other request of the same shipper and number goes in: it was taken once, or withdrawn once, or waits.
    pub once_or_waiting : how_often (is_going_in s x) (answers_to later (after_request book s x)) ≡ 0
        → how_often (is_taken s x) (answers_to later (after_request book s x)) + how_often (is_withdrawn s x) (answers_to later (after_request book s x))
        + times x (waiting_of (after_all later (after_request book s x)) s) ≡ 1
    unfolding times
    once_or_waiting alone =
        let one : times x (waiting_of (after_request book s x) s) ≡ 1 =
        ap (times x) waits_behind ∙ times-append x (waiting_of book s) (x ∷ [])
        ∙ (λ i. times_none x (waiting_of book s) told.new i + (once (eq-eqb x x refl i) + 0)) in
        let sum = balance s x later (after_request book s x) sound_then in
        omega arith

-- (e) for a number that comes back: of all that went in since a sound, empty book, each was taken, or was withdrawn, or waits.
pub all_accounted_for : (start : Book) → SoundEmpty start → (calls : List Call) (shipper number : ℕ)
    → how_often (is_going_in shipper number) (answers_to calls start)
    ≡ how_often (is_taken shipper number) (answers_to calls start) + how_often (is_withdrawn shipper number) (answers_to calls start) + times number (waiting_of (after_all calls start) shipper)
unfolding times
all_accounted_for start from calls s x =
    let None = ap (times x) (nothing_waits start (sound_is start from.sound) from.empty s) in
    let sum = balance s x calls start (sound_is start from.sound) in
    omega arith

-- what two books have in common in which a shipper's line and reserve and another's are the same
same_room : (book other : Book) (s t : ℕ) → waiting_of book s ≡ waiting_of other t → reserve book s ≡ reserve other t
    → (reserve book s ≤ has book s → (commons_used book ≡ commons_used other) × (commons book ≡ commons other)) → has_room book s ≡ has_room other t
unfolding has_room has
same_room book other s t line own used =
    let few : ltb (length (waiting_of book s)) (reserve book s) ≡ ltb (length (waiting_of other t)) (reserve other t) = λ i. ltb (length (line i)) (own i) in
    ⊎_elim (λ is. (λ i. is i || ltb (commons_used book) (commons book)) ∙ sym (λ i. (sym few ∙ is) i || ltb (commons_used other) (commons other)))
    (λ full. let same = used (ltb-false _ _ full) in λ i. few i || ltb (same.0 i) (same.1 i)) (decided (ltb (length (waiting_of book s)) (reserve book s)))

module _ (book other : Book) (lines : (s : ℕ) → s < 4 → waiting_of book s ≡ waiting_of other s) (last : book.last ≡ other.last) where
  same_shipper : (turn : ℕ) → of_turn book turn ≡ of_turn other turn
  unfolding of_turn
  same_shipper turn = ap (λ (l : ℕ). (l + turn) % shippers) last

  same_line : (turn : ℕ) → waiting_of book (of_turn book turn) ≡ waiting_of other (of_turn other turn)
  same_line turn = lines (of_turn book turn) (turn_known book turn) ∙ ap (waiting_of other) (same_shipper turn)

  same_turn : next_turn book ≡ next_turn other
  unfolding next_turn has_any has shippers place_if
  same_turn = searched-same searched (place_if (has_any book)) (place_if (has_any other)) 4 1 (λ t l h. λ i. cond (ltb 0 (length (same_line t i))) (Some t) None)

  same_handed : (next : Option ℕ) → handed_out book next ≡ handed_out other next
  unfolding handed_out oldest_of
  same_handed None = refl
  same_handed (Some turn) = λ i. done (record { shipper = same_shipper turn i; number = get_or (same_line turn i) 0 0 })

-- 01: 'In a sound book a request's answer depends on the number asked, its shipper's line and, from' its reserve 'upward, commons
-- used; on nothing else', but for 'these figures too', its shipper's own two and the book's commons: in any two sound books, and for any
-- two shippers, known or not.
pub request_depends_on : (book other : Book) (s t number : ℕ) → is_sound book ≡ true → is_sound other ≡ true → ltb s shippers ≡ ltb t shippers → waiting_of book s ≡ waiting_of other t
    → reserve book s ≡ reserve other t → ceiling book s ≡ ceiling other t → (reserve book s ≤ has book s → (commons_used book ≡ commons_used other) × (commons book ≡ commons other))
    → request_of book s number ≡ request_of other t number
unfolding request_of request_fault call_fault entry_fault has
request_depends_on book other s t x sound sound' known line own top used =
    let both : is_sound book ≡ is_sound other = sound ∙ sym sound' in
    let room = same_room book other s t line own used in
    λ i.
    judged
    (or_else (or_else (demand (both i) 20) (or_else (demand (known i) 21) (demand (not (eqb x 0)) 22)))
    (or_else (demand (not (is_one_of x (line i))) 23) (or_else (demand (ltb (length (line i)) (top i)) 24) (demand (room i) 25)))) tt

-- an unknown shipper's is 21 in every sound book
pub unknown_shipper : (book : Book) (shipper number : ℕ) → is_sound book ≡ true → 4 ≤ shipper → request_of book shipper number ≡ refused 21 0
unfolding request_of request_fault call_fault shippers
unknown_shipper book shipper number is past = rw (is, le-ltb shipper 4 past)

-- 01: 'A take's depends on all four lines and the last served.'
pub take_depends_on : (book other : Book) → is_sound book ≡ true → is_sound other ≡ true → ((shipper : ℕ) → shipper < 4 → waiting_of book shipper ≡ waiting_of other shipper)
    → book.last ≡ other.last → take_of book ≡ take_of other
unfolding take_of
take_depends_on book other sound sound' lines last =
    rw (sound, sound', same_turn book other lines last) (same_handed book other lines last (next_turn other))
