-- What becomes of a waiting request: each call leaves it where it is or nearer, and each take brings its turn nearer.
-- What is left to wait is four turns for each request before it and the turns until its shipper's.
use Rattle.std.specs.Prelude.{Option, None, Some}
use mathlib.Core.Path.{◌≡◌, refl, sym, ap, ◌∙◌, subst}
use mathlib.Core.Bool.{Bool, true, false, ◌&&◌, cond, true≢false}
use mathlib.Core.List.{List, [], ◌∷◌, ◌++◌}
use mathlib.Core.Logic.{by_cases}
use Prim.Native.Nat.{ℕ, zero, suc, ◌+◌, ◌*◌, ◌-◌, ◌≤◌, ◌<◌, ◌%◌}
use native.Mathlib.Decide.{dec_lt}
use native.Mathlib.Nat.{mod-add-mod, pos_of_ne-zero}
use native.Mathlib.Omega.{arith}
use borrow.Author.Tests.{eq-eqb, lt-ltb}
use lib.Dec.{ltb}
use lib.ListN.{length, drop, get_or, length-append, length-drop, get_or-append}
use lib.Seq.{get_or-drop}
use Rattle.refusals.specs.Told.{done}
use Rattle.octets.specs.Lists.{is_one_of}
use Rattle.octets.proofs.FirstToLast.{place_none}
use Rattle.book.specs.Line.{without}
use Rattle.book.specs.Figures.{shippers, waiting_of, has, put}
use Rattle.book.specs.Calls.{entered, after_request, removed, after_withdrawal, of_turn, has_any, next_turn, oldest_of, handed_out, take_of, after_take, after_setting}
use Rattle.book.specs.Demand3.{Call, request, withdrawal, take, setting, Answer, answer_to, after, after_all, Step, step, answers_to, takes, grants, is_withdrawn, is_taken, Fate, taken, withdrawn, waits, earlier, fate_of, NoLaterThan}
use Rattle.book.specs.declared.Book.{Book}
use Rattle.book.proofs.Books.{SoundBook, is-sound}
use Rattle.book.proofs.Kept.{In, no_in, went-in, Out, no_out, went_out, request_did, in-turn, withdrawal_did, withdrawal_turn, take_did, setting_did, set_line, set_turn, turn_known, turn_first, turn_any, sound_after, put_line}
use Rattle.book.proofs.Puts.{waiting_put}
use Rattle.book.proofs.Waiting.{Stands, stands_without, oldest_without, among_at}

-- the request stands behind at most k others, and its shipper's turn is the t-th
pub record Waits (s x : ℕ) (book : Book) (k t : ℕ) : Type 0 where
  pub stands : Stands x (waiting_of book s) k
  pub mine : of_turn book t ≡ s
  pub one : 1 ≤ t
  pub four : t ≤ 4

-- a shipper's turn is one of four
pub begins : (s x : ℕ) (book : Book) (k : ℕ) → book.last < 4 → s < 4 → Stands x (waiting_of book s) k → (t : ℕ) × Waits s x book k t
unfolding of_turn shippers
begins s x book k turn known stands = by (dec_lt book.last s)
  where
    by : Dec (book.last < s) → (t : ℕ) × Waits s x book k t
    by (yes ahead) = (s - book.last, record { stands = stands; mine = omega arith; one = omega arith; four = omega arith })
    by (no round) = (s + 4 - book.last, record { stands = stands; mine = omega arith; one = omega arith; four = omega arith })

module _ (s x : ℕ) (book : Book) (sound : SoundBook book) (k : ℕ) (stands : Stands x (waiting_of book s) k) where
  -- in its own shipper's line
  here : {t : ℕ} → s ≡ t → Stands x (waiting_of book t) k
  here same = subst (λ (t : ℕ). Stands x (waiting_of book t) k) same stands

  stands_in : {answer : Answer} {left : Book} → In book answer left → Stands x (waiting_of left s) k
  unfolding entered
  stands_in (no_in n at) = stands
  stands_in (went-in t y told) =
      put_line (λ (ys : List ℕ). Stands x ys k) book t (waiting_of book t ++ (y ∷ [])) book.last s sound told.call.known
      (λ same.
      let h = here same in
      record { place = h.place; near = h.near; within = simp length-append (omega arith); there = get_or-append (waiting_of book t) (y ∷ []) 0 h.place h.within ∙ h.there })
      (λ other. stands)

  -- where another leaves
  stands_out : {answer : Answer} {left : Book} → Out book answer left → grants s x answer ≡ false → Stands x (waiting_of left s) k
  unfolding removed
  stands_out (no_out n at) not = stands
  stands_out (went_out t y last known here' turn) not =
      put_line (λ (ys : List ℕ). Stands x ys k) book t (without y (waiting_of book t)) last s sound known
      (λ same.
      let h = here same in
      let other : x ≡ y → ⊥ = λ e. true≢false (sym (λ i. eq-eqb s t same i && eq-eqb x y e i) ∙ not) in
      let w = stands_without x y (waiting_of book t) h.place other h.within h.there in
      record { place = w.place; near = omega arith; within = w.within; there = w.there })
      (λ other. stands)

module _ (s x : ℕ) (book : Book) (sound : SoundBook book) (k t : ℕ) (w : Waits s x book k t) where
  -- where the turn did not move on
  waits_still : (left : Book) → left.last ≡ book.last → Stands x (waiting_of left s) k → Waits s x left k t
  unfolding of_turn
  waits_still left same stands = record { stands = stands; mine = ap (λ (l : ℕ). (l + t) % shippers) same ∙ w.mine; one = w.one; four = w.four }

  -- a take has not handed this one out: it waits with fewer turns to go
  record Nearer : Type 0 where
    ahead : ℕ
    turns : ℕ
    still : Waits s x (after_take book) ahead turns
    less : 4 * ahead + turns < 4 * k + t

  any : has_any book t ≡ true
  unfolding has_any has
  any =
      let stands = w.stands in
      let Some : 0 < length (waiting_of book s) = omega arith in
      ap (λ (r : ℕ). ltb 0 (length (waiting_of book r))) w.mine ∙ lt-ltb _ _ Some

  module _ (not : grants s x (answer_to take book) ≡ false) (j : ℕ) (is : next_turn book ≡ Some j) where
    -- the shipper served, and its oldest
    u : ℕ
    u = of_turn book j

    oldest : ℕ
    oldest = get_or (waiting_of book u) 0 0

    handed : answer_to take book ≡ done (record { shipper = u; number = oldest })
    unfolding answer_to take_of handed_out oldest_of u oldest
    handed = rw (is-sound book sound, is)

    left : after_take book ≡ removed book u oldest u
    unfolding after_take take_of handed_out oldest_of u oldest
    left = rw (is-sound book sound, is)

    turned : (after_take book).last ≡ u
    unfolding removed put
    turned = ap (λ (b : Book). b.last) left

    -- its shipper's turn comes later
    later : j < t → Nearer
    unfolding of_turn shippers u
    later h =
        let all : book.last + j + (t - j) ≡ book.last + t = omega arith in
        record {
          ahead = k;
          turns = t - j;
          still =
              record {
                stands = stands_out s x book sound k w.stands (take_did book) not;
                mine = ap (λ (l : ℕ). (l + (t - j)) % 4) turned ∙ mod-add-mod (book.last + j) 4 (t - j) ∙ ap (λ (n : ℕ). n % 4) all ∙ w.mine;
                one = omega arith;
                four = omega arith;
              };
          less = let first = (turn_first book is).from in omega arith;
        }

    -- its shipper's turn it was, and the oldest before it went
    module _ (h : j ≡ t) where
      same : u ≡ s
      unfolding u
      same = ap (of_turn book) h ∙ w.mine

      known : s < 4
      unfolding u
      known = subst (λ (r : ℕ). r < 4) same (turn_known book j)

      it : w.stands.place ≡ 0 → x ≡ oldest
      unfolding oldest
      it e = sym w.stands.there ∙ ap (λ (n : ℕ). get_or (waiting_of book s) n 0) e ∙ ap (λ (r : ℕ). get_or (waiting_of book r) 0 0) (sym same)

      behind : 0 < w.stands.place
      behind = pos_of_ne-zero (λ e. true≢false (sym (ap (grants s x) handed ∙ (λ i. eq-eqb s u (sym same) i && eq-eqb x oldest (it e) i)) ∙ not))

      line : waiting_of (after_take book) s ≡ drop 1 (waiting_of book s)
      unfolding removed oldest u
      line =
          ap (λ (b : Book). waiting_of b s) left ∙ ap (waiting_of (removed book u oldest u)) (sym same)
          ∙ waiting_put book u (without oldest (waiting_of book u)) u sound.four (turn_known book j)
          ∙ oldest_without (waiting_of book u) (turn_any book j is) ∙ ap (λ (r : ℕ). drop 1 (waiting_of book r)) same

      nearer_line : Stands x (drop 1 (waiting_of book s)) (k - 1)
      nearer_line =
          let st = w.stands in
          let p = st.place in
          let Some = behind in
          let at : 1 + (p - 1) ≡ p = omega arith in
          record { place = p - 1; near = omega arith; within = simp length-drop (omega arith); there = get_or-drop 1 (waiting_of book s) (p - 1) 0 ∙ ap (λ (n : ℕ). get_or (waiting_of book s) n 0) at ∙ st.there }

      now : Nearer
      unfolding of_turn shippers
      now =
          let st = w.stands in
          let Some = behind in
          let low = known in
          let back : (s + 4) % 4 ≡ s = omega arith in
          record {
            ahead = k - 1;
            turns = 4;
            still =
                record {
                  stands = subst (λ (ys : List ℕ). Stands x ys (k - 1)) (sym line) nearer_line;
                  mine = ap (λ (l : ℕ). (l + 4) % 4) (turned ∙ same) ∙ back;
                  one = omega arith;
                  four = omega arith;
                };
            less = let one = w.one in omega arith;
          }

  nearer : grants s x (answer_to take book) ≡ false → Nearer
  unfolding next_turn shippers
  nearer not = by (next_turn book) refl
    where
      by : (next : Option ℕ) → next_turn book ≡ next → Nearer
      by None is = absurd (true≢false (sym any ∙ place_none (has_any book) 4 1 is t w.one (let four = w.four in omega arith)))
      by (Some j) is =
          by_cases (dec_lt j t) (later not j is)
          (λ round. now not j is (let first = turn_first book is in let None : t < j → ⊥ = λ past. true≢false (sym any ∙ first.before t w.one past) in by_cases (dec_lt t j) (λ past. absurd (None past)) (λ same. omega arith)))

-- what a fate means, of the steps made and the book left: a take in time, a withdrawal, or too few takes and waiting still
module _ (s x : ℕ) where
  abbrev pub Comes : ℕ → List Step → Book → Fate → Type 0
  Comes m steps left (taken n) = n ≤ m
  Comes m steps left withdrawn = Unit {0}
  Comes m steps left waits = (takes steps < m) × (is_one_of x (waiting_of left s) ≡ true)

  -- what holds of a fate holds a step earlier
  not_a_take : (m : ℕ) (first : Step) (rest : List Step) (left : Book) → takes (first ∷ rest) ≡ takes rest → (fate : Fate) → Comes m rest left fate → Comes m (first ∷ rest) left fate
  not_a_take m first rest left same (taken n) h = h
  not_a_take m first rest left same withdrawn h = h
  not_a_take m first rest left same waits h = (let less = h.0 in omega arith, h.1)

  one_take_more : (m : ℕ) (answer : Answer) (rest : List Step) (left : Book) (fate : Fate) → Comes m rest left fate → Comes (suc m) (step take answer ∷ rest) left (earlier (step take answer) fate)
  unfolding takes
  one_take_more m answer rest left (taken n) h = omega arith
  one_take_more m answer rest left withdrawn h = h
  one_take_more m answer rest left waits h = (let less = h.0 in omega arith, h.1)

  -- a waiting request is taken before its turns are up, unless it is withdrawn first; and it waits still if neither
  pub comes : (calls : List Call) (book : Book) (k t m : ℕ) → SoundBook book → Waits s x book k t → 4 * k + t ≤ m → Comes m (answers_to calls book) (after_all calls book) (fate_of s x (answers_to calls book))
  unfolding answers_to fate_of takes after after_all is_withdrawn is_taken
  comes [] book k t m sound w h = let st = w.stands in let one = w.one in (omega arith, among_at x (waiting_of book s) st.place st.within st.there)
  comes (request u y ∷ calls) book k t m sound w h =
      let did = request_did book u y in
      let next = after_request book u y in
      let still = waits_still s x book sound k t w next (in-turn book did) (stands_in s x book sound k w.stands did) in
      let steps = answers_to calls next in
      not_a_take m (step (request u y) (answer_to (request u y) book)) steps (after_all calls next) refl (fate_of s x steps) (comes calls next k t m (sound_after (request u y) book sound) still h)
  comes (withdrawal u y ∷ calls) book k t m sound w h =
      by (grants s x (answer_to (withdrawal u y) book)) refl
      (λ not.
      let still = waits_still s x book sound k t w (after_withdrawal book u y) (withdrawal_turn book u y) (stands_out s x book sound k w.stands (withdrawal_did book u y) not) in
      comes calls (after_withdrawal book u y) k t m (sound_after (withdrawal u y) book sound) still h)
    where
      rest : List Step
      rest = answers_to calls (after_withdrawal book u y)

      left : Book
      left = after_all calls (after_withdrawal book u y)

      by : (gone : Bool) → grants s x (answer_to (withdrawal u y) book) ≡ gone → (grants s x (answer_to (withdrawal u y) book) ≡ false → Comes m rest left (fate_of s x rest))
          → Comes m (step (withdrawal u y) (answer_to (withdrawal u y) book) ∷ rest) left (cond gone withdrawn (fate_of s x rest))
      by true is then = tt
      by false is then = not_a_take m (step (withdrawal u y) (answer_to (withdrawal u y) book)) rest left refl (fate_of s x rest) (then is)
  comes (setting figures ∷ calls) book k t m sound w h =
      let did = setting_did book figures in
      let next = after_setting book figures in
      let still = waits_still s x book sound k t w next (set_turn book did) (subst (λ (ys : List ℕ). Stands x ys k) (sym (set_line book s did)) w.stands) in
      let steps = answers_to calls next in
      not_a_take m (step (setting figures) (answer_to (setting figures) book)) steps (after_all calls next) refl (fate_of s x steps) (comes calls next k t m (sound_after (setting figures) book sound) still h)
  comes (take ∷ calls) book k t zero sound w h = let one = w.one in absurd (omega arith)
  comes (take ∷ calls) book k t (suc m) sound w h =
      by (grants s x (answer_to take book)) refl
      (λ not.
      let n = nearer s x book sound k t w not in
      let less = n.less in
      comes calls (after_take book) n.ahead n.turns m (sound_after take book sound) n.still (omega arith))
    where
      rest : List Step
      rest = answers_to calls (after_take book)

      left : Book
      left = after_all calls (after_take book)

      by : (gone : Bool) → grants s x (answer_to take book) ≡ gone → (grants s x (answer_to take book) ≡ false → Comes m rest left (fate_of s x rest))
          → Comes (suc m) (step take (answer_to take book) ∷ rest) left (cond gone (taken 1) (earlier (step take (answer_to take book)) (fate_of s x rest)))
      by true is then = omega arith
      by false is then = one_take_more m (answer_to take book) rest left (fate_of s x rest) (then is)

  pub no_later : (m : ℕ) (steps : List Step) (left : Book) (fate : Fate) → Comes m steps left fate → NoLaterThan m steps fate
  no_later m steps left (taken n) h = h
  no_later m steps left withdrawn h = h
  no_later m steps left waits h = h.0
