-- Laws of the calls: what an accepted call tells, and what makes a request go in.
use mathlib.Core.Path.{◌≡◌, ap, ◌∙◌}
use mathlib.Core.Bool.{Bool, true, false, ◌||◌, not, or-true}
use Prim.Native.Nat.{ℕ, ◌<◌}
use borrow.Author.Tests.{lt-ltb, ltb-true, ne_eqb, eqb-true, eqb-false, not-true}
use lib.Dec.{ltb, eqb}
use Rattle.refusals.specs.Told.{done, fine, demand}
use Rattle.refusals.proofs.Laws.{or_else_fine_first, or_else_fine_next, demand_was}
use Rattle.octets.specs.Lists.{is_one_of}
use Rattle.book.specs.Figures.{shippers, reserve, ceiling, commons, waiting_of, has, held, commons_used}
use Rattle.book.specs.Rules.{keep_rules}
use Rattle.book.specs.Sound.{is_sound}
use Rattle.book.specs.Calls.{call_fault, has_room, entry_fault, request_fault, request_of, withdrawal_fault, setting_fault}
use Rattle.book.specs.declared.Book.{Book}
use Rattle.book.specs.declared.Figures.{Figures}
use Rattle.book.proofs.Books.{SoundBook, sound_is, is-sound}

-- what the first three tests tell where none of them is at fault
pub record Called (book : Book) (s x : ℕ) : Type 0 where
  pub sound : SoundBook book
  pub known : s < 4
  pub valid : x ≡ 0 → ⊥

pub called : (book : Book) (s x : ℕ) → call_fault book s x ≡ fine → Called book s x
unfolding call_fault shippers
called book s x is =
    let next = or_else_fine_next (demand (is_sound book) 20) _ is in
    record {
      sound = sound_is book (demand_was _ 20 (or_else_fine_first _ _ is));
      known = ltb-true _ _ (demand_was _ 21 (or_else_fine_first _ _ next));
      valid = eqb-false _ _ (not-true _ (demand_was _ 22 (or_else_fine_next (demand (ltb s 4) 21) _ next)));
    }

-- what a request that goes in tells
pub record Accepted (book : Book) (s x : ℕ) : Type 0 where
  pub call : Called book s x
  pub new : is_one_of x (waiting_of book s) ≡ false
  pub below : has book s < ceiling book s
  pub room : has_room book s ≡ true

pub accepted : (book : Book) (s x : ℕ) → request_fault book s x ≡ fine → Accepted book s x
unfolding request_fault entry_fault
accepted book s x all =
    let from23 = or_else_fine_next (call_fault book s x) _ all in
    let from24 = or_else_fine_next (demand (not (is_one_of x (waiting_of book s))) 23) _ from23 in
    record {
      call = called book s x (or_else_fine_first _ _ all);
      new = not-true _ (demand_was _ 23 (or_else_fine_first _ _ from23));
      below = ltb-true _ _ (demand_was _ 24 (or_else_fine_first _ _ from24));
      room = demand_was _ 25 (or_else_fine_next (demand (ltb (has book s) (ceiling book s)) 24) _ from24);
    }

pub request_in : (book : Book) (s x : ℕ) → Accepted book s x → request_of book s x ≡ done tt
unfolding request_of request_fault call_fault entry_fault shippers
request_in book s x told =
    let call = told.call in
    rw (is-sound book call.sound, lt-ltb _ _ call.known, ne_eqb _ _ call.valid, told.new, lt-ltb _ _ told.below, told.room)

-- what a withdrawal that is granted tells
pub record Granted (book : Book) (s x : ℕ) : Type 0 where
  pub call : Called book s x
  pub waits : is_one_of x (waiting_of book s) ≡ true

pub granted : (book : Book) (s x : ℕ) → withdrawal_fault book s x ≡ fine → Granted book s x
unfolding withdrawal_fault
granted book s x all =
    record { call = called book s x (or_else_fine_first _ _ all); waits = demand_was _ 26 (or_else_fine_next (call_fault book s x) _ all) }

-- what a setting that is made tells
pub record Settable (book : Book) (figures : Figures) : Type 0 where
  pub empty : held book ≡ 0
  pub rules : keep_rules figures ≡ true

pub settable : (book : Book) (figures : Figures) → setting_fault book figures ≡ fine → Settable book figures
unfolding setting_fault
settable book figures all =
    let from30 = or_else_fine_next (demand (is_sound book) 20) _ all in
    record {
      empty = eqb-true _ _ (demand_was _ 30 (or_else_fine_first _ _ from30));
      rules = demand_was _ 31 (or_else_fine_next (demand (eqb (held book) 0) 30) _ from30);
    }

-- room: below the reserve, or in the commons
module _ (book : Book) (s : ℕ) where
  pub room_reserve : has book s < reserve book s → has_room book s ≡ true
  unfolding has_room
  room_reserve few = rw (lt-ltb _ _ few)

  pub room_commons : commons_used book < commons book → has_room book s ≡ true
  unfolding has_room
  room_commons free = ap (λ (t : Bool). ltb (has book s) (reserve book s) || t) (lt-ltb _ _ free) ∙ or-true (ltb (has book s) (reserve book s))
