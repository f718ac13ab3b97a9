-- What the code does over a session is what the book's meanings say: each face's contract gives the meaning of a call, and a session is
-- made of calls.
use Rattle.std.specs.Prelude.{Result, Ok, Err, Option, None, Some}
use mathlib.Core.Path.{◌≡◌, refl, sym, ap, ◌∙◌}
use mathlib.Core.Bool.{Bool, true, false, not}
use mathlib.Core.List.{List, [], ◌∷◌}
use Prim.Native.Nat.{ℕ}
use lib.Dec.{ltb, eqb}
use Rattle.refusals.specs.Told.{Told, refused, Fault, fine, fault, demand, or_else, unless, judged}
use Rattle.refusals.specs.Table.{number_of, record_of}
use Rattle.refusals.specs.declared.Refusal.{Refusal}
use Rattle.refusals.specs.declared.Refusal.TheVariants.{BookNotSound, UnknownShipper, NumberZero, AlreadyWaiting, CeilingReached, CommonsFull, NotWaiting, NothingToTake, BookNotEmpty, FiguresOutside}
use Rattle.octets.specs.Lists.{is_one_of}
use Rattle.book.specs.Figures.{shippers, ceiling, waiting_of, has, held}
use Rattle.book.specs.Rules.{keep_rules}
use Rattle.book.specs.Calls.{call_fault, has_room, entry_fault, request_fault, request_of, after_request, withdrawal_fault, withdrawal_of, after_withdrawal, next_turn, oldest_of, handed_out, take_of, after_take, setting_fault, setting_of, after_setting}
use Rattle.book.specs.Demand3.{Call, request, withdrawal, take, setting, Answer, no_request, answer_to, after, after_all, Step, step, answers_to}
use Rattle.book.specs.Sound.{is_sound}
use Rattle.book.specs.declared.Book.{Book}
use Rattle.book.specs.declared.Figures.{Figures}
use Rattle.api.specs.Flat.{flat_done, flat_taken}
use Rattle.promises.specs.Sessions.{Contracts, Session, about, about_none, ByValue, KeptInPlace, FromC, calls_of, AsMeant, Sessions}
use Rattle.promises.proofs.EntriesC.{entries_c}
use Rattle.refusals.specs.Answered.{told}
use Rattle.book.specs.declared.Handed.{Handed}

-- ---- a session of calls that each do what they mean

module _ (does : Contracts) where
  -- a call's contract gives its meaning, and its meaning satisfies the contract
  abbrev Gives : Type 0
  Gives = (call : Call) (found : Book) (answer : Answer) (left : Book) → does call found answer left → (answer ≡ answer_to call found) × (left ≡ after call found)

  abbrev Meets : Type 0
  Meets = (call : Call) (found : Book) → does call found (answer_to call found) (after call found)

  over_session : Gives → (found : Book) (steps : List Step) (left : Book) → Session does found steps left → (steps ≡ answers_to (calls_of steps) found) × (left ≡ after_all (calls_of steps) found)
  unfolding Session calls_of answers_to after_all
  over_session gives found [] left is = (refl, is)
  over_session gives found (step call answer ∷ steps) left (next, did, rest) =
      let here = gives call found answer next did in
      let then = over_session gives next steps left rest in
      (λ i. step call (here.0 i) ∷ (then.0 ∙ ap (answers_to (calls_of steps)) here.1) i, then.1 ∙ ap (after_all (calls_of steps)) here.1)

  any_session : Meets → (calls : List Call) (found : Book) → Session does found (answers_to calls found) (after_all calls found)
  unfolding Session answers_to after_all
  any_session meets [] found = refl
  any_session meets (call ∷ calls) found = (after call found, meets call found, any_session meets calls (after call found))

  as_meant : Gives → Meets → AsMeant does
  as_meant gives meets = record { each_call = gives; every_session = over_session gives; any_calls = any_session meets }

-- what is judged, of the request that was named
pub about_judged : (shipper number : ℕ) (f : Fault) → about shipper number (judged f tt) ≡ judged f (record { shipper = shipper; number = number })
about_judged shipper number fine = refl
about_judged shipper number (fault n at) = refl

-- ---- every answer of the meanings has a case that tells it

record Tells (f : Fault) : Type 0 where
  case : Result Unit Refusal
  tells : told case ≡ judged f tt

tells_demand : (t : Bool) (refusal : Refusal) → record_of refusal ≡ 0 → Tells (demand t (number_of refusal))
tells_demand true refusal plain = record { case = (Ok tt); tells = refl }
tells_demand false refusal plain = record { case = Err refusal; tells = λ i. refused (number_of refusal) (plain i) }

tells_or_else : (f g : Fault) → Tells f → Tells g → Tells (or_else f g)
tells_or_else fine g p q = q
tells_or_else (fault n at) g p q = p

tells_call : (book : Book) (shipper number : ℕ) → Tells (call_fault book shipper number)
unfolding call_fault
tells_call book shipper number =
    tells_or_else _ _ (tells_demand (is_sound book) BookNotSound refl)
    (tells_or_else _ _ (tells_demand (ltb shipper shippers) UnknownShipper refl) (tells_demand (not (eqb number 0)) NumberZero refl))

tells_request : (book : Book) (shipper number : ℕ) → Tells (request_fault book shipper number)
unfolding request_fault entry_fault
tells_request book shipper number =
    tells_or_else _ _ (tells_call book shipper number)
    (tells_or_else _ _ (tells_demand (not (is_one_of number (waiting_of book shipper))) AlreadyWaiting refl)
    (tells_or_else _ _ (tells_demand (ltb (has book shipper) (ceiling book shipper)) CeilingReached refl) (tells_demand (has_room book shipper) CommonsFull refl)))

tells_withdrawal : (book : Book) (shipper number : ℕ) → Tells (withdrawal_fault book shipper number)
unfolding withdrawal_fault
tells_withdrawal book shipper number = tells_or_else _ _ (tells_call book shipper number) (tells_demand (is_one_of number (waiting_of book shipper)) NotWaiting refl)

tells_setting : (book : Book) (figures : Figures) → Tells (setting_fault book figures)
unfolding setting_fault
tells_setting book figures =
    tells_or_else _ _ (tells_demand (is_sound book) BookNotSound refl)
    (tells_or_else _ _ (tells_demand (eqb (held book) 0) BookNotEmpty refl) (tells_demand (keep_rules figures) FiguresOutside refl))

tells_take : (book : Book) → (r : Result Handed Refusal) × (told r ≡ take_of book)
unfolding take_of handed_out oldest_of
tells_take book = by (is_sound book) (next_turn book)
  where
    by : (t : Bool) (next : Option ℕ) → (r : Result Handed Refusal) × (told r ≡ unless (demand t 20) (handed_out book next))
    by false next = (Err BookNotSound, refl)
    by true None = (Err NothingToTake, refl)
    by true (Some turn) = (Ok _, refl)

-- the answer that a case tells, of the request that was named
told_about : (shipper number : ℕ) (f : Fault) (t : Told Unit) → t ≡ judged f tt → about shipper number t ≡ judged f (record { shipper = shipper; number = number })
told_about shipper number f t is = ap (about shipper number) is ∙ about_judged shipper number f

told_about_none : (f : Fault) (t : Told Unit) → t ≡ judged f tt → about_none t ≡ judged f no_request
told_about_none f t is = told_about 0 0 f t is

-- ---- by value

by_value_gives : Gives ByValue
unfolding ByValue answer_to after request_of withdrawal_of setting_of
by_value_gives (request s x) found answer left (r, post, told, back) = (told ∙ told_about s x (request_fault found s x) _ post.0, back ∙ post.1)
by_value_gives (withdrawal s x) found answer left (r, post, told, back) = (told ∙ told_about s x (withdrawal_fault found s x) _ post.0, back ∙ post.1)
by_value_gives take found answer left (r, post, told, back) = (told ∙ post.0, back ∙ post.1)
by_value_gives (setting f) found answer left (r, post, told, back) = (told ∙ told_about_none (setting_fault found f) _ post.0, back ∙ post.1)

by_value_meets : Meets ByValue
unfolding ByValue answer_to after request_of withdrawal_of setting_of
by_value_meets (request s x) found =
    let t = tells_request found s x in
    (record { book = after_request found s x; answer = t.case }, (t.tells, refl), sym (told_about s x (request_fault found s x) _ t.tells), refl)
by_value_meets (withdrawal s x) found =
    let t = tells_withdrawal found s x in
    (record { book = after_withdrawal found s x; answer = t.case }, (t.tells, refl), sym (told_about s x (withdrawal_fault found s x) _ t.tells), refl)
by_value_meets take found = let t = tells_take found in (record { book = after_take found; answer = t.0 }, (t.1, refl), sym t.1, refl)
by_value_meets (setting f) found =
    let t = tells_setting found f in
    (record { book = after_setting found f; answer = t.case }, (t.tells, refl), sym (told_about_none (setting_fault found f) _ t.tells), refl)

-- ---- in place

in-place-gives : Gives KeptInPlace
unfolding KeptInPlace answer_to after request_of withdrawal_of setting_of
in-place-gives (request s x) found answer left (r, post, told) = (told ∙ told_about s x (request_fault found s x) _ post.0, post.1)
in-place-gives (withdrawal s x) found answer left (r, post, told) = (told ∙ told_about s x (withdrawal_fault found s x) _ post.0, post.1)
in-place-gives take found answer left (r, post, told) = (told ∙ post.0, post.1)
in-place-gives (setting f) found answer left (r, post, told) = (told ∙ told_about_none (setting_fault found f) _ post.0, post.1)

in-place-meets : Meets KeptInPlace
unfolding KeptInPlace answer_to after request_of withdrawal_of setting_of
in-place-meets (request s x) found = let t = tells_request found s x in (t.case, (t.tells, refl), sym (told_about s x (request_fault found s x) _ t.tells))
in-place-meets (withdrawal s x) found = let t = tells_withdrawal found s x in (t.case, (t.tells, refl), sym (told_about s x (withdrawal_fault found s x) _ t.tells))
in-place-meets take found = let t = tells_take found in (t.0, (t.1, refl), sym t.1)
in-place-meets (setting f) found = let t = tells_setting found f in (t.case, (t.tells, refl), sym (told_about_none (setting_fault found f) _ t.tells))

-- ---- from C: what is read of the struct is its meaning

from_c_gives : Gives FromC
unfolding FromC answer_to after request_of withdrawal_of setting_of
from_c_gives (request s x) found answer left (r, post, told) = (told ∙ told_about s x (request_fault found s x) _ (entries_c.request_entry s x found left r post).means, post.1)
from_c_gives (withdrawal s x) found answer left (r, post, told) = (told ∙ told_about s x (withdrawal_fault found s x) _ (entries_c.withdraw_entry s x found left r post).means, post.1)
from_c_gives take found answer left (r, post, told) = (told ∙ (entries_c.take_entry found left r post).means, post.1)
from_c_gives (setting f) found answer left (r, post, told) = (told ∙ told_about_none (setting_fault found f) _ (entries_c.set_figures_entry f found left r post).means, post.1)

from_c_meets : Meets FromC
unfolding FromC answer_to after request_of withdrawal_of setting_of
from_c_meets (request s x) found =
    (flat_done (request_of found s x), (refl, refl), sym (told_about s x (request_fault found s x) _ (entries_c.request_entry s x found (after_request found s x) _ (refl, refl)).means))
from_c_meets (withdrawal s x) found =
    (flat_done (withdrawal_of found s x), (refl, refl), sym (told_about s x (withdrawal_fault found s x) _ (entries_c.withdraw_entry s x found (after_withdrawal found s x) _ (refl, refl)).means))
from_c_meets take found = (flat_taken (take_of found), (refl, refl), sym (entries_c.take_entry found (after_take found) _ (refl, refl)).means)
from_c_meets (setting f) found =
    (flat_done (setting_of found f), (refl, refl), sym (told_about_none (setting_fault found f) _ (entries_c.set_figures_entry f found (after_setting found f) _ (refl, refl)).means))

pub sessions : Sessions
sessions =
    record {
      by_value = as_meant ByValue by_value_gives by_value_meets;
      in_place = as_meant KeptInPlace in-place-gives in-place-meets;
      from_c = as_meant FromC from_c_gives from_c_meets;
    }
