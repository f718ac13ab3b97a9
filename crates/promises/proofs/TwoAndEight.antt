-- With the default figures every ceiling is 8, every reserve 2 and the commons 8, so that today's definitions read as 01's.
use mathlib.Core.Path.{◌≡◌, refl, ap, ◌∙◌}
use mathlib.Core.Bool.{Bool, true, false, ◌&&◌, ◌||◌, not}
use mathlib.Core.Logic.{by_cases}
use Prim.Native.Nat.{ℕ, ◌+◌, ◌-◌, ◌<◌}
use native.Mathlib.Decide.{dec_lt}
use native.Mathlib.Omega.{arith}
use borrow.Author.Tests.{le-ltb}
use lib.Dec.{leb, ltb, eqb}
use lib.ListN.{length}
use Rattle.refusals.specs.Told.{Told, Fault, demand, or_else, unless, judged, left_by}
use Rattle.octets.specs.FirstToLast.{first_to_last, holds_all}
use Rattle.octets.specs.Lists.{is_one_of}
use Rattle.book.specs.Figures.{shippers, over_shippers, reserve, ceiling, line_at, waiting_of, has, beyond, commons_used, default_figures}
use Rattle.book.specs.Rules.{keep_rules}
use Rattle.book.specs.Sound.{is_line_sound, is_sound_at, are_lines_sound, is_sound}
use Rattle.book.specs.declared.Handed.{Handed}
use Rattle.book.specs.Calls.{call_fault, has_room, entry_fault, request_fault, request_of, entered, after_request, withdrawal_fault, withdrawal_of, removed, after_withdrawal, next_turn, handed_out, take_of, after_take}
use Rattle.book.specs.declared.Book.{Book}
use Rattle.book.proofs.Demand3.{default-figures}
use Rattle.book.proofs.Empty.{default_keep_rules}
use Rattle.book.proofs.Kept.{request_did, withdrawal_did, take_did, in-figures, out_figures}
use Rattle.promises.specs.TwoAndEight.{commons_used01, is_sound_at01, is_sound01, call_fault01, entry_fault01, request_of01, withdrawal_of01, take_of01, TwoAndEight}

module _ (book : Book) (default : book.figures ≡ default_figures) where
  two : (s : ℕ) → s < 4 → reserve book s ≡ 2
  two s known = ((default-figures book default).0 s known).0

  eight : (s : ℕ) → s < 4 → ceiling book s ≡ 8
  eight s known = ((default-figures book default).0 s known).1

  same_used : commons_used book ≡ commons_used01 book
  unfolding commons_used commons_used01 beyond over_shippers
  same_used =
      λ i. (has book 0 - two 0 (omega arith) i) + ((has book 1 - two 1 (omega arith) i) + ((has book 2 - two 2 (omega arith) i) + (has book 3 - two 3 (omega arith) i)))

  same_lines : are_lines_sound book ≡ holds_all (is_sound_at01 book) shippers 0
  unfolding are_lines_sound is_sound_at is_sound_at01 first_to_last shippers
  same_lines =
      λ i.
      is_line_sound (eight 0 (omega arith) i) (line_at book 0) && (is_line_sound (eight 1 (omega arith) i) (line_at book 1)
      && (is_line_sound (eight 2 (omega arith) i) (line_at book 2) && (is_line_sound (eight 3 (omega arith) i) (line_at book 3) && true)))

  rules : keep_rules book.figures ≡ true
  rules = ap keep_rules default ∙ default_keep_rules

  same_sound : is_sound book ≡ is_sound01 book
  unfolding is_sound is_sound01
  same_sound =
      λ i. eqb (length book.lines) shippers && (rules i && (same_lines i && (leb (same_used i) ((default-figures book default).1 i) && ltb book.last shippers)))

  module _ (s x : ℕ) where
    same_call : call_fault book s x ≡ call_fault01 book s x
    unfolding call_fault call_fault01
    same_call = ap (λ (t : Bool). or_else (demand t 20) (or_else (demand (ltb s shippers) 21) (demand (not (eqb x 0)) 22))) same_sound

    module _ (known : s < 4) where
      same_entry : entry_fault book s x ≡ entry_fault01 book s x
      unfolding entry_fault entry_fault01 has_room
      same_entry =
          λ i.
          or_else (demand (not (is_one_of x (waiting_of book s))) 23)
          (or_else (demand (ltb (has book s) (eight s known i)) 24)
          (demand (ltb (has book s) (two s known i) || ltb (same_used i) ((default-figures book default).1 i)) 25))

    -- one who is no shipper is refused before its line is looked at
    stops : ltb s shippers ≡ false → (entry other : Fault) → or_else (call_fault01 book s x) entry ≡ or_else (call_fault01 book s x) other
    unfolding call_fault01
    stops unknown entry other = rw unknown (by (is_sound01 book))
      where
        by : (t : Bool) → or_else (or_else (demand t 20) (or_else (demand false 21) (demand (not (eqb x 0)) 22))) entry
            ≡ or_else (or_else (demand t 20) (or_else (demand false 21) (demand (not (eqb x 0)) 22))) other
        by true = refl
        by false = refl

    same_fault : request_fault book s x ≡ or_else (call_fault01 book s x) (entry_fault01 book s x)
    unfolding request_fault shippers
    same_fault =
        by_cases (dec_lt s 4) (λ known. λ i. or_else (same_call i) (same_entry known i))
        (λ unknown. ap (λ (f : Fault). or_else f (entry_fault book s x)) same_call ∙ stops (le-ltb s 4 (omega arith)) (entry_fault book s x) (entry_fault01 book s x))

    same_request : request_of book s x ≡ request_of01 book s x
    unfolding request_of request_of01
    same_request = ap (λ (f : Fault). judged {A = Unit {0}} f tt) same_fault

    same_withdrawal : withdrawal_of book s x ≡ withdrawal_of01 book s x
    unfolding withdrawal_of withdrawal_of01 withdrawal_fault
    same_withdrawal = ap (λ (f : Fault). judged {A = Unit {0}} (or_else f (demand (is_one_of x (waiting_of book s)) 26)) tt) same_call

    request_leaves : (after_request book s x ≡ left_by (request_of01 book s x) (λ (made : Unit). entered book s x) book) × ((after_request book s x).figures ≡ default_figures)
    unfolding after_request
    request_leaves = (ap (λ (t : Told Unit). left_by t (λ (made : Unit). entered book s x) book) same_request, in-figures book (request_did book s x) ∙ default)

    withdrawal_leaves : (after_withdrawal book s x ≡ left_by (withdrawal_of01 book s x) (λ (made : Unit). removed book s x book.last) book) × ((after_withdrawal book s x).figures ≡ default_figures)
    unfolding after_withdrawal
    withdrawal_leaves = (ap (λ (t : Told Unit). left_by t (λ (made : Unit). removed book s x book.last) book) same_withdrawal, out_figures book (withdrawal_did book s x) ∙ default)

  same_take : take_of book ≡ take_of01 book
  unfolding take_of take_of01
  same_take = ap (λ (t : Bool). unless (demand t 20) (handed_out book (next_turn book))) same_sound

  take_leaves : (after_take book ≡ left_by (take_of01 book) (λ (handed : Handed). removed book handed.shipper handed.number handed.shipper) book) × ((after_take book).figures ≡ default_figures)
  unfolding after_take
  take_leaves =
      (ap (λ (t : Told Handed). left_by t (λ (handed : Handed). removed book handed.shipper handed.number handed.shipper) book) same_take, out_figures book (take_did book) ∙ default)

pub two_and_eight : TwoAndEight
two_and_eight =
    record {
      sound_as_in_01 = same_sound;
      requests_as_in_01 = λ book s x default. same_request book default s x;
      withdrawals_as_in_01 = λ book s x default. same_withdrawal book default s x;
      takes_as_in_01 = same_take;
      request_leaves_as_in_01 = λ book s x default. request_leaves book default s x;
      withdrawal_leaves_as_in_01 = λ book s x default. withdrawal_leaves book default s x;
      take_leaves_as_in_01 = take_leaves;
    }
