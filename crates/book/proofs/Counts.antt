-- What goes in comes out once or waits: each call moves a shipper's number in, out, or leaves it, and the sum over all calls.
use mathlib.Core.Path.{◌≡◌, ap}
use mathlib.Core.Bool.{◌&&◌}
use mathlib.Core.List.{List, [], ◌∷◌, ◌++◌}
use Prim.Native.Nat.{ℕ, ◌+◌}
use native.Mathlib.Omega.{arith}
use borrow.Author.Tests.{eq-eqb, ne_eqb}
use lib.Dec.{eqb}
use Rattle.book.specs.Line.{without}
use Rattle.book.specs.Figures.{waiting_of}
use Rattle.book.specs.Calls.{entered, removed}
use Rattle.book.specs.Demand3.{Call, request, withdrawal, take, setting, Answer, answer_to, after, after_all, step, answers_to, grants, is_going_in, is_withdrawn, is_taken, how_often, times}
use Rattle.book.specs.declared.Book.{Book}
use Rattle.book.proofs.Books.{SoundBook}
use Rattle.book.proofs.Kept.{In, no_in, went-in, Out, no_out, went_out, request_did, withdrawal_did, take_did, setting_did, set_line, sound_after, put_line}
use Rattle.book.proofs.Waiting.{once, times-append, times_without}

module _ (s x : ℕ) (book : Book) (sound : SoundBook book) where
  -- a request that goes in is one more, of its own shipper and number
  in-counts : {answer : Answer} {left : Book} → In book answer left → once (grants s x answer) + times x (waiting_of book s) ≡ times x (waiting_of left s)
  unfolding entered times
  in-counts (no_in n at) = omega arith
  in-counts (went-in t y told) =
      put_line (λ (ys : List ℕ). once (eqb s t && eqb x y) + times x (waiting_of book s) ≡ times x ys) book t (waiting_of book t ++ (y ∷ [])) book.last s sound told.call.known
      (λ same. let more = times-append x (waiting_of book t) (y ∷ []) in let mine = ap (λ (k : ℕ). times x (waiting_of book k)) same in rw (eq-eqb s t same) (omega arith))
      (λ other. rw (ne_eqb s t other) (omega arith))

  -- a request that leaves is one fewer, of its own shipper and number
  out_counts : {answer : Answer} {left : Book} → Out book answer left → times x (waiting_of book s) ≡ once (grants s x answer) + times x (waiting_of left s)
  unfolding removed
  out_counts (no_out n at) = omega arith
  out_counts (went_out t y last known waits turn) =
      put_line (λ (ys : List ℕ). times x (waiting_of book s) ≡ once (eqb s t && eqb x y) + times x ys) book t (without y (waiting_of book t)) last s sound known
      (λ same. let fewer = times_without x y (waiting_of book t) waits in let mine = ap (λ (k : ℕ). times x (waiting_of book k)) same in rw (eq-eqb s t same) (omega arith))
      (λ other. rw (ne_eqb s t other) (omega arith))

-- at each call
moves : (s x : ℕ) (call : Call) (book : Book) → SoundBook book
    → once (is_going_in s x (step call (answer_to call book))) + times x (waiting_of book s)
    ≡ once (is_taken s x (step call (answer_to call book))) + (once (is_withdrawn s x (step call (answer_to call book))) + times x (waiting_of (after call book) s))
unfolding is_going_in is_taken is_withdrawn after
moves s x (request t y) book sound = let h = in-counts s x book sound (request_did book t y) in omega arith
moves s x (withdrawal t y) book sound = let h = out_counts s x book sound (withdrawal_did book t y) in omega arith
moves s x take book sound = let h = out_counts s x book sound (take_did book) in omega arith
moves s x (setting figures) book sound = let h = ap (times x) (set_line book s (setting_did book figures)) in omega arith

-- over all calls
pub balance : (s x : ℕ) (calls : List Call) (book : Book) → SoundBook book
    → how_often (is_going_in s x) (answers_to calls book) + times x (waiting_of book s)
    ≡ how_often (is_taken s x) (answers_to calls book) + how_often (is_withdrawn s x) (answers_to calls book) + times x (waiting_of (after_all calls book) s)
unfolding how_often answers_to after_all
balance s x [] book sound = omega arith
balance s x (call ∷ calls) book sound =
    let here = moves s x call book sound in
    let rest = balance s x calls (after call book) (sound_after call book sound) in
    omega arith
