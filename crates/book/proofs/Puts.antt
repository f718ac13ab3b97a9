-- Laws of a book with one shipper's line put anew: that line, the others, the commons used, and that it stays sound.
use mathlib.Core.Path.{◌≡◌, refl, sym, ap, ◌∙◌, subst}
use mathlib.Core.Bool.{true}
use mathlib.Core.List.{List, ◌++◌}
use Prim.Native.Nat.{ℕ, zero, suc, ◌+◌, ◌-◌, ◌≤◌, ◌<◌}
use native.Mathlib.Decide.{ℕ_discrete}
use native.Mathlib.Omega.{arith}
use lib.ListN.{length, get_or, replicate, length-append, length-replicate, length-set, get_or-replicate}
use lib.Seq.{get_or-set_same, get_or-set_other, get_or-append-add, take_at}
use Rattle.octets.proofs.Laws.{zero_all}
use Rattle.book.specs.Line.{waiting, line_of, are_proper}
use Rattle.book.specs.Figures.{over_shippers, places, reserve, ceiling, commons, line_at, waiting_of, has, beyond, commons_used, put}
use Rattle.book.specs.declared.Book.{Book}
use Rattle.book.proofs.Books.{SoundLine, SoundBook}

-- the line of some numbers: what waits in it, and that it is sound
waiting_line_of : (xs : List ℕ) → waiting (line_of xs) ≡ xs
unfolding waiting line_of
waiting_line_of xs = take_at xs _ (length xs) refl

line_of_sound : (top : ℕ) (xs : List ℕ) → top ≤ 16 → length xs ≤ top → are_proper xs ≡ true → SoundLine top (line_of xs)
unfolding line_of
line_of_sound top xs narrow few proper =
    record {
      wide = simp (length-append, length-replicate) (omega arith);
      few = few;
      narrow = narrow;
      proper = ap are_proper (waiting_line_of xs) ∙ proper;
      unused = zero_all (xs ++ replicate (16 - length xs) 0) (length xs) 16 unused;
    }
  where
    unused : (k : ℕ) → length xs ≤ k → k < 16 → get_or (xs ++ replicate (16 - length xs) 0) k 0 ≡ 0
    unused k l h =
        let at : k ≡ length xs + (k - length xs) = omega arith in
        ap (λ (n : ℕ). get_or (xs ++ replicate (16 - length xs) 0) n 0) at ∙ get_or-append-add xs (replicate (16 - length xs) 0) (k - length xs) 0
        ∙ get_or-replicate (16 - length xs) (k - length xs) 0 0 (omega arith)

-- a sum over the shippers that changes at one
sum_change : (f g : ℕ → ℕ) (s : ℕ) → s < 4 → ((t : ℕ) → (t ≡ s → ⊥) → g t ≡ f t) → over_shippers g + f s ≡ over_shippers f + g s
unfolding over_shippers
sum_change f g zero h same = let a = same 1 (λ e. omega arith) in let b = same 2 (λ e. omega arith) in let c = same 3 (λ e. omega arith) in omega arith
sum_change f g (suc zero) h same = let a = same 0 (λ e. omega arith) in let b = same 2 (λ e. omega arith) in let c = same 3 (λ e. omega arith) in omega arith
sum_change f g (suc (suc zero)) h same = let a = same 0 (λ e. omega arith) in let b = same 1 (λ e. omega arith) in let c = same 3 (λ e. omega arith) in omega arith
sum_change f g (suc (suc (suc zero))) h same = let a = same 0 (λ e. omega arith) in let b = same 1 (λ e. omega arith) in let c = same 2 (λ e. omega arith) in omega arith
sum_change f g (suc (suc (suc (suc s)))) h same = absurd (omega arith)

module _ (book : Book) (s : ℕ) (xs : List ℕ) (last : ℕ) where
  at_put_other : (t : ℕ) → (t ≡ s → ⊥) → line_at (put book s xs last) t ≡ line_at book t
  unfolding line_at put
  at_put_other t other = get_or-set_other book.lines s t (line_of xs) _ other

  pub waiting_put_other : (t : ℕ) → (t ≡ s → ⊥) → waiting_of (put book s xs last) t ≡ waiting_of book t
  unfolding waiting_of
  waiting_put_other t other = ap waiting (at_put_other t other)

  module _ (four : length book.lines ≡ 4) (known : s < 4) where
    at_put : line_at (put book s xs last) s ≡ line_of xs
    unfolding line_at put
    at_put = get_or-set_same book.lines s (line_of xs) _ (omega arith)

    pub waiting_put : waiting_of (put book s xs last) s ≡ xs
    unfolding waiting_of
    waiting_put = ap waiting at_put ∙ waiting_line_of xs

    pub commons_put : commons_used (put book s xs last) + (has book s - reserve book s) ≡ commons_used book + (length xs - reserve book s)
    unfolding commons_used beyond reserve has put
    commons_put =
        sum_change (beyond book) (beyond (put book s xs last)) s known (λ t other. ap (λ (ys : List ℕ). length ys - reserve book t) (waiting_put_other t other))
        ∙ ap (λ (ys : List ℕ). over_shippers (beyond book) + (length ys - reserve book s)) waiting_put

  -- a book stays sound where the new line is proper and within the ceiling, and the commons hold it
  pub sound_put : SoundBook book → s < 4 → length xs ≤ ceiling book s → are_proper xs ≡ true → commons_used (put book s xs last) ≤ commons book → last < 4 → SoundBook (put book s xs last)
  unfolding put ceiling commons places over_shippers reserve
  sound_put sound known few proper fits turn =
      record {
        four = length-set book.lines s (line_of xs) ∙ sound.four;
        rules = sound.rules;
        lines = λ t h. by t h (ℕ_discrete t s);
        used = fits;
        turn = turn;
      }
    where
      by : (t : ℕ) → t < 4 → Dec (t ≡ s) → SoundLine (ceiling book t) (line_at (put book s xs last) t)
      by t h (yes same) =
          let mine = line_of_sound (ceiling book s) xs (sound.lines s known).narrow few proper in
          subst (λ (n : ℕ). SoundLine (ceiling book n) (line_at (put book s xs last) n)) (sym same) (subst (SoundLine (ceiling book s)) (sym (at_put sound.four known)) mine)
      by t h (no other) = subst (SoundLine (ceiling book t)) (sym (at_put_other t other)) (sound.lines t h)
