-- A record taken out of the table has the number that it has in it.
use mathlib.Core.Path.{◌≡◌, ap, ◌∙◌}
use mathlib.Core.Bool.{◌&&◌, cond}
use mathlib.Core.List.{List}
use Prim.Native.Nat.{ℕ, ◌+◌, ◌*◌, ◌≤◌}
use native.Mathlib.Omega.{arith}
use lib.Dec.{eqb}
use Rattle.std.proofs.Math.ListN.{get_or, take, drop}
use Rattle.std.proofs.lemmas.List.{get_or-take, get_or-drop}
use Rattle.octets.specs.Octets.{word_at, signed_at, signed_of}
use Rattle.octets.proofs.Laws.{number_same}
use Rattle.lookup.specs.Table.{entry_from, entry_at, entry_ok, record_ok}
use Rattle.lookup.specs.Rank.{rank_of, rank_at}

-- a word of the part is the table's
own_word : (s : List ℕ) (at from place : ℕ) → from + 2 ≤ 8 → place ≡ at + from → word_at (take 8 (drop at s)) from ≡ word_at s place
unfolding word_at
own_word s at from place few is = number_same 2 (take 8 (drop at s)) s from place
    (λ j h. get_or-take 8 (drop at s) (from + j) 0 (omega arith) ∙ get_or-drop at s (from + j) 0 ∙ ap (λ (k : ℕ). get_or s k 0) (omega arith))

own_entry : (s : List ℕ) (i : ℕ) → entry_at (take 8 (drop (8 * i) s)) 0 ≡ entry_at s i
unfolding entry_at entry_from signed_at
own_entry s i = let at = 8 * i in λ k. record {
  temperature = signed_of (own_word s at 0 at (omega arith) (omega arith) k);
  gravity = own_word s at 2 (at + 2) (omega arith) (omega arith) k;
  compressibility = own_word s at 4 (at + 4) (omega arith) (omega arith) k;
}

pub own_rank : (s : List ℕ) (i : ℕ) → rank_at (take 8 (drop (8 * i) s)) 0 ≡ rank_at s i
unfolding rank_at record_ok
own_rank s i =
    let entry = own_entry s i in
    let rest = own_word s (8 * i) 6 (8 * i + 6) (omega arith) (omega arith) in
    λ k. cond (entry_ok (entry k) && eqb (rest k) 0) (rank_of (entry k).temperature (entry k).gravity) 0
