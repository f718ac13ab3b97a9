-- Records one behind the other: how long they are, and where each byte of each stands.
use mathlib.Core.Path.{◌≡◌, sym, ap, ◌∙◌}
use mathlib.Core.List.{List, ◌++◌}
use mathlib.Core.Logic.{⊎_elim}
use Prim.Native.Nat.{ℕ, zero, suc, ◌+◌, ◌*◌, ◌≤◌, ◌<◌}
use native.Mathlib.Nat.{mul-le-mul, mul-suc, eq-or-lt_of_le}
use native.Mathlib.Omega.{arith}
use lib.ListN.{length, get_or, length-append, get_or-append}
use lib.Seq.{get_or-append-add}
use Rattle.octets.specs.Records.{joined}

module _ (size : ℕ) (record_at : ℕ → List ℕ) where
  -- each of the first n has the size
  abbrev pub Sized : ℕ → Type 0
  Sized n = (i : ℕ) → i < n → length (record_at i) ≡ size

  pub joined_length : (n : ℕ) → Sized n → length (joined record_at n) ≡ size * n
  unfolding joined
  joined_length zero each = omega arith
  joined_length (suc n) each =
      let before : length (joined record_at n) ≡ size * n = joined_length n (λ i h. each i (omega arith)) in
      let last : length (record_at n) ≡ size = each n (omega arith) in
      length-append (joined record_at n) (record_at n) ∙ (λ i. before i + last i) ∙ sym (mul-suc size n)

  -- byte j of record i
  pub joined_byte : (n : ℕ) → Sized n → (i j : ℕ) → i < n → j < size → get_or (joined record_at n) (size * i + j) 0 ≡ get_or (record_at i) j 0
  unfolding joined
  joined_byte zero each i j h l = absurd (omega arith)
  joined_byte (suc n) each i j h l =
      let front : List ℕ = joined record_at n in
      let long : length front ≡ size * n = joined_length n (λ m b. each m (omega arith)) in
      ⊎_elim
      (λ (is : i ≡ n).
      ap (λ (m : ℕ). get_or (front ++ record_at n) (m + j) 0) (ap (λ (m : ℕ). size * m) is ∙ sym long) ∙ get_or-append-add front (record_at n) j 0 ∙ ap (λ (m : ℕ). get_or (record_at m) j 0) (sym is))
      (λ (below : i < n).
      let room : size * suc i ≤ size * n = mul-le-mul {n₁ = size} {n₂ = size} (omega arith) below in
      get_or-append front (record_at n) 0 (size * i + j) (omega (arith, long, room)) ∙ joined_byte n (λ m b. each m (omega arith)) i j below l)
      (eq-or-lt_of_le (omega arith))
