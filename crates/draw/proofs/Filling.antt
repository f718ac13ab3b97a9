-- The code's running sum is the definition's, and the volumes fill an array.
use mathlib.Core.Path.{◌≡◌, sym, ap, ◌∙◌}
use mathlib.Core.Bool.{true, false}
use mathlib.Core.List.{List, [], ◌∷◌, ◌++◌}
use Prim.Native.Nat.{ℕ, zero, suc, ◌+◌, ◌-◌, ◌≤◌, ◌<◌}
use native.Mathlib.Omega.{arith}
use borrow.Author.Tests.{eq-eqb, ne_eqb}
use lib.ListN.{length, take, set, replicate, length-append, length-replicate}
use lib.Seq.{set-append_seam, append_snoc, take_at}
use Rattle.octets.specs.Records.{zeros_after}
use Rattle.exact.specs.Words.{sum_of}
use Rattle.group.specs.Listed.{listed}
use Rattle.group.proofs.Listed.{listed_length}
use Rattle.factors.specs.declared.Metal.{Metal}
use Rattle.draw.specs.Fill.{fill_at}
use Rattle.draw.specs.Drawn.{drawn}
use Rattle.draw.specs.Passes.{is_of, drawn_for}

-- ---- the sum

-- one fill more: what is summed, and the sum of the rest
pub sum_next : (f : ℕ → ℕ) (n i sum : ℕ) {x all : ℕ} → i < n → x ≡ f i → sum + sum_of (listed f (n - i) i) ≡ all → sum + x + sum_of (listed f (n - (i + 1)) (i + 1)) ≡ all
unfolding sum_of listed
sum_next f n i sum h is at =
    let more : n - i ≡ suc (n - (i + 1)) = omega arith in
    omega (arith, at, ap (λ (m : ℕ). sum_of (listed f m i)) more)

-- whether a fill, by its pass, is one of the pass asked for, and what it adds to it
module _ (s : List ℕ) (i : ℕ) {own : ℕ} (is : own ≡ (fill_at s i).pass) where
  pub of_pass : {pass : ℕ} → own ≡ pass → is_of s pass i ≡ true
  unfolding is_of
  of_pass {pass} same = rw (← is) (eq-eqb own pass same)

  pub not_of_pass : (pass : ℕ) → (own ≡ pass → ⊥) → is_of s pass i ≡ false
  unfolding is_of
  not_of_pass pass other = rw (← is) (ne_eqb own pass other)

  pub adds : (metal : Metal) {pass x : ℕ} → own ≡ pass → x ≡ drawn metal (fill_at s i) → x ≡ drawn_for metal s pass i
  unfolding drawn_for
  adds metal same drew = rw (of_pass same) drew

  pub adds-nothing : (metal : Metal) (pass : ℕ) → (own ≡ pass → ⊥) → 0 ≡ drawn_for metal s pass i
  unfolding drawn_for
  adds-nothing metal pass other = rw (not_of_pass pass other)

-- ---- the array of volumes

-- one value more, behind the others
listed_next : (f : ℕ → ℕ) (n i : ℕ) → listed f (n + 1) i ≡ listed f n i ++ (f (i + n) ∷ [])
unfolding listed
listed_next f zero i = ap (λ (v : ℕ). v ∷ []) (ap f (omega arith))
listed_next f (suc n) i =
    let more : suc n + 1 ≡ suc (n + 1) = omega arith in
    ap (λ (m : ℕ). listed f m i) more
    ∙ ap (λ (l : List ℕ). f i ∷ l) (listed_next f n (i + 1) ∙ ap (λ (v : ℕ). listed f n (i + 1) ++ (v ∷ [])) (ap f (omega arith)))

-- one value more, at the first place that is still zero
zeros_next : (n : ℕ) (xs : List ℕ) (v : ℕ) → length xs < n → set (zeros_after n xs) (length xs) v ≡ zeros_after n (xs ++ (v ∷ []))
unfolding zeros_after
zeros_next n xs v h =
    let room : n - length xs ≡ suc (n - (length xs + 1)) = omega arith in
    let longer : length (xs ++ (v ∷ [])) ≡ length xs + 1 = length-append xs (v ∷ []) in
    ap (λ (m : ℕ). set (xs ++ replicate m 0) (length xs) v) room
    ∙ set-append_seam xs 0 (replicate (n - (length xs + 1)) 0) v
    ∙ sym (append_snoc xs v (replicate (n - (length xs + 1)) 0))
    ∙ ap (λ (m : ℕ). xs ++ (v ∷ []) ++ replicate (n - m) 0) (sym longer)

pub volumes_next : (f : ℕ → ℕ) (n i : ℕ) {volumes : List ℕ} {x : ℕ} → i < n → volumes ≡ zeros_after n (listed f i 1) → x ≡ f (1 + i) → set volumes i x ≡ zeros_after n (listed f (i + 1) 1)
volumes_next f n i {volumes} {x} h held is =
    let long : length (listed f i 1) ≡ i = listed_length f i 1 in
    (λ t. set (held t) (sym long t) (is t)) ∙ zeros_next n (listed f i 1) (f (1 + i)) (omega arith) ∙ ap (zeros_after n) (sym (listed_next f i 1))

-- the array's length, and the values it holds
pub length_zeros : (n : ℕ) (xs : List ℕ) → length xs ≤ n → length (zeros_after n xs) ≡ n
unfolding zeros_after
length_zeros n xs h = length-append xs (replicate (n - length xs) 0) ∙ omega (arith, length-replicate (n - length xs) zero)

pub held_values : (n : ℕ) (xs : List ℕ) (count : ℕ) → length xs ≡ count → take count (zeros_after n xs) ≡ xs
unfolding zeros_after
held_values n xs count is = take_at xs (replicate (n - length xs) 0) count is
