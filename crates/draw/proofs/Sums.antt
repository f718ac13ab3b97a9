-- No fill is lost and none is counted twice: the sums of all passes are together the sum of all fills. Nor is a pass of round trips: their volumes
-- are together those of all passes.
use mathlib.Core.Path.{◌≡◌, refl, ap, ◌∙◌}
use mathlib.Core.Bool.{true, cond}
use mathlib.Core.Logic.{by_cases}
use mathlib.Core.List.{List}
use Prim.Native.Nat.{ℕ, zero, suc, ◌+◌, ◌-◌, ◌*◌, ◌%◌, ◌≤◌, ◌<◌}
use native.Mathlib.Decide.{dec_lt}
use native.Mathlib.Omega.{arith}
use borrow.Author.Tests.{eqb-true, eq-eqb, ne_eqb}
use lib.Dec.{eqb}
use Rattle.ranges.proofs.Laws.{both_first}
use Rattle.octets.specs.Records.{records_in}
use Rattle.exact.specs.Words.{sum_of}
use Rattle.group.specs.Listed.{listed}
use Rattle.factors.specs.declared.Metal.{Metal}
use Rattle.factors.specs.declared.Prover.{Prover}
use Rattle.draw.specs.Fill.{fill_at}
use Rattle.draw.specs.Drawn.{drawn}
use Rattle.draw.specs.Passes.{pass_count, is_of, drawn_for, pass_sum, pass_volume}
use Rattle.draw.specs.Profile.{passes_fit, out_pass, back_pass, trip_volume, volume_count, volume_of, volumes_of}
use Rattle.draw.specs.declared.Profile.TheVariants.{Bidirectional}
use Rattle.draw.proofs.Sound.{Sound}
use Rattle.draw.proofs.Rule.{within_count}

-- what the fill at a place drew
unfoldable pub drawn_at : Metal → List ℕ → ℕ → ℕ
drawn_at metal s i = drawn metal (fill_at s i)

-- the sum of n values from place i on
abbrev total : (ℕ → ℕ) → ℕ → ℕ → ℕ
total f n i = sum_of (listed f n i)

-- of values added one by one
added : (f g : ℕ → ℕ) (n i : ℕ) → total (λ j. f j + g j) n i ≡ total f n i + total g n i
unfolding sum_of listed
added f g zero i = refl
added f g (suc n) i = omega (arith, added f g n (i + 1))

nothing_added : (n i : ℕ) → total (λ j. 0) n i ≡ 0
unfolding sum_of listed
nothing_added zero i = refl
nothing_added (suc n) i = omega (arith, nothing_added n (i + 1))

-- a value that one place adds: none of those behind it, and that one among them
abbrev at_place : ℕ → ℕ → ℕ → ℕ
at_place q x p = cond (eqb q p) x 0

not_there : (q x c k : ℕ) → q < k → total (at_place q x) c k ≡ 0
unfolding sum_of listed
not_there q x zero k h = refl
not_there q x (suc c) k h = rw (ne_eqb q k (λ is. omega arith)) (omega (arith, not_there q x c (k + 1) (omega arith)))

once : (q x c k : ℕ) → k ≤ q → q < k + c → total (at_place q x) c k ≡ x
unfolding sum_of listed
once q x zero k low high = absurd (omega arith)
once q x (suc c) k low high =
    by_cases (dec_lt k q)
    (λ past. rw (ne_eqb q k (λ is. omega arith)) (omega (arith, once q x c (k + 1) (omega arith) (omega arith))))
    (λ here. rw (eq-eqb q k (omega arith)) (omega (arith, not_there q x c (k + 1) (omega arith))))

-- values x that each go to a place q among c from 1 on: by places or one by one
gathered : (q x : ℕ → ℕ) (c n i : ℕ) → ((j : ℕ) → i ≤ j → j < i + n → (1 ≤ q j) × (q j ≤ c)) → total (λ p. total (λ j. at_place (q j) (x j) p) n i) c 1 ≡ total x n i
unfolding sum_of listed
gathered q x c zero i each = nothing_added c 1
gathered q x c (suc n) i each =
    let here = each i (omega arith) (omega arith) in
    added (at_place (q i) (x i)) (λ p. total (λ j. at_place (q j) (x j) p) n (i + 1)) c 1
    ∙ omega (arith, once (q i) (x i) c 1 here.0 (omega (arith, here.1)), gathered q x c n (i + 1) (λ j l h. each j (omega arith) (omega arith)))

pub all_fills_once : (prover : Prover) (s : List ℕ) → Sound prover s → sum_of (listed (pass_sum prover.metal s) (pass_count s) 1) ≡ sum_of (listed (drawn_at prover.metal s) (records_in 32 s) 0)
unfolding pass_sum drawn_for is_of drawn_at
all_fills_once prover s good = gathered (λ i. (fill_at s i).pass) (drawn_at prover.metal s) (pass_count s) (records_in 32 s) 0 (λ i l h. within_count prover s good i (omega arith))

-- ---- round trips

-- values two by two: those of places 2i - 1 and 2i, and so on
two_by_two : (f : ℕ → ℕ) (n i : ℕ) → 1 ≤ i → total (λ j. f (2 * j - 1) + f (2 * j)) n i ≡ total f (2 * n) (2 * i - 1)
unfolding sum_of listed
two_by_two f zero i some = refl
two_by_two f (suc n) i some =
    let rest = two_by_two f n (i + 1) (omega arith) in
    let more : 2 * suc n ≡ suc (suc (2 * n)) = omega arith in
    let next : 2 * i - 1 + 1 ≡ 2 * i = omega arith in
    let after : 2 * i - 1 + 1 + 1 ≡ 2 * (i + 1) - 1 = omega arith in
    omega (arith, rest, ap f next, ap (total f (2 * n)) after, ap (λ (m : ℕ). total f m (2 * i - 1)) more)

module _ (prover : Prover) (s : List ℕ) (fit : passes_fit Bidirectional (pass_count s) ≡ true) where
  pub paired : 2 * volume_count Bidirectional s ≡ pass_count s
  unfolding passes_fit volume_count
  paired = let even : pass_count s % 2 ≡ 0 = eqb-true _ _ (both_first (eqb (pass_count s % 2) 0) _ fit) in omega arith

  pub all_passes_once : sum_of (volumes_of Bidirectional prover s) ≡ sum_of (listed (pass_volume prover s) (pass_count s) 1)
  unfolding volumes_of volume_of trip_volume out_pass back_pass
  all_passes_once = two_by_two (pass_volume prover s) (volume_count Bidirectional s) 1 (omega arith) ∙ ap (λ (n : ℕ). total (pass_volume prover s) n 1) paired
