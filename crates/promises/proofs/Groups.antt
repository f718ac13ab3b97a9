-- A group of a list whose values are given by their places, and the first group as the least place whose values qualify.
use Rattle.std.specs.Prelude.{None}
use mathlib.Core.Path.{◌≡◌, sym, ap, ◌∙◌}
use mathlib.Core.Bool.{true, false}
use mathlib.Core.List.{List}
use Prim.Native.Nat.{ℕ, ◌+◌, ◌≤◌, ◌<◌}
use native.Mathlib.Omega.{arith}
use lib.ListN.{length, get_or}
use lib.Seq.{ext_get_or}
use Rattle.group.specs.Repeatability.{qualifies, group_at, first_group}
use Rattle.group.proofs.Groups.{FirstGroup, group_length, group_value, none_found}
use Rattle.group.specs.Listed.{listed}
use Rattle.group.proofs.Listed.{listed_value, listed_length}

pub apart : true ≡ false → ⊥
apart is = let z : ◌≡◌ {A = ℕ} 0 1 = cc in omega arith

module _ (f : ℕ → ℕ) (xs : List ℕ) (values : (i : ℕ) → i < length xs → get_or xs i 0 ≡ f i) (n : ℕ) where
  pub group_listed : (at : ℕ) → at + n ≤ length xs → group_at n xs at ≡ listed f n at
  group_listed at room =
      let long : length (group_at n xs at) ≡ n = group_length n xs at room in
      ext_get_or 0 (group_at n xs at) (listed f n at) (long ∙ sym (listed_length f n at)) (λ i h. group_value n xs at i (omega arith) ∙ values (at + i) (omega arith) ∙ sym (listed_value f n at i (omega arith)))

  -- the place found has room and its values qualify, and no earlier place's do
  pub record Least (limit at : ℕ) : Type 0 where
    pub room : at + n ≤ length xs
    pub meet : qualifies limit (listed f n at) ≡ true
    pub earlier : (j : ℕ) → j < at → qualifies limit (listed f n j) ≡ false

  pub first_least : (limit : ℕ) {at : ℕ} → FirstGroup limit n xs at → Least limit at
  first_least limit {at} first =
      record {
        room = first.within;
        meet = ap (qualifies limit) (sym (group_listed at first.within)) ∙ first.qualified;
        earlier = λ j h. ap (qualifies limit) (sym (group_listed j (omega (arith, first.within)))) ∙ first.before j h;
      }

  -- where some place has room and its values qualify, one is found
  pub some_found : (limit at : ℕ) → at + n ≤ length xs → qualifies limit (listed f n at) ≡ true → first_group limit n xs ≡ None → ⊥
  some_found limit at room meet is =
      apart (sym meet ∙ ap (qualifies limit) (sym (group_listed at room)) ∙ none_found limit n xs is at room)
