-- What the rules tell of figures: each shipper's two, and the sum of the reserves.
use mathlib.Core.Path.{◌≡◌}
use mathlib.Core.Bool.{true}
use Prim.Native.Nat.{ℕ, ◌≤◌, ◌<◌}
use native.Mathlib.Omega.{arith}
use borrow.Author.Tests.{leb-true}
use lib.Dec.{leb, eqb}
use lib.ListN.{length}
use Rattle.octets.proofs.FirstToLast.{tests, empty}
use Rattle.book.specs.Figures.{shippers, over_shippers, reserve_in, ceiling_in}
use Rattle.book.specs.Rules.{is_share, is_share_at, are_shares, keep_rules}
use Rattle.book.specs.declared.Figures.{Figures}
use Rattle.book.proofs.Bools.{both_first, both_second}

pub record Share (reserve ceiling : ℕ) : Type 0 where
  pub some : 1 ≤ reserve
  pub most : reserve ≤ 13
  pub own : reserve ≤ ceiling
  pub narrow : ceiling ≤ 16

share_is : (reserve ceiling : ℕ) → is_share reserve ceiling ≡ true → Share reserve ceiling
unfolding is_share
share_is reserve ceiling is =
    let few = both_second (leb 1 reserve) _ is in
    let rest = both_second (leb reserve 13) _ few in
    record {
      some = leb-true _ _ (both_first (leb 1 reserve) _ is);
      most = leb-true _ _ (both_first (leb reserve 13) _ few);
      own = leb-true _ _ (both_first (leb reserve ceiling) _ rest);
      narrow = leb-true _ _ (both_second (leb reserve ceiling) _ rest);
    }

abbrev pub Shares : Figures → Type 0
Shares figures = (s : ℕ) → s < 4 → Share (reserve_in figures s) (ceiling_in figures s)

pub shares_are : (figures : Figures) → are_shares figures ≡ true → Shares figures
unfolding are_shares is_share_at shippers
shares_are figures is s known = share_is _ _ (empty tests (is_share_at figures) 4 0 is s (omega arith) (omega arith))

pub record Agreed (figures : Figures) : Type 0 where
  pub shares : are_shares figures ≡ true
  pub each : Shares figures
  pub sum : over_shippers (reserve_in figures) ≤ 16

pub agreed_is : (figures : Figures) → keep_rules figures ≡ true → Agreed figures
unfolding keep_rules shippers
agreed_is figures is =
    let rules = both_second (eqb (length figures.ceilings) 4) _ (both_second (eqb (length figures.reserves) 4) _ is) in
    let shares = both_first (are_shares figures) _ rules in
    record { shares = shares; each = shares_are figures shares; sum = leb-true _ _ (both_second (are_shares figures) _ rules) }
