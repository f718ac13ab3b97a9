-- `book::rules::keep_rules` meets its contract: each shipper's two figures, and the sum of the reserves.
use mathlib.Core.Path.{◌≡◌, sym, ap, ◌∙◌}
use Prim.Native.Nat.{ℕ}
use borrow.Author.Tests.{eq-eqb}
use Rattle.std.proofs.Common.{rules}
use lib.Dec.{leb}
use lib.ListN.{length}
use Rattle.book.specs.Rules.{keep_rules}
use Rattle.book.specs.Figures.{shippers}
use Rattle.book.proofs.rules.keep_rules.Goals as goal

pub returns-then-are_shares : goal.returns-then-are_shares
unfolding keep_rules shippers
returns-then-are_shares c =
    let few : length c.args.figures.reserves ≡ 4 = search rules in
    let many : length c.args.figures.ceilings ≡ 4 = search rules in
    rw (eq-eqb _ _ few, eq-eqb _ _ many, sym c.are_shares.ensures ∙ c.if-are_shares.true) (ap (λ (n : ℕ). leb n 16) c.add_reserves.ensures)

pub returns-else-are_shares : goal.returns-else-are_shares
unfolding keep_rules shippers
returns-else-are_shares c =
    let few : length c.args.figures.reserves ≡ 4 = search rules in
    let many : length c.args.figures.ceilings ≡ 4 = search rules in
    rw (eq-eqb _ _ few, eq-eqb _ _ many, sym c.are_shares.ensures ∙ c.if-are_shares.false) c.if-are_shares.false
