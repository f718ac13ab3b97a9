-- `moving::are_lengths` meets its contract: 2a = 3b where 3 divides a and b is two of its thirds, and only there.
use mathlib.Core.Path.{◌≡◌, sym, ◌∙◌}
use Prim.Native.Nat.{ℕ, ◌*◌, ◌-◌, ◌/◌, ◌%◌}
use native.Mathlib.Omega.{arith}
use borrow.Author.Tests.{ne_eqb}
use Rattle.moving.proofs.Laws.{eqb_alike}
use Rattle.moving.specs.Judging.{lengths_ok}
use Rattle.moving.proofs.are_lengths.Goals as goal

-- a number that is thrice another
thrice : (n m : ℕ) → n ≡ 3 * m → n % 3 ≡ 0
thrice n m is = omega arith

pub returns-then-long-eq0 : goal.returns-then-long-eq0
unfolding lengths_ok
returns-then-long-eq0 c = let long = c.args.long in
    let short = c.args.short in
    eqb_alike (long / 3 * 2) short (2 * long) (3 * short) (λ is. omega (arith, is, c.if-long-eq0.true)) (λ is. omega (arith, is, c.if-long-eq0.true))

pub returns-else-long-eq0 : goal.returns-else-long-eq0
unfolding lengths_ok
returns-else-long-eq0 c = let long = c.args.long in
    let short = c.args.short in
    ne_eqb (long % 3) 0 c.if-long-eq0.false ∙ sym (ne_eqb (2 * long) (3 * short) (λ is. c.if-long-eq0.false (thrice long (long - short) (omega (arith, is)))))
