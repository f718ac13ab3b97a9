-- `live::is_psi` meets its contract: below zero there is no pressure, and from zero on the size is judged.
use Rattle.std.proofs.Common.{rules, sym, w16, to_z, of_z, ◌≡◌, refl, ◌∙◌, true, false, ℤ, pos, arith}
use mathlib.Core.Bool.{true≢false}
use borrow.Author.Tests.{leb-false}
use lib.IntN.{negsuc, nat_abs}
use lib.Signed.{le_z}
use Rattle.ranges.specs.Table.{pressure_ok}
use Rattle.live.specs.Live.{psi_ok}
use Rattle.live.proofs.is_psi.Goals.{Start}
use Rattle.live.proofs.is_psi.Goals as goal

from_zero : (z : ℤ) → le_z (pos 0) z ≡ true → pressure_ok (nat_abs z) ≡ psi_ok z
unfolding psi_ok
from_zero (pos n) is = refl
from_zero (negsuc n) is = absurd (true≢false (sym is))

below-zero : (z : ℤ) → le_z (pos 0) z ≡ false → le_z (pos 0) z ≡ psi_ok z
unfolding psi_ok
below-zero (pos n) is = absurd (omega (arith, leb-false 0 n is))
below-zero (negsuc n) is = refl

-- what the machine reads back of a signed number is that number
back : (c : Start) → to_z w16 (of_z w16 c.args.psi) ≡ c.args.psi
back c = search rules

pub returns-then-psi-ge0 : goal.returns-then-psi-ge0
returns-then-psi-ge0 c =
    let same = back (goal.at.returns-then-psi-ge0 c).Start in
    rw same at c.is_pressure.ensures ∙ from_zero c.args.psi (rw same at c.if-psi-ge0.true)

pub returns-else-psi-ge0 : goal.returns-else-psi-ge0
returns-else-psi-ge0 c = let same = back (goal.at.returns-else-psi-ge0 c).Start in rw same (below-zero c.args.psi (rw same at c.if-psi-ge0.false))
