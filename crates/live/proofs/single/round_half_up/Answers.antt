-- `live::single::round_half_up` meets its contract: the whole part, and one more from a half on.
use mathlib.Core.Path.{◌≡◌, sym, ap, ◌∙◌}
use Prim.Native.Nat.{ℕ, ◌+◌, ◌*◌, ◌/◌, ◌%◌, ◌<◌}
use native.Mathlib.Nat.{mod-lt, div-add-mod'}
use native.Mathlib.Omega.{arith}
use Rattle.exact.specs.Rounding.{rounded_div}
use Rattle.exact.proofs.Rounding.{keeps, goes_up}
use Rattle.live.proofs.single.round_half_up.Goals.{Start}
use Rattle.live.proofs.single.round_half_up.Goals as goal

rest-small : (c : Start) → c.args.top % c.args.bottom < c.args.bottom
rest-small c = mod-lt c.args.top c.requires.0

-- the top by its whole part and its rest
parted : (c : Start) {q : ℕ} → rounded_div (c.args.top / c.args.bottom * c.args.bottom + c.args.top % c.args.bottom) c.args.bottom ≡ q → q ≡ rounded_div c.args.top c.args.bottom
parted c is = sym is ∙ ap (λ (n : ℕ). rounded_div n c.args.bottom) (div-add-mod' c.args.top c.args.bottom)

pub returns-then-bottom-rest : goal.returns-then-bottom-rest
returns-then-bottom-rest c = parted (goal.at.returns-then-bottom-rest c).Start (goes_up (c.args.top / c.args.bottom) (rest-small (goal.at.returns-then-bottom-rest c).Start) (omega arith))

pub returns-else-bottom-rest : goal.returns-else-bottom-rest
returns-else-bottom-rest c = parted (goal.at.returns-else-bottom-rest c).Start (keeps (c.args.top / c.args.bottom) (rest-small (goal.at.returns-else-bottom-rest c).Start) (omega arith))
