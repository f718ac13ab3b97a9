-- `exact::divider::take_digit` meets its contract: what the estimate asks for and what it keeps are in balance with the dividend.
use Prim.Native.Nat.{◌-◌, ◌<◌}
use native.Mathlib.Omega.{arith}
use Rattle.exact.proofs.Digits.{estimate, kept, asked, balanced, kept_below, is_digit}
use Rattle.exact.proofs.divider.take_digit.Goals.{Start}
use Rattle.exact.proofs.divider.take_digit.Goals as goal

-- what is kept is below the divisor
room : (c : Start) → kept c.args.d c.args.rest c.args.digit < c.args.d
room c = kept_below c.args.d c.args.rest c.requires.0 c.ranges.d.fits c.requires.1 c.requires.2

pub returns-then-asked-kept : goal.returns-then-asked-kept
returns-then-asked-kept c = let a = c.args in
    is_digit (estimate a.d a.rest) (kept a.d a.rest a.digit - asked a.d a.rest) c.requires.1 c.requires.2 (omega (arith, balanced a.d a.rest a.digit)) (omega (arith, room (goal.at.returns-then-asked-kept c).Start))

pub returns : goal.returns
returns c = let r = c.correct.result in
    is_digit r.quotient r.rest c.requires.1 c.requires.2 (omega (arith, balanced c.args.d c.args.rest c.args.digit)) c.correct.ensures.1
