-- `live::single::Sided::to_word` meets its contract: a size of 15 bits is the machine's signed number, on either side of zero.
use Rattle.std.proofs.Common.{w16, to_z, of_z, ◌≡◌, sym, ap, ◌∙◌, Bool, true, false, ◌≤◌, ◌<◌, arith, ℤ, pos, ◌-ℤ◌}
use mathlib.Core.Logic.{by_cases}
use native.Mathlib.Decide.{dec_le}
use native.Mathlib.Nat.{lt_of_not-le}
use mir.ValLaws.{to_z-of_z}
use Rattle.refusals.specs.Told.{done, demand, judged}
use Rattle.refusals.proofs.Laws.{judged_fine, judged_fault, demand_holds, demand_fails}
use Rattle.live.specs.Exact.{sided}
use Rattle.live.specs.Word.{held}
use Rattle.live.proofs.Sides.{size_sided}
use Rattle.live.proofs.Words.{held_near, held_far, machine_above, machine_below, sided_fits}
use Rattle.live.proofs.single.Sided.to_word.Goals.{In-Ok}
use Rattle.live.proofs.single.Sided.to_word.Goals as goal

small : (c : In-Ok) → c.args.self.size < 32768
small c = let h = c.in-Ok.ensures.0 in omega (arith, h.sfits)

fits-in-15 : (c : In-Ok) → c.args.self.size ≤ 32767
fits-in-15 c = omega (arith, small c)

-- the size in the machine
read-back : (c : In-Ok) → to_z w16 (of_z w16 c.in-Ok.size) ≡ to_z w16 c.args.self.size
read-back c =
    ap (λ (z : ℤ). to_z w16 (of_z w16 z)) c.in-Ok.ensures.1 ∙ to_z-of_z w16 (pos c.args.self.size) c.in-Ok.ensures.0 ∙ sym (machine_above c.args.self.size (fits-in-15 c))

-- the side of zero, as the branch found it
found : (c : In-Ok) {side : Bool} → c.args.self.below ≡ side
    → done (sided side c.args.self.size) ≡ judged (demand (held (sided c.args.self.below c.args.self.size)) 13) (sided c.args.self.below c.args.self.size)
found c {side} is =
    let n = c.args.self.size in
    sym (ap (λ (b : Bool). judged (demand (held (sided b n)) 13) (sided b n)) is ∙ judged_fine _ (demand_holds 13 (held_near side n (small c))))

pub returns-in_default : goal.returns-in_default
returns-in_default c =
    let n = c.args.self.size in
    let far : 32768 ≤ n = by_cases (dec_le 32768 n) (λ h. h) (λ h. absurd (c.in_default.ensures (sided_fits false n (lt_of_not-le h)))) in
    let size = size_sided c.args.self.below n in
    sym (judged_fault _ (demand_fails 13 (held_far (sided c.args.self.below n) (rw size far))))

pub returns-then-self : goal.returns-then-self
returns-then-self c =
    let n = c.args.self.size in
    let at = (goal.at.returns-then-self c).In-Ok in
    ap (λ (z : ℤ). done (to_z w16 (of_z w16 (pos 0 -ℤ z)))) (read-back at)
    ∙ ap (λ (z : ℤ). done (to_z w16 (of_z w16 z))) (machine_below n (fits-in-15 at))
    ∙ ap done (to_z-of_z w16 (sided true n) (sided_fits true n (small at)))
    ∙ found at c.if-self.true

pub returns-else-self : goal.returns-else-self
returns-else-self c = let at = (goal.at.returns-else-self c).In-Ok in ap done (read-back at ∙ machine_above c.args.self.size (fits-in-15 at)) ∙ found at c.if-self.false
