-- `live::single::round` meets its contract: the single is what its bits stand for, and each field's law answers its branch.
use Rattle.std.proofs.Common.{rules, Err, ◌≡◌, sym, ap, ◌∙◌, subst, Bool, true, false, ◌<◌, ltb-true, arith, ℤ}
use lib.Dec.{T}
use lib.Ieee.{Float, binary32, of_bits, to_bits}
use lib.Ieee.Bits.{of_bits-to_bits}
use lib.Ieee.Scale.{finite}
use Rattle.refusals.specs.Told.{demand, or_else, judged}
use Rattle.refusals.specs.Answered.{told}
use Rattle.refusals.proofs.Laws.{judged_fault, or_else_first, demand_was, demand_fails}
use Rattle.live.specs.Live.{whole_of, single_of}
use Rattle.live.specs.Word.{held}
use Rattle.live.proofs.Fields.{field_of, finite_by_field}
use Rattle.live.proofs.Laws.{finite_no_nan, whole_far}
use Rattle.live.proofs.Words.{held_far}
use Rattle.live.proofs.single.round.Goals.{Start, In_ok-demand}
use Rattle.live.proofs.single.round.Goals as goal

is-number : (c : In_ok-demand) → finite c.args.x ≡ true
is-number c = sym c.is_finite.ensures ∙ demand_was _ 12 (sym c.in_ok-demand.ensures)

-- of a number the range is left to judge
finite-judged : (c : In_ok-demand) → single_of held c.args.offset c.args.times c.args.x ≡ judged (demand (held (whole_of c.args.offset c.args.times c.args.x)) 13) (whole_of c.args.offset c.args.times c.args.x)
unfolding single_of
finite-judged c = let z = whole_of c.args.offset c.args.times c.args.x in ap (λ (b : Bool). judged (or_else (demand b 12) (demand (held z) 13)) z) (is-number c)

-- the single is the one that its bits stand for
from_bits : (c : Start) → of_bits binary32 (to_bits binary32 c.args.x) ≡ c.args.x
from_bits c = of_bits-to_bits binary32 c.args.x (subst T (sym c.well_formed.0.1) tt)

pub returns-in_err-demand : goal.returns-in_err-demand
unfolding single_of
returns-in_err-demand c =
    let passed_on : c.from_residual.result ≡ Err c.in_err-demand.field-0.0 = search rules in
    let number = c.in_err-demand.ensures ∙ ap (λ (ok : Bool). demand ok 12) c.is_finite.ensures in
    ap told passed_on ∙ sym (judged_fault _ (or_else_first _ (sym number)))

pub float_to_bits-bits : goal.float_to_bits-bits
float_to_bits-bits c = finite_no_nan c.args.x (is-number (goal.at.float_to_bits-bits c).In_ok-demand)

pub returns-then-bits-lt150 : goal.returns-then-bits-lt150
returns-then-bits-lt150 c =
    c.to_word.ensures
    ∙ ap (λ (z : ℤ). judged (demand (held z) 13) z) (c.round_scaled.ensures ∙ ap (whole_of c.args.offset c.args.times) (from_bits (goal.at.returns-then-bits-lt150 c).Start))
    ∙ sym (finite-judged (goal.at.returns-then-bits-lt150 c).In_ok-demand)

pub returns-else-bits-lt150 : goal.returns-else-bits-lt150
returns-else-bits-lt150 c =
    let same = from_bits (goal.at.returns-else-bits-lt150 c).Start in
    let b = to_bits binary32 c.args.x in
    let small : field_of b < 255 = ltb-true (field_of b) 255 (finite_by_field b ∙ ap finite same ∙ is-number (goal.at.returns-else-bits-lt150 c).In_ok-demand) in
    let far = whole_far c.args.offset c.args.times b (omega arith) c.requires c.if-bits-lt150.false small in
    let passed : held (whole_of c.args.offset c.args.times c.args.x) ≡ false = ap (λ (x : Float). held (whole_of c.args.offset c.args.times x)) (sym same) ∙ held_far _ far in
    sym (finite-judged (goal.at.returns-else-bits-lt150 c).In_ok-demand ∙ judged_fault _ (demand_fails 13 passed))
