-- `proving::accept` meets its contract: the five records lie within the lent ones.
use Rattle.std.proofs.Common.{◌≡◌, ℕ, ◌+◌, ◌*◌, ◌-◌, ◌≤◌, length, take, drop, sym, ap, ◌∙◌, arith}
use Rattle.refusals.specs.Told.{Told}
use Rattle.run.specs.Record.{size_of}
use Rattle.proving.proofs.Facts.{Proved, proved, five_inside}
use Rattle.proving.proofs.Laws.{refused_alike}
use Rattle.proving.specs.Judging.{input_fault}
use Rattle.proving.specs.Job.{first_five, found_of, five_from, five_of, accepted_by, accepted_of}
use Rattle.proving.proofs.accept.Goals.{After-size-size}
use Rattle.proving.proofs.accept.Goals as goal

five : (c : After-size-size) → Proved c.args.prover c.args.k c.args.limit c.args.form c.args.records.now c.in-Ok.five
five c = proved _ _ _ _ _ (sym c.in-Ok.ensures)

room : (c : After-size-size) → c.size-size.result * c.in-Ok.five.at + 5 * c.size-size.result ≤ length c.args.records.now
room c = rw c.size-size.ensures (five_inside c.args.form _ c.in-Ok.five.at (five c).found.inside)

pub overflow_mul-from : goal.overflow_mul-from
overflow_mul-from c = omega (arith, room (goal.at.overflow_mul-from c).After-size-size)

pub overflow_add-end : goal.overflow_add-end
overflow_add-end c = omega (arith, room (goal.at.overflow_add-end c).After-size-size)

pub slice_bounds-result-end-2 : goal.slice_bounds-result-end-2
slice_bounds-result-end-2 c = omega (arith, room (goal.at.slice_bounds-result-end-2 c).After-size-size)

pub returns : goal.returns
unfolding accepted_of
returns c = let a = c.args in
    let at = c.in-Ok.five.at in
    let size = c.size-size.result in
    let length-is : size * at + 5 * size - size * at ≡ 5 * size = omega arith in
    ap (λ (n : ℕ). take n (drop (size * at) a.records.now)) length-is ∙ ap (λ (n : ℕ). take (5 * n) (drop (n * at) a.records.now)) c.size-size.ensures
    ∙ sym (ap (λ (t : Told ℕ). accepted_by (size_of a.form) t a.records.now) (five (goal.at.returns c).After-size-size).place)

pub returns-in_default : goal.returns-in_default
unfolding accepted_of five_of found_of
returns-in_default c = let a = c.args in
    let gone = refused_alike (input_fault a.prover a.k a.limit a.form a.records.now) (first_five a.prover a.k a.limit a.form a.records.now) (five_from a.prover a.k a.form a.records.now) (λ (at : ℕ). at) (sym c.in_default.ensures) in
    sym (ap (λ (t : Told ℕ). accepted_by (size_of a.form) t a.records.now) gone)
