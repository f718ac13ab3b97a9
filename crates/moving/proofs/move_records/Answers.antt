-- `moving::move_records` meets its contract: what can be moved fills the buffer.
use mathlib.Core.Path.{◌≡◌, ap, sym, ◌∙◌}
use Prim.Native.Nat.{ℕ, ◌/◌}
use native.Mathlib.Omega.{arith}
use lib.ListN.{length}
use Rattle.refusals.specs.Told.{Told, done, left_by}
use Rattle.refusals.proofs.Laws.{judged_fine, judged_fault}
use Rattle.octets.specs.Records.{records_in}
use Rattle.run.specs.Record.{size_of}
use Rattle.moving.proofs.Judged.{refusal_back}
use Rattle.moving.proofs.Laws.{Movable, movable}
use Rattle.moving.specs.Judging.{move_of}
use Rattle.moving.specs.Moved.{moved_bytes}
use Rattle.moving.proofs.move_records.Goals.{After-size}
use Rattle.moving.proofs.move_records.Goals as goal

-- as many records as there are
count-is : (c : After-size) → length c.args.records.now / c.size.result ≡ records_in (size_of c.args.form) c.args.records.now
unfolding records_in
count-is c = ap (λ (k : ℕ). length c.args.records.now / k) c.size.ensures

facts : (c : After-size) → Movable c.args.form c.args.records.now (length c.args.buffer.now)
facts c = movable _ _ _ (sym (c.in_ok-judge.ensures))

pub write_all-requires : goal.write_all-requires
write_all-requires c = let f = facts (goal.at.write_all-requires c).After-size in
    rw (count-is (goal.at.write_all-requires c).After-size) (f.given.most, f.given.whole, f.given.fills, f.fits)

pub overflow_cast-result : goal.overflow_cast-result
overflow_cast-result c = omega (arith, count-is (goal.at.overflow_cast-result c).After-size, (facts (goal.at.overflow_cast-result c).After-size).given.most)

pub returns-in_err-judge : goal.returns-in_err-judge
unfolding move_of
returns-in_err-judge c = let a = c.args in
    let is = judged_fault (records_in (size_of a.form) a.records.now) (sym (c.in_err-judge.ensures)) in
    record { answer = refusal_back _ _ c.from_residual.ensures.1 is; left = ap (λ (t : Told ℕ). left_by t (moved_bytes a.form a.records.now) a.buffer.now) (sym is) }

pub returns : goal.returns
unfolding move_of
returns c = let a = c.args in
    let count = count-is (goal.at.returns c).After-size in
    let is = sym (judged_fine (records_in (size_of a.form) a.records.now) (sym (c.in_ok-judge.ensures))) in
    record { answer = ap done count ∙ is; left = c.write_all.ensures ∙ ap (moved_bytes a.form a.records.now) count ∙ ap (λ (t : Told ℕ). left_by t (moved_bytes a.form a.records.now) a.buffer.now) is }
