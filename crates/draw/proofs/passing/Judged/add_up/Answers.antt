-- `draw::passing::Judged::add_up` meets its contract.
use mathlib.Core.Path.{◌≡◌, ap}
use Prim.Native.Nat.{ℕ, ◌/◌, ◌-◌}
use native.Mathlib.Omega.{arith}
use lib.ListN.{length}
use Rattle.octets.specs.Records.{records_in}
use Rattle.exact.specs.Words.{sum_of}
use Rattle.group.specs.Listed.{listed}
use Rattle.draw.specs.Passes.{pass_sum, drawn_for}
use Rattle.draw.proofs.Filling.{sum_next}
use Rattle.draw.proofs.Sound.{sound_of}
use Rattle.draw.proofs.passing.Judged.add_up.Goals as goal

pub add_to_pass-sum-requires : goal.add_to_pass-sum-requires
unfolding records_in
add_to_pass-sum-requires c = omega arith

pub overflow_add-sum : goal.overflow_add-sum
unfolding records_in
overflow_add-sum c = omega (arith, c.add_to_pass-sum.ensures.1, (sound_of c.args.self.now).few_fills, c.loop-i.invariant)

pub loop-i-preserved : goal.loop-i-preserved
loop-i-preserved c = let a = c.args in
    (sum_next (drawn_for a.self.now.prover.metal a.self.now.records.now a.pass) (length a.self.now.records.now / 32) c.loop-i.i c.loop-i.sum (omega arith) c.add_to_pass-sum.ensures.0 c.loop-i.invariant.0, omega (arith, c.add_to_pass-sum.ensures.1, c.loop-i.invariant))

pub returns : goal.returns
unfolding pass_sum records_in sum_of listed
returns c = let a = c.args in
    let none_left : length a.self.now.records.now / 32 - c.loop-i.i ≡ 0 = omega arith in
    (omega (arith, c.loop-i.invariant.0, ap (λ (n : ℕ). sum_of (listed (drawn_for a.self.now.prover.metal a.self.now.records.now a.pass) n c.loop-i.i)) none_left), omega (arith, c.loop-i.invariant, (sound_of c.args.self.now).few_fills))
