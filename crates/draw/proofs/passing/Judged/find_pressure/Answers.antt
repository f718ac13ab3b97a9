-- `draw::passing::Judged::find_pressure` meets its contract.
use mathlib.Core.Path.{refl, sym, ap}
use Prim.Native.Nat.{◌/◌, ◌<◌}
use native.Mathlib.Omega.{arith}
use lib.ListN.{length}
use Rattle.ranges.specs.Table.{pressure_ok}
use Rattle.octets.specs.FirstToLast.{place_if}
use Rattle.octets.proofs.FirstToLast.{places, done, place_hit, place_next}
use Rattle.draw.specs.Fill.{fill_at}
use Rattle.octets.specs.Records.{records_in}
use Rattle.draw.specs.Passes.{pass_pressure, pressure_at, is_of}
use Rattle.draw.proofs.Fields.{fields}
use Rattle.draw.proofs.Filling.{of_pass, not_of_pass}
use Rattle.draw.proofs.Sound.{sound_of}
use Rattle.draw.proofs.passing.Judged.find_pressure.Goals as goal

pub invariant_of-place : goal.invariant_of-place
unfolding records_in
invariant_of-place c = record { few = omega (arith, (sound_of c.args.self.now).few_fills) }

pub returns-then-pass : goal.returns-then-pass
unfolding pass_pressure records_in
returns-then-pass c = let a = c.args in
    let records = a.self.now.records.now in
    let h : c.loop-i.i < length records / 32 = omega arith in
    let place = place_hit (is_of records a.pass) (length records / 32) c.loop-i.i h (of_pass records c.loop-i.i c.pass.ensures c.if-pass.true) c.loop-i.invariant in
    (rw place c.pressure.ensures, rw c.pressure.ensures (fields (fill_at records c.loop-i.i) ((sound_of c.args.self.now).fill c.loop-i.i h)).pressure)

pub loop-i-preserved : goal.loop-i-preserved
loop-i-preserved c = let a = c.args in
    place_next (is_of a.self.now.records.now a.pass) (length a.self.now.records.now / 32) c.loop-i.i (omega arith) (not_of_pass a.self.now.records.now c.loop-i.i c.pass.ensures a.pass c.if-pass.false) c.loop-i.invariant

pub returns : goal.returns
unfolding pass_pressure records_in pressure_ok
returns c = let a = c.args in
    (sym (ap (pressure_at a.self.now.records.now) (done places (place_if (is_of a.self.now.records.now a.pass)) (length a.self.now.records.now / 32) c.loop-i.i (omega arith) c.loop-i.invariant)), refl)
