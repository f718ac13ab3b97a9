-- `proving::Input::judge_records` meets its contract. The loop's invariant: what is found from the first record on is what is found from record i on.
use Rattle.std.proofs.Common.{sym, arith}
use Rattle.std.proofs.lemmas.Grind.{common_steps}
use Rattle.octets.proofs.FirstToLast.{faults, next, scan_hit, done}
use Rattle.proving.specs.Judging.{lent_fault}
use Rattle.proving.proofs.Input.judge_records.Goals as goal

pub returns-in_err-judge_record : goal.returns-in_err-judge_record
returns-in_err-judge_record c = let l = c.loop-i in
    let hit = scan_hit (lent_fault c.args.self.form c.args.self.records.now) c.args.count l.i c.loop-i-test.true (sym c.in_err-judge_record.ensures) l.invariant in
    grind (arith, common_steps, hit)

pub loop-i-preserved : goal.loop-i-preserved
loop-i-preserved c = next faults (lent_fault c.args.self.form c.args.self.records.now) c.args.count c.loop-i.i c.loop-i-test.true (sym c.in_ok-judge_record.ensures) c.loop-i.invariant

pub returns : goal.returns
returns c = sym (done faults (lent_fault c.args.self.form c.args.self.records.now) c.args.count c.loop-i.i c.loop-i-test.false c.loop-i.invariant)
