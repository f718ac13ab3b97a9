-- `lines::answers::add_numbers` meets its contract.
use mathlib.Core.Path.{sym, ◌∙◌}
use native.Mathlib.Omega.{arith}
use Rattle.lines.proofs.Pieces.{place_step, left_step, place_end, left_end}
use Rattle.lines.proofs.answers.add_numbers.Goals as goal

pub loop-n-preserved : goal.loop-n-preserved
loop-n-preserved c =
    let l = c.loop-n in
    let ns = c.args.numbers.now in
    let n = c.add_number-at in
    record {
      place = place_step l.out l.at ns l.n-index n.result n.new.out (omega arith) n.ensures.place n.ensures.left ∙ l.invariant.place;
      left = left_step l.out l.at ns l.n-index n.result n.new.out (omega arith) n.ensures.place n.ensures.left ∙ l.invariant.left;
    }

pub returns : goal.returns
returns c =
    let l = c.loop-n in
    let ns = c.args.numbers.now in
    record {
      place = sym (place_end l.out l.at ns l.n-index (omega arith)) ∙ l.invariant.place;
      left = sym (left_end l.out l.at ns l.n-index (omega arith)) ∙ l.invariant.left;
    }
