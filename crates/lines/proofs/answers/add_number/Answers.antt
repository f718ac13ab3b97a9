-- `lines::answers::add_number` meets its contract: a space, and what stands behind it.
use mathlib.Core.Path.{◌∙◌}
use Rattle.lines.specs.Answers.{numbers_spelt}
use Rattle.lines.proofs.Pieces.{place_two, left_two}
use Rattle.lines.proofs.answers.add_number.Goals as goal

pub returns : goal.returns
unfolding numbers_spelt
returns c = let t = c.write_text-next in
    let n = c.write_number in
    record {
      place = n.ensures.place ∙ place_two _ _ _ _ t.ensures.place t.ensures.left;
      left = n.ensures.left ∙ left_two _ _ _ _ t.ensures.place t.ensures.left;
    }
