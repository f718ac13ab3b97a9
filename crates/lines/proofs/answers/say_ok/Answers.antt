-- `lines::answers::say_ok` meets its contract: the word, and the values behind it.
use mathlib.Core.Path.{refl, ◌∙◌}
use Rattle.lines.specs.Answers.{ok_spelt}
use Rattle.lines.proofs.Pieces.{place_behind, left_behind}
use Rattle.lines.proofs.answers.say_ok.Goals as goal

pub returns : goal.returns
unfolding ok_spelt
returns c = let t = c.write_text-at in
    let n = c.add_numbers in
    record {
      place = n.ensures.place ∙ place_behind _ _ _ t.ensures.place t.ensures.left refl;
      left = n.ensures.left ∙ left_behind _ _ _ t.ensures.place t.ensures.left refl;
    }
