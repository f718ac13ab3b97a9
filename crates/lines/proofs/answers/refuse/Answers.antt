-- `lines::answers::refuse` meets its contract: the word, and the number and the record behind it.
use mathlib.Core.Path.{ap, ◌∙◌}
use mathlib.Core.List.{[], ◌∷◌}
use Rattle.refusals.specs.declared.GivenBack.{GivenBack}
use Rattle.lines.specs.Answers.{numbers_spelt, refused_spelt}
use Rattle.lines.proofs.Pieces.{place_behind, left_behind}
use Rattle.lines.proofs.answers.refuse.Goals as goal

pub returns : goal.returns
unfolding refused_spelt
returns c = let g = c.give_back-given in
    let t = c.write_text-at in
    let values = ap (λ (given : GivenBack). numbers_spelt (given.number ∷ given.at ∷ [])) g.ensures in
    let n = c.add_numbers in
    record {
      place = n.ensures.place ∙ place_behind _ _ _ t.ensures.place t.ensures.left values;
      left = n.ensures.left ∙ left_behind _ _ _ t.ensures.place t.ensures.left values;
    }
