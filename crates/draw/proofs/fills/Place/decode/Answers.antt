-- `draw::fills::Place::decode` meets its contract: each field is what stands at its place.
use mathlib.Core.Path.{◌∙◌}
use Rattle.draw.specs.Fill.{fill_at, fill_from}
use Rattle.ranges.proofs.Counted.{passed_on}
use Rattle.draw.proofs.fills.Place.decode.Goals as goal

pub returns : goal.returns
unfolding fill_at fill_from
returns c = let scaled = passed_on c.signed_at.result c.signed_at.type_inv ∙ c.signed_at.ensures in
    let of-prover = passed_on c.signed_at-2.result c.signed_at-2.type_inv ∙ c.signed_at-2.ensures in
    let of-measure = passed_on c.signed_at-3.result c.signed_at-3.type_inv ∙ c.signed_at-3.ensures in
    λ i. record {
      certified = c.long_at.ensures i;
      scale = scaled i;
      prover = of-prover i;
      measure = of-measure i;
      coefficient = c.word_at.ensures i;
      ctdw = c.long_at-2.ensures i;
      pass = c.byte_at.ensures i;
      pressure = c.word_at-2.ensures i;
    }
