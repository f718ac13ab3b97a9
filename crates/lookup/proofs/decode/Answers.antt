-- `lookup::decode` meets its contract: each field is what stands at its place.
use mathlib.Core.Path.{◌∙◌}
use Rattle.ranges.proofs.Counted.{passed_on}
use Rattle.lookup.specs.Table.{entry_at, entry_from}
use Rattle.lookup.proofs.decode.Goals as goal

pub returns : goal.returns
unfolding entry_at entry_from
returns c = let temperature = c.signed_at in
    let signed = passed_on temperature.result temperature.type_inv ∙ temperature.ensures in
    λ i. record { temperature = signed i; gravity = c.word_at.ensures i; compressibility = c.word_at-2.ensures i }
