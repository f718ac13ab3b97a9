-- `api::books::flatten_change` meets its contract: the number and the record that the answer tells.
use Rattle.api.specs.Flat.{flat_done}
use Rattle.api.proofs.books.flatten_change.Goals as goal

pub returns : goal.returns
unfolding flat_done
returns c =
    let given = c.give_back-given.ensures in
    λ i. record { number = given.number i; at = given.record i }
