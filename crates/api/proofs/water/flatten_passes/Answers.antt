-- `api::water::flatten_passes` meets its contract: the number, the record, the count and the volumes that the answer tells.
use Rattle.std.specs.Prelude.{Result, Ok, Err}
use Rattle.std.proofs.Common.{◌≡◌, refl, [], ◌∙◌}
use Rattle.std.specs.Result.{result_unwrap_or}
use Rattle.refusals.specs.Answered.{told}
use Rattle.refusals.specs.declared.Refusal.{Refusal}
use Rattle.octets.specs.Records.{zeros_after}
use Rattle.draw.specs.Volumes.{counted, held}
use Rattle.draw.specs.declared.DrawVolumes.{DrawVolumes}
use Rattle.api.specs.Flat.{number_in, record_in, flat_passes, passes_with}
use Rattle.api.proofs.water.flatten_passes.Goals as goal

abbrev no_volumes : DrawVolumes
no_volumes = record { count = 0; volumes = zeros_after 20 [] }

found_told : (answer : Result DrawVolumes Refusal) → (λ (found : DrawVolumes). passes_with (number_in (told answer)) (record_in (told answer)) found.count found.volumes) (result_unwrap_or answer no_volumes) ≡ flat_passes (counted (told answer)) (held (told answer))
unfolding flat_passes
found_told (Ok found) = refl
found_told (Err refusal) = refl

pub returns : goal.returns
unfolding zeros_after
returns c =
    let given = c.give_back-given.ensures in
    (λ i. passes_with (given.number i) (given.record i) (c.unwrap_or-found.ensures i).count (c.unwrap_or-found.ensures i).volumes)
    ∙ found_told c.args.answer
