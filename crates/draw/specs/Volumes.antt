-- What an answer of a draw's volumes tells: how many there are, and which.
use Rattle.std.specs.Prelude.{List, [], ℕ}
use Rattle.refusals.specs.Told.{Told, done, refused, left_by}
use Rattle.octets.specs.Records.{zeros_after}
use Rattle.draw.specs.declared.DrawVolumes.{DrawVolumes}

-- their count, or the refusal
abbrev pub counted : Told DrawVolumes → Told ℕ
counted (done found) = done found.count
counted (refused number at) = refused number at

-- the array of 20 with the volumes; zeros alone beside a refusal
abbrev pub held : Told DrawVolumes → List ℕ
held answer = left_by answer (λ found. found.volumes) (zeros_after 20 [])
