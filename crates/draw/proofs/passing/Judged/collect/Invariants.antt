-- The array holds the volumes 1 to i, and zeros after them.
use mathlib.Core.Path.{◌≡◌}
use Rattle.octets.specs.Records.{zeros_after}
use Rattle.group.specs.Listed.{listed}
use Rattle.draw.specs.Profile.{volume_of}
use Rattle.draw.proofs.passing.Judged.collect.Given as goal

abbrev pub invariant-loop-i : goal.invariant-loop-i
invariant-loop-i l = l.volumes ≡ zeros_after 20 (listed (volume_of l.profile l.self.prover l.self.records.now) l.i 1)
