-- `run::records::read_side` meets its contract: each field stands at its place.
use mathlib.Core.Path.{◌∙◌}
use mir.Syntax.{w16}
use mir.ValLaws.{to_z-of_z}
use Rattle.run.specs.Record.{side_from}
use Rattle.run.proofs.records.read_side.Goals as goal

pub returns : goal.returns
unfolding side_from
returns c = let warm = to_z-of_z w16 c.signed_at.result (record { sfits = c.signed_at.type_inv }) ∙ c.signed_at.ensures in
    λ i. record { temperature = warm i; ctl = c.word_at.ensures i; liquid = record { pressure = c.word_at-2.ensures i; compressibility = c.word_at-3.ensures i; equilibrium = c.word_at-4.ensures i } }
