-- `run::records::read_fields` meets its contract: the meter's fields stand 2 bytes behind the prover's.
use Rattle.std.specs.Prelude.{List, ℕ, ◌≡◌, ◌+◌}
use Rattle.std.proofs.Common.{arith}
use Rattle.std.proofs.lemmas.Grind.{common_steps}
use Rattle.run.specs.Record.{side_from, fields_from}
use Rattle.run.specs.declared.Run.{Run}
use Rattle.run.specs.declared.Side.{Side}
use Rattle.run.proofs.records.read_fields.Goals as goal

both : (pulses : ℕ) (s : List ℕ) (old : ℕ) (prover meter : Side) → prover ≡ side_from s (old + 4) → meter ≡ side_from s (old + 6)
    → ◌≡◌ {A = Run} (record { pulses = pulses; prover = prover; meter = meter }) (fields_from pulses s old)
unfolding side_from fields_from
both pulses s old prover meter first second = grind (arith, common_steps)

pub returns : goal.returns
returns c = both c.args.pulses c.args.s.now c.args.old c.read_side.result c.read_side-2.result c.read_side.ensures c.read_side-2.ensures
