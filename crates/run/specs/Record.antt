-- 01, 'Records', the run, and 02's longer form of it: what its bytes say, and when they are in order.
use Rattle.std.specs.Prelude.{Bool, ◌&&◌, List, ℕ, ◌+◌, ◌*◌}
use Rattle.octets.specs.Octets.{word_at, long_at, quad_at, signed_at, zero_between}
use Rattle.ranges.specs.Table.{temperature_ok, ctl_ok, pulses_ok}
use Rattle.factors.specs.Liquid.{liquid_ok}
use Rattle.run.specs.declared.Form.{Form}
use Rattle.run.specs.declared.Form.TheVariants.{Short, Long}
use Rattle.run.specs.declared.Run.{Run}
use Rattle.run.specs.declared.Side.{Side}

-- a record's length in bytes: 'The new run record is 48 bytes'
abbrev pub size_of : Form → ℕ
size_of Short = 32
size_of Long = 48

-- 'then the old bytes 4 to 31 at 8 to 35': how much further on they stand
abbrev pub shift_of : Form → ℕ
shift_of Short = 0
shift_of Long = 4

-- thousandths of a pulse: '0 pulses (4)', and 'pulses in thousandths (8 bytes ..)'
abbrev pub pulses_at : Form → List ℕ → ℕ → ℕ
pulses_at Short s at = long_at s at * 1000
pulses_at Long s at = quad_at s at

-- one side's fields, from the byte of its temperature on: of the two sides' in turn, every other one
unfoldable pub side_from : List ℕ → ℕ → Side
side_from s at =
    record {
      temperature = signed_at s at;
      ctl = word_at s (at + 8);
      liquid = record { pressure = word_at s (at + 4); compressibility = word_at s (at + 12); equilibrium = word_at s (at + 16) };
    }

-- '4 prover T (signed 2), 6 meter T (signed 2), 8 prover P, 10 meter P, 12 prover CTL, 14 meter CTL, 16 prover F, 18 meter F (2 each)';
-- 02: 'Run records hold it at bytes 20 (prover) and 22 (meter)'; `old` is the byte from which they are counted so
unfoldable pub fields_from : ℕ → List ℕ → ℕ → Run
fields_from pulses s old =
    record {
      pulses = pulses;
      prover = record {
        temperature = signed_at s (old + 4);
        ctl = word_at s (old + 12);
        liquid = record { pressure = word_at s (old + 8); compressibility = word_at s (old + 16); equilibrium = word_at s (old + 20) };
      };
      meter = record {
        temperature = signed_at s (old + 6);
        ctl = word_at s (old + 14);
        liquid = record { pressure = word_at s (old + 10); compressibility = word_at s (old + 18); equilibrium = word_at s (old + 22) };
      };
    }

-- the record from a byte on
unfoldable pub run_from : Form → List ℕ → ℕ → Run
run_from form s at = fields_from (pulses_at form s at) s (at + shift_of form)

-- the run at place i, counted from 0
unfoldable pub run_at : Form → List ℕ → ℕ → Run
run_at form s i = run_from form s (size_of form * i)

unfoldable pub side_ok : Side → Bool
side_ok side = temperature_ok side.temperature && (ctl_ok side.ctl && liquid_ok side.liquid)

-- every field in range, or number 5
unfoldable pub run_ok : Run → Bool
run_ok run = pulses_ok run.pulses && (side_ok run.prover && side_ok run.meter)

-- 'bytes not named are zero', or number 2: those of the record at place i, from 24 on as the old ones are counted
unfoldable pub unnamed_ok : Form → List ℕ → ℕ → Bool
unnamed_ok form s i = zero_between s (size_of form * i + shift_of form + 24) (size_of form * i + size_of form)
