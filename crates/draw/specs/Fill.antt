-- 01, 'Records', the fill: where its numbers stand in the 32 bytes, and what a record must hold.
use Rattle.std.specs.Prelude.{Bool, ◌&&◌, ◌||◌, List, ℕ, zero, suc, ◌+◌, ◌*◌, eqb}
use Rattle.ranges.specs.Table.{certified_ok, scale_ok, draw_prover_ok, draw_measure_ok, coefficient_ok, ctdw_ok, pressure_ok}
use Rattle.octets.specs.Octets.{byte_at, word_at, long_at, signed_at, zero_between}
use Rattle.draw.specs.declared.FillRecord.{FillRecord}

-- 'Fill: 0 certified volume (4), 4 scale reading (signed 2), 6 prover T, 8 measure T (signed 2), 10 measure coefficient (2), 12 CTDW (4),
-- 16 pass (1), 18 pressure (2)'
unfoldable pub fill_from : List ℕ → ℕ → FillRecord
fill_from s at = record {
  certified = long_at s at;
  scale = signed_at s (at + 4);
  prover = signed_at s (at + 6);
  measure = signed_at s (at + 8);
  coefficient = word_at s (at + 10);
  ctdw = long_at s (at + 12);
  pass = byte_at s (at + 16);
  pressure = word_at s (at + 18);
}

-- 'All 32 bytes': the record at a place, from 0
unfoldable pub fill_at : List ℕ → ℕ → FillRecord
fill_at s i = fill_from s (32 * i)

-- each field in its range; 'the pass byte has no range of its own'
unfoldable pub fill_ok : FillRecord → Bool
fill_ok fill =
    certified_ok fill.certified
    && (scale_ok fill.scale
    && (draw_prover_ok fill.prover
    && (draw_measure_ok fill.measure
    && (coefficient_ok fill.coefficient
    && (ctdw_ok fill.ctdw
    && pressure_ok fill.pressure)))))

-- 'bytes not named are zero': 17, and 20 to 31
unfoldable pub unnamed_ok : List ℕ → ℕ → Bool
unnamed_ok s i = zero_between s (32 * i + 17) (32 * i + 18) && zero_between s (32 * i + 20) (32 * i + 32)

-- passes 'never go back or skip', and 'all fills of a pass carry one pressure'
unfoldable pub follows : FillRecord → FillRecord → Bool
follows before fill = (eqb fill.pass before.pass && eqb fill.pressure before.pressure) || eqb fill.pass (before.pass + 1)

-- 'Passes start at 1', and each later fill follows the one before it
unfoldable pub rule_ok : List ℕ → ℕ → Bool
rule_ok s zero = eqb (fill_at s 0).pass 1
rule_ok s (suc i) = follows (fill_at s i) (fill_at s (suc i))
