-- 01, 'Water draw': 'Per fill, at 6 places for factors and 0.01 cubic inch for volumes'.
use Rattle.std.specs.Prelude.{ℕ, ◌*◌, ◌^◌, pos, nat_abs, ◌+ℤ◌}
use Rattle.exact.specs.Rounding.{rounded_div, rounded, ◌over◌}
use Rattle.factors.specs.Rounded.{cts_at}
use Rattle.factors.specs.declared.Metal.{Metal}
use Rattle.factors.specs.declared.Metal.TheVariants.{Certified}
use Rattle.draw.specs.declared.FillRecord.{FillRecord}
use Rattle.draw.specs.declared.FillFigures.{FillFigures}

-- 'adjusted measure = certified volume + scale reading', above zero in the paper's ranges
unfoldable pub adjusted : FillRecord → ℕ
adjusted fill = nat_abs (pos fill.certified +ℤ fill.scale)

-- CTS of the measure, by its own temperature and coefficient
unfoldable pub measure_cts : FillRecord → ℕ
measure_cts fill = cts_at 6 (Certified fill.coefficient) fill.measure

-- CTS of the prover, by its temperature at the fill and its metal
unfoldable pub prover_cts : Metal → FillRecord → ℕ
prover_cts metal fill = cts_at 6 metal fill.prover

-- 'CCTS = rounded measure CTS ÷ rounded prover CTS'
unfoldable pub ccts : Metal → FillRecord → ℕ
ccts metal fill = rounded 6 (measure_cts fill over prover_cts metal fill)

-- 'drawn = adjusted × CTDW × CCTS': the exact product of a volume and two factors of 6 places, rounded once to 0.01 cubic inch
unfoldable pub drawn : Metal → FillRecord → ℕ
drawn metal fill = rounded_div (adjusted fill * fill.ctdw * ccts metal fill) (10 ^ 12)

-- the figures of one fill
unfoldable pub figures_of : Metal → FillRecord → FillFigures
figures_of metal fill = record {
  adjusted = adjusted fill;
  measure = measure_cts fill;
  prover = prover_cts metal fill;
  ccts = ccts metal fill;
  drawn = drawn metal fill;
}
