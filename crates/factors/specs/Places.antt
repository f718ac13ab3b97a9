-- 01, 'Factors': d is 4 for proving and tickets, 6 for water draw.
use Rattle.std.specs.Prelude.{ℕ}
use Rattle.factors.specs.declared.Places.{Places}
use Rattle.factors.specs.declared.Places.TheVariants.{Four, Six}

abbrev pub digits : Places → ℕ
digits Four = 4
digits Six = 6
