-- `report::lay_out` meets its contract: the bytes of each number, put together, are the record's list.
use mathlib.Core.List.{List, ◌∷◌}
use Prim.Native.Nat.{ℕ}
use lib.ListN.{get_or, replicate}
use Rattle.octets.specs.Octets.{bytes_of}
use Rattle.report.specs.Record.{bytes_of_report}
use Rattle.report.proofs.lay_out.Goals as goal

-- two bytes, and four, before the rest
abbrev halves : List ℕ → List ℕ → List ℕ
halves b rest = get_or b 0 0 ∷ get_or b 1 0 ∷ rest

abbrev quarters : List ℕ → List ℕ → List ℕ
quarters b rest = halves b (get_or b 2 0 ∷ get_or b 3 0 ∷ rest)

pub returns : goal.returns
unfolding bytes_of bytes_of_report
returns c = let r = c.args.r in
    λ i.
    quarters (c.long_bytes-number.ensures i)
    (halves (c.word_bytes-factor.ensures i)
    (r.first
    ∷ r.runs
    ∷ halves (c.word_bytes-one.ensures i)
    (halves (c.word_bytes-two.ensures i)
    (halves (c.word_bytes-three.ensures i)
    (halves (c.word_bytes-four.ensures i)
    (halves (c.word_bytes-five.ensures i) (replicate 14 0)))))))
