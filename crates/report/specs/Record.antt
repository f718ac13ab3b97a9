-- 01, 'Records', the report: what its 32 bytes say, and the bytes of what it says.
use Rattle.std.specs.Prelude.{List, [], ◌∷◌, ◌++◌, ℕ, replicate}
use Rattle.octets.specs.Octets.{byte_at, word_at, long_at, bytes_of}
use Rattle.report.specs.declared.Factors.{Factors}
use Rattle.report.specs.declared.Report.{Report}

-- the five factors in their order
unfoldable pub list_of : Factors → List ℕ
list_of f = f.one ∷ f.two ∷ f.three ∷ f.four ∷ f.five ∷ []

-- '0 request number (4), 4 job factor (2), 6 first run used (1), 7 runs in job (1), 8 the five factors (2 each)'
unfoldable pub fields_of : List ℕ → Report
fields_of s =
    record {
      number = long_at s 0;
      factor = word_at s 4;
      first = byte_at s 6;
      runs = byte_at s 7;
      factors = record { one = word_at s 8; two = word_at s 10; three = word_at s 12; four = word_at s 14; five = word_at s 16 };
    }

-- the same places, and 'bytes not named are zero'
unfoldable pub bytes_of_report : Report → List ℕ
bytes_of_report r =
    bytes_of 4 r.number
    ++ bytes_of 2 r.factor
    ++ (r.first ∷ r.runs ∷ [])
    ++ bytes_of 2 r.factors.one
    ++ bytes_of 2 r.factors.two
    ++ bytes_of 2 r.factors.three
    ++ bytes_of 2 r.factors.four
    ++ bytes_of 2 r.factors.five
    ++ replicate 14 0
