-- `report::decode` meets its contract: each field is read at its place.
use Rattle.report.specs.Record.{fields_of}
use Rattle.report.proofs.decode.Goals as goal

pub returns : goal.returns
unfolding fields_of
returns c = λ i.
    record {
      number = c.long_at.ensures i;
      factor = c.word_at-6.ensures i;
      first = c.byte_at.ensures i;
      runs = c.byte_at-2.ensures i;
      factors = record { one = c.word_at.ensures i; two = c.word_at-2.ensures i; three = c.word_at-3.ensures i; four = c.word_at-4.ensures i; five = c.word_at-5.ensures i };
    }
