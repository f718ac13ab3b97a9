-- `lines::answers::add_numbers` meets its contract. The loop's invariant: the values left, written behind those before, are all of them written.
use mathlib.Core.Path.{◌≡◌}
use lib.ListN.{drop}
use Rattle.lines.specs.Answers.{place_all, written_all, numbers_spelt}
use Rattle.lines.proofs.answers.add_numbers.Given as goal

abbrev pub invariant-loop-n : goal.invariant-loop-n
invariant-loop-n l = record {
  place : place_all l.out l.at (numbers_spelt (drop l.n-index l.numbers)) ≡ place_all l.initial.out l.from (numbers_spelt l.numbers);
  left : written_all l.out l.at (numbers_spelt (drop l.n-index l.numbers)) ≡ written_all l.initial.out l.from (numbers_spelt l.numbers);
}
