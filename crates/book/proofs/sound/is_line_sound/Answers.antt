-- `book::sound::is_line_sound` meets its contract: a line that a machine holds is as wide as a line is, and the tests come in their order.
use mathlib.Core.Path.{◌≡◌, refl, sym, ap, ◌∙◌}
use mathlib.Core.Bool.{true, false}
use borrow.Author.Tests.{le-leb, lt-leb}
use Rattle.std.proofs.Common.{rules}
use lib.ListN.{length}
use Rattle.book.specs.Line.{are_proper}
use Rattle.book.proofs.Books.{line_judged}
use Rattle.book.proofs.sound.is_line_sound.Goals.{then-line-ceiling, else-line-ceiling}
use Rattle.book.proofs.sound.is_line_sound.Goals as goal

pub returns-then-are_proper : goal.returns-then-are_proper
returns-then-are_proper c =
    let wide : length c.args.line.now.numbers ≡ 16 = search rules in
    elim c.if-line-ceiling.branch [
      | then-line-ceiling w ↦
          sym (line_judged c.args.ceiling c.args.line.now true true _ wide (le-leb _ _ w.if-line-ceiling.true) (ap are_proper (sym w.waiting.ensures) ∙ sym w.are_proper.ensures ∙ sym w.value-is ∙ c.if-are_proper.true) (sym c.are_unused_zero.ensures))
      | else-line-ceiling w ↦ absurd (search rules)
    ]

pub returns-else-are_proper : goal.returns-else-are_proper
returns-else-are_proper c =
    let wide : length c.args.line.now.numbers ≡ 16 = search rules in
    elim c.if-line-ceiling.branch [
      | then-line-ceiling w ↦
          c.if-are_proper.false
          ∙ sym (line_judged c.args.ceiling c.args.line.now true false _ wide (le-leb _ _ w.if-line-ceiling.true) (ap are_proper (sym w.waiting.ensures) ∙ sym w.are_proper.ensures ∙ sym w.value-is ∙ c.if-are_proper.false) refl)
      | else-line-ceiling w ↦ c.if-are_proper.false ∙ sym (line_judged c.args.ceiling c.args.line.now false _ _ wide (lt-leb _ _ w.if-line-ceiling.false) refl refl)
    ]
