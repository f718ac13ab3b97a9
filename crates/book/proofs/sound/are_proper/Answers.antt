-- `book::sound::are_proper` meets its contract: the first of those that are left is judged, and then those behind it.
use mathlib.Core.Path.{refl, sym, ◌∙◌}
use mathlib.Core.Bool.{true, false}
use borrow.Author.Tests.{eq-eqb, ne_eqb}
use Rattle.book.proofs.Waiting.{proper_first, proper_none}
use Rattle.book.proofs.sound.are_proper.Goals.{then-number-eq0-via-then-number-eq0, then-number-eq0-via-else-number-eq0+then-contains}
use Rattle.book.proofs.sound.are_proper.Goals as goal

pub returns-then-number-eq0 : goal.returns-then-number-eq0
returns-then-number-eq0 c =
    elim c.then-number-eq0.branch [
      | then-number-eq0-via-then-number-eq0 w ↦ sym (c.loop-number.invariant ∙ proper_first _ _ _ true _ c.in-Some.ensures.cases.0 (eq-eqb _ _ w.if-number-eq0.true) refl)
      | then-number-eq0-via-else-number-eq0+then-contains w ↦
          sym (c.loop-number.invariant ∙ proper_first _ _ _ false true c.in-Some.ensures.cases.0 (ne_eqb _ _ w.if-number-eq0.false) (sym w.contains.ensures.value ∙ w.if-contains.true))
    ]

pub loop-number-preserved : goal.loop-number-preserved
loop-number-preserved c = c.loop-number.invariant ∙ proper_first _ _ _ false false c.in-Some.ensures.cases.0 (ne_eqb _ _ c.if-number-eq0.false) (sym c.contains.ensures.value ∙ c.if-contains.false)

pub returns : goal.returns
returns c = sym (c.loop-number.invariant ∙ proper_none _ c.in_default.ensures.cases)
