-- `lines::operands::has_form` meets its contract: by how many words there are.
use Rattle.std.proofs.Common.{◌∙◌}
use Rattle.lines.proofs.Forms.{too_many, too_few, held}
use Rattle.lines.proofs.operands.has_form.Goals as goal

pub returns-then-kinds-count : goal.returns-then-kinds-count
returns-then-kinds-count c = let a = c.args in too_many a.least a.line.now a.kinds.now c.count_words-count.ensures c.if-kinds-count.true

pub returns-then-least-count : goal.returns-then-least-count
returns-then-least-count c = let a = c.args in c.are_kinds.ensures ∙ held a.least a.line.now a.kinds.now c.count_words-count.ensures c.if-kinds-count.false c.if-least-count.true

pub returns-else-least-count : goal.returns-else-least-count
returns-else-least-count c = let a = c.args in too_few a.least a.line.now a.kinds.now c.count_words-count.ensures c.if-kinds-count.false c.if-least-count.false
