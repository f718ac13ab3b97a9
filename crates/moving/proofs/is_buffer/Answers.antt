-- `moving::is_buffer` meets its contract: which length is the longer form's.
use mathlib.Core.Path.{sym, ap, ◌∙◌}
use Rattle.run.specs.declared.Form.{Form}
use Rattle.moving.specs.Judging.{buffer_ok}
use Rattle.moving.proofs.is_buffer.Goals as goal

pub returns-in-Short : goal.returns-in-Short
returns-in-Short c = let a = c.args in
    c.are_lengths.ensures ∙ sym (ap (λ (f : Form). buffer_ok f a.lent a.size) c.in-Short.is)

pub returns-in-Long : goal.returns-in-Long
returns-in-Long c = let a = c.args in
    c.are_lengths-in-Long.ensures ∙ sym (ap (λ (f : Form). buffer_ok f a.lent a.size) c.in-Long.is)
