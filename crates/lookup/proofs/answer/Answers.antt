-- `lookup::answer` meets its contract.
use mathlib.Core.Path.{sym, ap, ◌∙◌}
use Rattle.refusals.specs.Told.{done}
use Rattle.lookup.specs.Answers.{record_found}
use Rattle.lookup.proofs.answer.Goals as goal

pub returns : goal.returns
returns c = ap done c.decode.ensures ∙ ap (record_found c.args.s.now) (sym c.in_ok-place.ensures.ok_part)
