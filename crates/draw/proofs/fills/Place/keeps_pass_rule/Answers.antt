-- `draw::fills::Place::keeps_pass_rule` meets its contract.
use mathlib.Core.Path.{◌∙◌}
use Rattle.draw.proofs.Fields.{rule_first, rule_later}
use Rattle.draw.proofs.fills.Place.keeps_pass_rule.Goals as goal

pub returns-then-self-eq0 : goal.returns-then-self-eq0
returns-then-self-eq0 c = rule_first c.args.self.now.records.now c.if-self-eq0.true c.decode-fill.ensures

pub returns : goal.returns
returns c = let a = c.args.self.now in
    c.is_next.ensures ∙ rule_later a.records.now a.i c.if-self-eq0.false c.decode.ensures c.decode-fill.ensures
