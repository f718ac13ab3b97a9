-- `group::first_group` meets its contract: the first of the windows that is a group.
use Rattle.std.proofs.Common.{rules, arith, tests}
use Rattle.std.proofs.lemmas.Iterator.Search.{position_from_yields_List}
use mathlib.Core.Path.{◌∙◌}
use Rattle.group.specs.Repeatability.{qualifies}
use Rattle.group.proofs.Groups.{none_of_no_size}
use Rattle.group.proofs.Windows.{groups_yielded, first_position}
use Rattle.group.proofs.first_group.Goals as goal

pub returns-then-size-eq0 : goal.returns-then-size-eq0
returns-then-size-eq0 c = none_of_no_size c.args.limit c.args.size c.args.values.now c.if-size-eq0.true

pub returns : goal.returns
returns c = let a = c.args in
    position_from_yields_List (qualifies a.limit) _ _ _ c.position.ensures.ran (groups_yielded a.size a.values.now c.windows.ensures.size c.windows.ensures.rest (omega arith)) (λ x b q k. search (rules, tests))
    ∙ first_position a.limit a.size a.values.now
