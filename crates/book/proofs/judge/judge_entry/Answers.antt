-- `book::judge::judge_entry` meets its contract: 23, 24 and 25 in their order.
use mathlib.Core.Path.{sym, ap, ◌∙◌}
use mathlib.Core.Bool.{Bool, ◌||◌, not}
use mathlib.Core.List.{List}
use Prim.Native.Nat.{ℕ}
use lib.Dec.{ltb}
use lib.ListN.{length, get_or}
use Rattle.refusals.specs.Told.{demand}
use Rattle.refusals.proofs.Laws.{or_else_next}
use Rattle.octets.specs.Lists.{is_one_of}
use Rattle.std.proofs.Common.{arith}
use Rattle.std.proofs.lemmas.Grind.{common_steps}
use Rattle.book.specs.Calls.{has_room, entry_fault}
use Rattle.book.specs.Figures.{over_shippers, reserve_in, ceiling_in, places, reserve, ceiling, commons, line_at, waiting_of, has}
use Rattle.book.proofs.Waiting.{contains_tells}
use Rattle.book.proofs.judge.judge_entry.Goals as goal

pub returns-in_err-demand : goal.returns-in_err-demand
unfolding entry_fault waiting_of line_at
returns-in_err-demand c = let told = c.contains.ensures.value ∙ contains_tells c.args.number c.waiting-waiting.result.now in grind (arith, common_steps)

pub returns-in_err-demand-2 : goal.returns-in_err-demand-2
unfolding entry_fault waiting_of line_at has ceiling ceiling_in
returns-in_err-demand-2 c = let told = c.contains.ensures.value ∙ contains_tells c.args.number c.waiting-waiting.result.now in grind (arith, common_steps)

pub returns : goal.returns
unfolding entry_fault has_room waiting_of line_at has reserve ceiling reserve_in ceiling_in commons places over_shippers
returns c =
    let told = c.contains.ensures.value ∙ contains_tells c.args.number c.waiting-waiting.result.now ∙ ap (λ (xs : List ℕ). is_one_of c.args.number xs) c.waiting-waiting.ensures in
    let many = ap (length {A = ℕ}) c.waiting-waiting.ensures in
    let reserve_free = ap (λ (n : ℕ). ltb n (get_or c.args.book.figures.reserves c.args.shipper 0)) many in
    let ceiling_free = ap (λ (n : ℕ). ltb n (get_or c.args.book.figures.ceilings c.args.shipper 0)) many in
    c.demand-3.ensures ∙ (λ i. demand (reserve_free i || ltb (c.count_commons_used.ensures i) (c.count_commons.ensures i)) 25)
    ∙ sym (or_else_next _ (ap (λ (t : Bool). demand (not t) 23) (sym told) ∙ sym c.in_ok-demand.ensures) ∙ or_else_next _ (ap (λ (t : Bool). demand t 24) (sym ceiling_free) ∙ sym c.in_ok-demand-2.ensures))
