-- `lookup::rank_at` meets its contract.
use mathlib.Core.Bool.{true, ◌&&◌}
use mathlib.Core.Path.{◌≡◌, sym, ap, ◌∙◌}
use Prim.Native.Nat.{◌+◌, ◌*◌}
use lib.Dec.{eqb}
use Rattle.std.proofs.Common.{rules}
use mir.Syntax.{w16}
use mir.Val.{to_z, of_z}
use Rattle.ranges.specs.Table.{temperature_ok}
use Rattle.ranges.proofs.Counted.{passed_on}
use Rattle.lookup.specs.Table.{entry_at, entry_ok, record_ok}
use Rattle.lookup.specs.Rank.{rank_of}
use Rattle.lookup.specs.declared.Entry.{Entry}
use Rattle.lookup.proofs.Counted.{counted}
use Rattle.lookup.proofs.Sound.{good_temperature, rank_good, rank_faulty}
use Rattle.lookup.proofs.rank_at.Lts.View as view
use Rattle.lookup.proofs.rank_at.Goals.{After-word_at, Then-is_entry-word_at}
use Rattle.lookup.proofs.rank_at.Goals as goal

-- what the code tests is what a record must hold
tested : (c : After-word_at) → record_ok c.args.s.now c.args.i ≡ (c.is_entry.result && eqb c.word_at.result 0)
unfolding record_ok
tested c = sym (λ i. (c.is_entry.ensures ∙ ap entry_ok c.decode-entry.ensures) i && eqb (c.word_at.ensures i) 0)

back : (c : After-word_at) → to_z w16 (of_z w16 c.decode-entry.result.temperature) ≡ (entry_at c.args.s.now c.args.i).temperature
back c = passed_on c.decode-entry.result.temperature (search rules) ∙ ap (λ (e : Entry). e.temperature) c.decode-entry.ensures

good : (c : Then-is_entry-word_at) → record_ok c.args.s.now c.args.i ≡ true
good c = tested (view.up-After-word_at _ _ _ c.before.before) ∙ c.if-is_entry-word_at.true

pub count_up-requires : goal.count_up-requires
count_up-requires c = ap temperature_ok (back (goal.at.count_up-requires c).After-word_at) ∙ good_temperature c.args.s.now c.args.i (good (goal.at.count_up-requires c).Then-is_entry-word_at)

pub returns-then-is_entry-word_at : goal.returns-then-is_entry-word_at
unfolding rank_of
returns-then-is_entry-word_at c = let a = c.args in
    let gravity = ap (λ (e : Entry). e.gravity) c.decode-entry.ensures in
    let count = c.count_up.ensures.0 ∙ ap counted (back (goal.at.returns-then-is_entry-word_at c).After-word_at) in
    (λ i. 4096 * gravity i + count i) ∙ sym (rank_good a.s.now a.i (good (goal.at.returns-then-is_entry-word_at c).Then-is_entry-word_at))

pub returns : goal.returns
returns c = let a = c.args in sym (rank_faulty a.s.now a.i (tested (goal.at.returns c).After-word_at ∙ c.if-is_entry-word_at.false))
