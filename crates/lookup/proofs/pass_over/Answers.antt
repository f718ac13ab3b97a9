-- `lookup::pass_over` meets its contract.
use mathlib.Core.Path.{◌≡◌, refl, sym, ap, ◌∙◌, subst}
use mathlib.Core.Logic.{inl, inr}
use Prim.Native.Nat.{ℕ, ◌+◌, ◌<◌}
use native.Mathlib.Omega.{arith}
use borrow.Author.Tests.{ltb-true}
use lib.Dec.{ltb}
use Rattle.refusals.specs.Told.{fine, done, demand_at}
use Rattle.refusals.proofs.Laws.{demand_at_was, judged_fine, judged_fault}
use Rattle.octets.specs.FirstToLast.{first_place}
use Rattle.octets.proofs.FirstToLast.{faults, nowhere}
use Rattle.lookup.specs.Rank.{rank_at, is_wanted}
use Rattle.lookup.specs.Answers.{entry_fault}
use Rattle.lookup.proofs.Judged.{refusal_back}
use Rattle.lookup.proofs.Sound.{by_rank, first_fault}
use Rattle.lookup.proofs.Passed.{Passed, asked_for, not_asked_for, one_passed, placed}
use Rattle.lookup.proofs.pass_over.Goals.{After-demand, then-rank-asked, else-rank-asked}
use Rattle.lookup.proofs.pass_over.Goals as goal

-- the record is judged by the paper's order as the code judges it
judged : (c : After-demand) → entry_fault c.args.s.now c.loop-i.i ≡ demand_at (ltb c.loop-i.before c.rank_of_part-rank.result) 32 (c.loop-i.i + 1)
judged c = let l = c.loop-i in by_rank c.args.s.now l.i l.invariant.none ∙ (λ i. demand_at (ltb (sym l.invariant.last i) (sym c.rank_of_part-rank.ensures i)) 32 (l.i + 1))

pub returns-in_err-demand : goal.returns-in_err-demand
returns-in_err-demand c = let l = c.loop-i in
    let here = judged (goal.at.returns-in_err-demand c).After-demand ∙ sym (c.in_err-demand.ensures) in
    refusal_back _ _ c.from_residual.ensures.1 (judged_fault _ (first_fault c.args.s.now c.args.entries l.i (omega arith) l.invariant.none here))

pub loop-i-preserved : goal.loop-i-preserved
loop-i-preserved c = let s = c.args.s.now in
    let wanted = c.args.wanted in
    let l = c.loop-i in
    let rank = c.rank_of_part-rank.ensures in
    let asked = c.unwrap_or-asked.ensures in
    let clear : entry_fault s l.i ≡ fine = judged (goal.at.loop-i-preserved c).After-demand ∙ sym (c.in_ok-demand.ensures) in
    let more : l.before < c.rank_of_part-rank.result = ltb-true l.before c.rank_of_part-rank.result (demand_at_was _ 32 (l.i + 1) (sym (c.in_ok-demand.ensures))) in
    let above : 0 < rank_at s l.i = omega (arith, rank, more) in
    subst (λ (before : ℕ). Passed s wanted before c.if-rank-asked.place (l.i + 1)) (sym rank)
    (one_passed l.invariant clear (elim c.if-rank-asked.branch [
      | then-rank-asked w ↦ inl (asked_for s wanted l.i above (sym rank ∙ w.if-rank-asked.true ∙ asked), w.place-is)
      | else-rank-asked w ↦ inr (not_asked_for s wanted l.i (λ is. w.if-rank-asked.false (rank ∙ is ∙ sym asked)), w.place-is)
    ]))

pub returns : goal.returns
returns c = let s = c.args.s.now in
    let at = c.loop-i.invariant in
    let all : c.loop-i.i ≡ c.args.entries = omega arith in
    ap done (placed at c.loop-i.place refl ∙ ap (λ (n : ℕ). first_place (is_wanted s c.args.wanted) n 0) all)
    ∙ sym (judged_fine _ (nowhere faults (entry_fault s) c.args.entries 0 (λ j l h. at.none j (omega arith))))
