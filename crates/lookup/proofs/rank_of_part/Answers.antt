-- `lookup::rank_of_part` meets its contract: what is taken out of the table is the record.
use mathlib.Core.Path.{◌≡◌, ap, ◌∙◌}
use mathlib.Core.List.{List}
use Prim.Native.Nat.{ℕ, ◌+◌, ◌-◌, ◌*◌}
use native.Mathlib.Omega.{arith}
use Rattle.std.proofs.Math.ListN.{take, drop}
use Rattle.lookup.specs.Rank.{rank_at}
use Rattle.lookup.proofs.Part.{own_rank}
use Rattle.lookup.proofs.rank_of_part.Goals as goal

pub returns-in-Some : goal.returns-in-Some
returns-in-Some c = let s = c.args.s.now in
    let at = 8 * c.args.i in
    let eight : at + 8 - at ≡ 8 = omega arith in
    let part : c.in-Some.record.now ≡ take 8 (drop at s) = c.in-Some.ensures.lookup.0.2 ∙ ap (λ (n : ℕ). take n (drop at s)) eight in
    c.rank_at.ensures ∙ ap (λ (bytes : List ℕ). rank_at bytes 0) part ∙ own_rank s c.args.i
