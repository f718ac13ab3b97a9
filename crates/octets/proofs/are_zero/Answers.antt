-- `octets::are_zero` meets its contract: what is asked of bytes past the end holds.
use mathlib.Core.Path.{◌≡◌, refl, sym, ◌∙◌, ap}
use mathlib.Core.Bool.{Bool, true, false}
use mathlib.Core.Logic.{by_cases}
use mathlib.Core.List.{List}
use Prim.Native.Nat.{ℕ, ◌+◌, ◌-◌, ◌<◌, min}
use native.Mathlib.Decide.{dec_lt}
use native.Mathlib.Omega.{arith}
use borrow.Author.Tests.{tests, le-leb}
use lib.ListN.{length, get_or, take, drop, get_or-eq_default, length-drop}
use lib.Seq.{length-take-le, get_or-take, get_or-drop}
use Rattle.std.proofs.Common.{rules}
use Rattle.std.specs.Bool.{MatchBool}
use Rattle.std.specs.List.{AllWithin, HoldsAt}
use Rattle.std.proofs.lemmas.Iterator.{cases_from_all, YieldsList-from_slice}
use Rattle.octets.specs.Octets.{zero_between}
use Rattle.octets.proofs.Laws.{zero_each, zero_all}
use Rattle.octets.proofs.are_zero.Goals as goal

-- the bytes from a on that the list has, up to but not including b
abbrev judged : List ℕ → ℕ → ℕ → List ℕ
judged s a b = take (min b (length s) - a) (drop a s)

judged_length : (s : List ℕ) (a b : ℕ) → length (judged s a b) ≡ min b (length s) - a
judged_length s a b = length-take-le _ (drop a s) (simp length-drop (omega arith))

judged_byte : (s : List ℕ) (a b i : ℕ) → i < length (judged s a b) → get_or (judged s a b) i 0 ≡ get_or s (a + i) 0
judged_byte s a b i h = get_or-take _ (drop a s) i 0 (omega (arith, judged_length s a b)) ∙ get_or-drop a s i 0

by-judged : (s : List ℕ) (a b : ℕ) (all : Bool) → MatchBool all (AllWithin (λ x. x ≡ 0) (judged s a b) 0 (length (judged s a b))) ((k : ℕ) × (k < length (judged s a b)) × HoldsAt (λ x. x ≡ 0 → ⊥) (judged s a b) k)
    → all ≡ zero_between s a b
by-judged s a b true each =
    sym (zero_all s a b (λ k low high.
    by_cases (dec_lt k (length s))
    (λ inside.
    let here : k - a < length (judged s a b) = omega (arith, judged_length s a b) in
    let at : k ≡ a + (k - a) = omega arith in
    ap (λ (n : ℕ). get_or s n 0) at ∙ sym (judged_byte s a b (k - a) here) ∙ each (k - a) 0 (omega arith) here)
    (λ past. get_or-eq_default s 0 (omega arith))))
by-judged s a b false some = by-test (zero_between s a b) refl
  where
    by-test : (zeros : Bool) → zero_between s a b ≡ zeros → false ≡ zero_between s a b
    by-test false is = sym is
    by-test true is = absurd (some.2 0 (judged_byte s a b some.0 some.1 ∙ zero_each s a b is (a + some.0) (omega arith) (omega (arith, some.1, judged_length s a b))))

pub returns-then-end-a : goal.returns-then-end-a
returns-then-end-a c = let a = c.args in
    let end = c.min-end.ensures in
    le-leb _ _ c.if-end-a.true ∙ sym (zero_all a.s.now a.a a.b (λ k low high. get_or-eq_default a.s.now 0 (omega arith)))

pub returns-else-end-a : goal.returns-else-end-a
returns-else-end-a c = let a = c.args in
    by-judged a.s.now a.a a.b c.all.result
    (cases_from_all _ _ _ (λ x. x ≡ 0) (λ x. x ≡ 0 → ⊥) c.all.ensures.ran (YieldsList-from_slice (judged a.s.now a.a a.b) (c.iter.ensures.rest ∙ ap (λ (end : ℕ). take (end - a.a) (drop a.a a.s.now)) c.min-end.ensures)) (λ x q k. search (rules, tests)) (λ x q k. search (rules, tests)))
