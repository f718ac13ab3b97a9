-- The spread by one rounded quotient: a zero divisor and a quotient of more than 64 bits are no spread to tell.
use Rattle.std.specs.Prelude.{Result, Ok, Err, Option, None, Some}
use Rattle.std.specs.Option.{MatchOption, ok_or}
use mathlib.Core.Path.{◌≡◌, refl, sym, ap, ◌∙◌}
use mathlib.Core.Bool.{Bool, true, false, not, ◌&&◌, cond}
use mathlib.Core.List.{List, [], ◌∷◌}
use Prim.Native.Nat.{ℕ, zero, suc, ◌*◌, ◌-◌, ◌^◌, ◌<◌}
use native.Mathlib.Omega.{arith}
use borrow.Author.Tests.{le-leb, ne_eqb}
use lib.Dec.{eqb, leb, ltb}
use lib.ListN.{length}
use Rattle.refusals.specs.Told.{Told, done, refused, demand, judged}
use Rattle.exact.specs.Rounding.{rounded_div, rounded}
use Rattle.exact.specs.Quotient.{quotient_of}
use Rattle.exact.proofs.Answers.{with_error}
use Rattle.refusals.specs.Table.{number_of, record_of}
use Rattle.refusals.specs.declared.Refusal.TheVariants.{NoGroup}
use Rattle.group.specs.Repeatability.{smallest, largest}
use Rattle.group.specs.Spread.{spread_in, has_spread, spread_of}
use Rattle.group.specs.declared.Extent.{Extent}
use Rattle.group.specs.declared.Extremes.{Extremes}
use Rattle.refusals.specs.Answered.{told}
use Rattle.refusals.specs.declared.Refusal.{Refusal}
use Rattle.exact.specs.declared.QuotientError.TheVariants.{ZeroDivisor, TooLarge}

-- what is told by the spread alone
abbrev pub by_spread : List ℕ → Result ℕ Refusal → Told Extent
by_spread xs (Ok q) = done (record { smallest = smallest xs; largest = largest xs; spread = q })
by_spread xs (Err why) = refused (number_of why) (record_of why)

above_zero : (n : ℕ) → leb 1 n ≡ not (eqb n 0)
above_zero zero = refl
above_zero (suc n) = le-leb 1 (suc n) (omega arith) ∙ ap not (sym (ne_eqb (suc n) 0 (λ is. omega arith)))

by_tests : (xs : List ℕ) (q : ℕ) (none fits : Bool)
    → by_spread xs (with_error NoGroup (cond none (Err ZeroDivisor) (cond fits (Ok q) (Err TooLarge)))) ≡ judged (demand (not none && fits) 9) (record { smallest = smallest xs; largest = largest xs; spread = q })
by_tests xs q true fits = refl
by_tests xs q false true = refl
by_tests xs q false false = refl

pub by-quotient : (xs : List ℕ) → by_spread xs (with_error NoGroup (quotient_of ((largest xs - smallest xs) * 100000) (smallest xs))) ≡ spread_of xs
unfolding quotient_of spread_of has_spread spread_in rounded
by-quotient xs =
    let q = rounded_div ((largest xs - smallest xs) * 100000) (smallest xs) in
    by_tests xs q (eqb (smallest xs) 0) (ltb q (2 ^ 64))
    ∙ ap (λ (t : Bool). judged (demand (t && ltb q (2 ^ 64)) 9) (record { smallest = smallest xs; largest = largest xs; spread = q })) (sym (above_zero (smallest xs)))

-- the ends of some values
abbrev pub AreEnds : List ℕ → Extremes → Type 0
AreEnds xs ends = (0 < length xs) × (ends.smallest ≡ smallest xs) × (ends.largest ≡ largest xs)

-- a smallest of 0 has no spread
pub none_of_none : (xs : List ℕ) → smallest xs ≡ 0 → refused 9 0 ≡ spread_of xs
unfolding spread_of has_spread
none_of_none xs is = ap (λ (n : ℕ). judged (demand (leb 1 n && ltb (spread_in xs) (2 ^ 64)) 9) (record { smallest = smallest xs; largest = largest xs; spread = spread_in xs })) (sym is)

-- and so it is of no values, which have no ends
no-smallest : (xs : List ℕ) → length xs ≡ 0 → smallest xs ≡ 0
unfolding smallest
no-smallest [] is = refl
no-smallest (x ∷ xs) is = absurd (omega arith)

pub none_told : (xs : List ℕ) (ends : Option Extremes) (why : Refusal) → MatchOption ends (length xs ≡ 0) (AreEnds xs) → Err why ≡ ok_or ends NoGroup → told (Err why) ≡ spread_of xs
none_told xs None why none is = let number : why ≡ NoGroup = cc in rw number (none_of_none xs (no-smallest xs none))
none_told xs (Some ends) why some is = cc
