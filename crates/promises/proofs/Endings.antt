-- Judging in order ends with a number of the list, if each of its tests does.
use Rattle.std.specs.Prelude.{Option, None, Some}
use mathlib.Core.Path.{◌≡◌, sym, subst}
use mathlib.Core.Bool.{Bool, true, false}
use mathlib.Core.List.{List}
use Prim.Native.Nat.{ℕ, zero, suc, ◌+◌, ◌≤◌, ◌<◌}
use native.Mathlib.Omega.{arith}
use Rattle.refusals.specs.Told.{Told, done, refused, Fault, fine, fault, demand, demand_at, or_else, unless, judged}
use Rattle.octets.specs.FirstToLast.{first_to_last, scan}
use Rattle.group.specs.Repeatability.{nine_unless}
use Rattle.draw.specs.Volumes.{counted}
use Rattle.draw.specs.declared.DrawVolumes.{DrawVolumes}
use Rattle.promises.specs.Ending.{refusal_ok, Ends}

-- the same of what judging finds
abbrev FindsNumber : List ℕ → ℕ → ℕ → Fault → Type 0
FindsNumber numbers first last fine = Unit {0}
FindsNumber numbers first last (fault number at) = refusal_ok numbers first last number at ≡ true

pub record Finds (numbers : List ℕ) (first last : ℕ) (f : Fault) : Type 0 where
  pub number : FindsNumber numbers first last f

module _ {numbers : List ℕ} {first last : ℕ} where
  pub by_demand_at : (t : Bool) (number at : ℕ) → refusal_ok numbers first last number at ≡ true → Finds numbers first last (demand_at t number at)
  by_demand_at true number at ok = record { number = tt }
  by_demand_at false number at ok = record { number = ok }

  pub by_demand : (t : Bool) (number : ℕ) → refusal_ok numbers first last number 0 ≡ true → Finds numbers first last (demand t number)
  by_demand t number = by_demand_at t number 0

  in_order : (f g : Fault) → Finds numbers first last f → Finds numbers first last g → Finds numbers first last (or_else f g)
  in_order fine g here next = next
  in_order (fault number at) g here next = here

  pub by_or_else : {f g : Fault} → Finds numbers first last f → Finds numbers first last g → Finds numbers first last (or_else f g)
  by_or_else {f} {g} here next = in_order f g here next

  pub by_scan : (f : ℕ → Fault) (n i : ℕ) → ((j : ℕ) → i ≤ j → j < i + n → Finds numbers first last (f j)) → Finds numbers first last (scan f n i)
  unfolding first_to_last
  by_scan f zero i each = record { number = tt }
  by_scan f (suc n) i each = in_order (f i) (scan f n (i + 1)) (each i (omega arith) (omega arith)) (by_scan f n (i + 1) (λ j from below. each j (omega arith) (omega arith)))

  unless_ends : {A : Type 0} (f : Fault) (t : Told A) → Finds numbers first last f → Ends numbers first last t → Ends numbers first last (unless f t)
  unless_ends fine t ok next = next
  unless_ends (fault number at) t ok next = record { gives = ok.number }

  pub by_unless : {A : Type 0} {f : Fault} {t : Told A} → Finds numbers first last f → Ends numbers first last t → Ends numbers first last (unless f t)
  by_unless {A} {f} {t} ok next = unless_ends f t ok next

  pub by_judged : {A : Type 0} {f : Fault} (x : A) → Finds numbers first last f → Ends numbers first last (judged f x)
  by_judged x ok = by_unless ok (record { gives = tt })

  pub by_nine : {A : Type 0} (o : Option ℕ) (follows : ℕ → A) → refusal_ok numbers first last 9 0 ≡ true → Ends numbers first last (nine_unless o follows)
  by_nine None follows ok = record { gives = ok }
  by_nine (Some at) follows ok = record { gives = tt }

-- what is told ends as its meaning does
pub as_told : {A : Type 0} {numbers : List ℕ} {first last : ℕ} {t m : Told A} → t ≡ m → Ends numbers first last m → Ends numbers first last t
as_told {A} {numbers} {first} {last} is ends = subst (λ (u : Told A). Ends numbers first last u) (sym is) ends

-- and an answer of volumes as their count does
pub of_counted : {numbers : List ℕ} {first last : ℕ} (t : Told DrawVolumes) → Ends numbers first last (counted t) → Ends numbers first last t
of_counted (done found) ends = record { gives = tt }
of_counted (refused number at) ends = record { gives = ends.gives }
