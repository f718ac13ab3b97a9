-- Judging in order, exactly: it finds nothing when all is in order, and a number with its record for its cause; and only then. Once for a
-- test, for one judgement after another, for records first to last, and for the answer that follows.
use Rattle.std.specs.Prelude.{Option, None, Some}
use mathlib.Core.Path.{◌≡◌, refl, sym, ap, ◌∙◌, subst}
use mathlib.Core.Bool.{Bool, true, false, ◌&&◌}
use mathlib.Core.Logic.Iff
use mathlib.Core.Logic.{◌↔◌, ◌⊎◌, inl, inr}
use Prim.Native.Nat.{ℕ, ◌<◌}
use native.Mathlib.Omega.{arith}
use Rattle.refusals.specs.Told.{Told, done, refused, Fault, fine, fault, demand_at, or_else, unless, judged}
use Rattle.refusals.proofs.Laws.{refused_number, refused_record, refused_not_done, fault_not_fine}
use Rattle.octets.specs.FirstToLast.{scan}
use Rattle.octets.proofs.FirstToLast.{faults, nowhere, empty, found, scan_least}
use Rattle.group.specs.Repeatability.{nine_unless}
use Rattle.promises.specs.Records.{Every}
use Rattle.promises.specs.ExactCauses.{OneCause}
use Rattle.promises.proofs.Groups.{apart}

-- ---- causes of what is judged in order

-- one number with its record, where P holds
pub data At (number at : ℕ) (P : Type 0) : ℕ → ℕ → Type 0 where
  here : P → At number at P number at

-- What P gives for that number and record is had of the number and record that are named.
pub at_named : {n₀ at₀ number at : ℕ} {P : Type 0} (Cause : ℕ → ℕ → Type 0) → At n₀ at₀ P number at → (P → Cause n₀ at₀) → Cause number at
at_named Cause (here holds) gives = gives holds

-- a cause of the first, or the first is in order and there is a cause of the next
pub data InTurn (First : ℕ → ℕ → Type 0) (InOrder : Type 0) (Next : ℕ → ℕ → Type 0) (number at : ℕ) : Type 0 where
  sooner : First number at → InTurn First InOrder Next number at
  later : InOrder → Next number at → InTurn First InOrder Next number at

-- a cause of one of n, before which all are in order
pub data OfFirst (n : ℕ) (InOrder : ℕ → Type 0) (Cause : ℕ → ℕ → ℕ → Type 0) (number at : ℕ) : Type 0 where
  of : (i : ℕ) → i < n → Every i InOrder → Cause i number at → OfFirst n InOrder Cause number at

-- ---- what judging finds

pub record Exactly (InOrder : Type 0) (Cause : ℕ → ℕ → Type 0) (f : Fault) : Type 0 where
  pub finds_none : InOrder → f ≡ fine
  pub in_order : f ≡ fine → InOrder
  pub finds : {number at : ℕ} → Cause number at → f ≡ fault number at
  pub because : {number at : ℕ} → f ≡ fault number at → Cause number at

fault_number : {n m a b : ℕ} → fault n a ≡ fault m b → n ≡ m
fault_number is = cc

fault_record : {n m a b : ℕ} → fault n a ≡ fault m b → a ≡ b
fault_record is = cc

moved : (C : ℕ → ℕ → Type 0) {n m a b : ℕ} → n ≡ m → a ≡ b → C n a → C m b
moved C {n} {m} {a} {b} number at why = subst (λ (k : ℕ). C k b) number (subst (λ (k : ℕ). C n k) at why)

-- a number with its record that the test's cause names
said : {number at n a : ℕ} {Out : Type 0} → At number at Out n a → Out × (fault number at ≡ fault n a)
said (here out) = (out, refl)

-- a test: what it says where it holds, and where it fails
pub demanded : {InOrder Out : Type 0} (t : Bool) (number at : ℕ) → (t ≡ true) ↔ InOrder → (t ≡ false) ↔ Out → Exactly InOrder (At number at Out) (demand_at t number at)
demanded true number at holds fails =
    record { finds_none = λ _. refl; in_order = λ _. holds.0 refl; finds = λ why. absurd (apart (fails.1 (said why).0)); because = λ is. absurd (fault_not_fine (sym is)) }
demanded {InOrder} {Out} false number at holds fails =
    record {
      finds_none = λ ok. absurd (apart (sym (holds.1 ok)));
      in_order = λ is. absurd (fault_not_fine is);
      finds = λ why. (said why).1;
      because = λ is. moved (At number at Out) (fault_number is) (fault_record is) (here (fails.0 refl));
    }

-- a test fails exactly when what it says where it holds is not so
pub decided : {InOrder : Type 0} (t : Bool) → (t ≡ true) ↔ InOrder → (t ≡ false) ↔ (InOrder → ⊥)
decided true holds = ((λ is. absurd (apart is)), (λ out. absurd (out (holds.0 refl))))
decided false holds = ((λ _ ok. apart (sym (holds.1 ok))), (λ _. refl))

-- a test that says no more than that it holds
pub tested : (t : Bool) (number at : ℕ) → Exactly (t ≡ true) (At number at (t ≡ false)) (demand_at t number at)
tested t number at = demanded t number at Iff.rfl Iff.rfl

-- two tests for one number
pub tested_both : (t u : Bool) (number at : ℕ) → Exactly ((t && u) ≡ true) (At number at ((t && u) ≡ false)) (or_else (demand_at t number at) (demand_at u number at))
tested_both true u number at = tested u number at
tested_both false u number at = tested false number at

module _ {A B : Type 0} {C D : ℕ → ℕ → Type 0} where
  -- one judgement after another
  and_then : (f g : Fault) → Exactly A C f → Exactly B D g → Exactly (A × B) (InTurn C A D) (or_else f g)
  and_then fine g first next =
      record {
        finds_none = λ both. next.finds_none both.1;
        in_order = λ is. (first.in_order refl, next.in_order is);
        finds = elim [ sooner why ↦ absurd (fault_not_fine (sym (first.finds why))) | later ok why ↦ next.finds why ];
        because = λ is. later (first.in_order refl) (next.because is);
      }
  and_then (fault n a) g first next =
      record {
        finds_none = λ both. first.finds_none both.0;
        in_order = λ is. absurd (fault_not_fine is);
        finds = elim [ sooner why ↦ first.finds why | later ok why ↦ absurd (fault_not_fine (first.finds_none ok)) ];
        because = λ is. sooner (first.because is);
      }

  pub in-turn : {f g : Fault} → Exactly A C f → Exactly B D g → Exactly (A × B) (InTurn C A D) (or_else f g)
  in-turn {f} {g} = and_then f g

  -- the same in other words
  pub in_words : {f : Fault} → A ↔ B → ((number at : ℕ) → C number at ↔ D number at) → Exactly A C f → Exactly B D f
  in_words order cause judging =
      record {
        finds_none = λ ok. judging.finds_none (order.1 ok);
        in_order = λ is. order.0 (judging.in_order is);
        finds = λ {number} {at} why. judging.finds ((cause number at).1 why);
        because = λ {number} {at} is. (cause number at).0 (judging.because is);
      }

-- records first to last
pub first-to-last : {A : ℕ → Type 0} {C : ℕ → ℕ → ℕ → Type 0} (f : ℕ → Fault) (n : ℕ) → ((i : ℕ) → Exactly (A i) (C i) (f i)) → Exactly (Every n A) (OfFirst n A C) (scan f n 0)
first-to-last f n each =
    record {
      finds_none = λ all. nowhere faults f n 0 (λ i _ h. (each i).finds_none (all i (omega arith)));
      in_order = λ is i h. (each i).in_order (empty faults f n 0 is i (omega arith) (omega arith));
      finds = elim [
        | of i h before why ↦
            found faults f n 0 (record { place = i; from = omega arith; below = omega arith; gives = (each i).finds why; before = λ j _ below. (each j).finds_none (before j below) }) (λ _. refl)
      ];
      because = λ is.
          let at = scan_least f n 0 is in
          of at.place (omega arith) (λ j below. (each j).in_order (at.before j (omega arith) below)) ((each at.place).because at.gives);
    }

-- ---- what is told

pub record Tells {R : Type 0} (Accepted : Type 0) (Cause : ℕ → ℕ → Type 0) (t : Told R) : Type 0 where
  pub gives : Accepted → (x : R) × (t ≡ done x)
  pub accepted : {x : R} → t ≡ done x → Accepted
  pub refuses : {number at : ℕ} → Cause number at → t ≡ refused number at
  pub because : {number at : ℕ} → t ≡ refused number at → Cause number at

module _ {R A : Type 0} {C : ℕ → ℕ → Type 0} where
  -- a result, unless judging finds a fault
  tells_judged : (f : Fault) (x : R) → Exactly A C f → Tells A C (judged f x)
  tells_judged fine x judging =
      record {
        gives = λ _. (x, refl);
        accepted = λ _. judging.in_order refl;
        refuses = λ why. absurd (fault_not_fine (sym (judging.finds why)));
        because = λ is. absurd (refused_not_done (sym is));
      }
  tells_judged (fault n a) x judging =
      record {
        gives = λ ok. absurd (fault_not_fine (judging.finds_none ok));
        accepted = λ is. absurd (refused_not_done is);
        refuses = λ why. ap (λ (f : Fault). judged f x) (judging.finds why);
        because = λ is. moved C (refused_number is) (refused_record is) (judging.because refl);
      }

  pub by_judging : {f : Fault} (x : R) → Exactly A C f → Tells A C (judged f x)
  by_judging {f} x = tells_judged f x

  -- a refusal outright
  pub tells_refused : (number : ℕ) → (A → ⊥) → C number 0 → ((n at : ℕ) → C n at → (number ≡ n) × (0 ≡ at)) → Tells {R = R} A C (refused number 0)
  tells_refused number not-accepted why one =
      record {
        gives = λ ok. absurd (not-accepted ok);
        accepted = λ is. absurd (refused_not_done is);
        refuses = λ {number = n} {at} why. let same = one n at why in λ i. refused (same.0 i) (same.1 i);
        because = λ is. moved C (refused_number is) (refused_record is) why;
      }

  module _ {B : Type 0} {D : ℕ → ℕ → Type 0} where
    -- what follows, unless judging finds a fault
    tells_unless : (f : Fault) (t : Told R) → Exactly A C f → Tells B D t → Tells (A × B) (InTurn C A D) (unless f t)
    tells_unless fine t judging next =
        record {
          gives = λ both. next.gives both.1;
          accepted = λ is. (judging.in_order refl, next.accepted is);
          refuses = elim [ sooner why ↦ absurd (fault_not_fine (sym (judging.finds why))) | later ok why ↦ next.refuses why ];
          because = λ is. later (judging.in_order refl) (next.because is);
        }
    tells_unless (fault n a) t judging next =
        record {
          gives = λ both. absurd (fault_not_fine (judging.finds_none both.0));
          accepted = λ is. absurd (refused_not_done is);
          refuses = elim [ sooner why ↦ ap (λ (f : Fault). unless f t) (judging.finds why) | later ok why ↦ absurd (fault_not_fine (judging.finds_none ok)) ];
          because = λ is. sooner (moved C (refused_number is) (refused_record is) (judging.because refl));
        }

    pub by_unless : {f : Fault} {t : Told R} → Exactly A C f → Tells B D t → Tells (A × B) (InTurn C A D) (unless f t)
    by_unless {f} {t} = tells_unless f t

    -- the same in other words
    pub tells_in_words : {t : Told R} → A ↔ B → ((number at : ℕ) → C number at ↔ D number at) → Tells A C t → Tells B D t
    tells_in_words accepts cause tells =
        record {
          gives = λ ok. tells.gives (accepts.1 ok);
          accepted = λ is. accepts.0 (tells.accepted is);
          refuses = λ {number} {at} why. tells.refuses ((cause number at).1 why);
          because = λ {number} {at} is. (cause number at).0 (tells.because is);
        }

  -- so it is accepted or refused for one cause
  pub one_cause : (t : Told R) → Tells A C t → OneCause A C
  one_cause t tells =
      record {
        either = either t tells;
        not_both = λ ok why. refused_not_done (sym (tells.refuses why) ∙ (tells.gives ok).1);
        no_other = λ why other. let same = sym (tells.refuses why) ∙ tells.refuses other in (refused_number same, refused_record same);
      }
    where
      either : (t : Told R) → Tells A C t → A ⊎ ((number : ℕ) × (at : ℕ) × C number at)
      either (done x) tells = inl (tells.accepted refl)
      either (refused number at) tells = inr (number, at, tells.because refl)

-- what is told of a place that is found, and a number for none
pub tells_place : {R Group : Type 0} (number : ℕ) (told : Option ℕ → Told R) (follows : ℕ → R) → told None ≡ refused number 0 → ((at : ℕ) → told (Some at) ≡ done (follows at))
    → (o : Option ℕ) → ((at : ℕ) → o ≡ Some at → Group) → (o ≡ None → Group → ⊥) → Tells Group (At number 0 (Group → ⊥)) (told o)
tells_place {R} {Group} number told follows not_found found None some-group no_group =
    record {
      gives = λ group. absurd (no_group refl group);
      accepted = λ is. absurd (refused_not_done (sym not_found ∙ is));
      refuses = elim [ here _ ↦ not_found ];
      because = λ is. let same = sym not_found ∙ is in moved (At number 0 (Group → ⊥)) (refused_number same) (refused_record same) (here (no_group refl));
    }
tells_place {R} {Group} number told follows not_found found (Some at) some-group no_group =
    record {
      gives = λ _. (follows at, found at);
      accepted = λ _. some-group at refl;
      refuses = elim [ here none_there ↦ absurd (none_there (some-group at refl)) ];
      because = λ is. absurd (refused_not_done (sym is ∙ found at));
    }

-- 9 for no group
pub tells_nine : {R Group : Type 0} (o : Option ℕ) (follows : ℕ → R) → ((at : ℕ) → o ≡ Some at → Group) → (o ≡ None → Group → ⊥) → Tells Group (At 9 0 (Group → ⊥)) (nine_unless o follows)
tells_nine o follows = tells_place 9 (λ (place : Option ℕ). nine_unless place follows) follows refl (λ _. refl) o
