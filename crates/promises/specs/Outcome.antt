-- 01, 'How much a contract says': 'Every public function states its entire outcome for all inputs: what it returns, and the bytes and book
-- left behind, also when it refuses. That no second outcome satisfies the statement is itself proved'. Of the contracts themselves:
-- `f.Post κ a r x` is what the function f ensures of the arguments a at entry, the answer r and the arguments x at exit (κ are the
-- lifetimes of what is lent).
use Rattle.std.specs.Prelude.{◌≡◌, List, ℕ}

-- Demand 1: 'No caller has to check first.' What a function asks of its arguments, `f.Pre`, holds of any: a `requires` that is added to it
-- later is refused here
abbrev pub AnyArguments : {K : Type 0} {A : K → Type 0} → ((κ : K) → A κ → Type 0) → Type 0
AnyArguments {K} {A} pre = (κ : K) (a : A κ) → pre κ a

-- any arguments are taken, and two outcomes that satisfy the contract at the same ones have the same answer
abbrev pub OneAnswer : {K : Type 0} {A R X : K → Type 0} → ((κ : K) → A κ → Type 0) → ((κ : K) → A κ → R κ → X κ → Type 0) → Type 0
OneAnswer {K} {A} {R} {X} pre post = AnyArguments pre × ((κ : K) (a : A κ) (r q : R κ) (x y : X κ) → post κ a r x → post κ a q y → r ≡ q)

-- any arguments are taken, and what two outcomes answer with has the same bytes
abbrev pub OneRead : {K : Type 0} {A R X : K → Type 0} → ((κ : K) → A κ → Type 0) → ((κ : K) → A κ → R κ → X κ → Type 0) → ((κ : K) → R κ → List ℕ) → Type 0
OneRead {K} {A} {R} {X} pre post bytes = AnyArguments pre × ((κ : K) (a : A κ) (r q : R κ) (x y : X κ) → post κ a r x → post κ a q y → bytes κ r ≡ bytes κ q)

-- and the same bytes in what was lent to be written
abbrev pub OneLeft : {K : Type 0} {A R X : K → Type 0} → ((κ : K) → A κ → R κ → X κ → Type 0) → ((κ : K) → X κ → List ℕ) → Type 0
OneLeft {K} {A} {R} {X} post bytes = (κ : K) (a : A κ) (r q : R κ) (x y : X κ) → post κ a r x → post κ a q y → bytes κ x ≡ bytes κ y

-- of a call that changes a book in place: two outcomes at the same book have the same answer, and leave the same book
abbrev pub OneChange : {S R : Type 0} → (S → S → R → Type 0) → Type 0
OneChange {S} {R} says = (found left left' : S) (r q : R) → says found left r → says found left' q → (r ≡ q) × (left ≡ left')
