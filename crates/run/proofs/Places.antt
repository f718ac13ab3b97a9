-- How far a form's places reach, and a record that begins past the end, of which the end stands for the beginning: every byte of it reads as 0.
use mathlib.Core.Path.{◌≡◌, refl, sym, ap, ◌∙◌}
use mathlib.Core.Bool.{true}
use mathlib.Core.List.{List}
use mathlib.Core.Logic.{◌⊎◌, inl, inr, ⊎_elim, by_cases}
use Prim.Native.Nat.{ℕ, ◌+◌, ◌*◌, ◌≤◌, min}
use native.Mathlib.Decide.{dec_lt}
use native.Mathlib.Omega.{arith}
use lib.ListN.{length, get_or-eq_default}
use Rattle.octets.specs.Octets.{word_at, long_at, quad_at, signed_at, signed_of, zero_between}
use Rattle.octets.proofs.Laws.{number_past, zero_all}
use Rattle.run.specs.Record.{size_of, shift_of, pulses_at, fields_from, run_from, unnamed_ok}
use Rattle.run.specs.declared.Form.{Form}
use Rattle.run.specs.declared.Form.TheVariants.{Short, Long}

pub shift_small : (form : Form) → shift_of form ≤ 4
shift_small Short = omega arith
shift_small Long = omega arith

pub size_small : (form : Form) → size_of form ≤ 48
size_small Short = omega arith
size_small Long = omega arith

module _ (s : List ℕ) {at : ℕ} (h : length s ≤ at) where
  word_past : (o n : ℕ) → word_at s (length s + o + n) ≡ word_at s (at + o + n)
  unfolding word_at
  word_past o n = number_past 2 s (length s + o + n) (omega arith) ∙ sym (number_past 2 s (at + o + n) (omega arith))

  pulses_past : (form : Form) → pulses_at form s (length s) ≡ pulses_at form s at
  unfolding long_at quad_at
  pulses_past Short = ap (λ (n : ℕ). n * 1000) (number_past 4 s (length s) (omega arith) ∙ sym (number_past 4 s at h))
  pulses_past Long = number_past 8 s (length s) (omega arith) ∙ sym (number_past 8 s at h)

  run_past : (form : Form) → run_from form s (length s) ≡ run_from form s at
  unfolding run_from fields_from signed_at
  run_past form =
      let w = word_past (shift_of form) in
      λ i.
      record {
        pulses = pulses_past form i;
        prover = record { temperature = signed_of (w 4 i); ctl = w 12 i; liquid = record { pressure = w 8 i; compressibility = w 16 i; equilibrium = w 20 i } };
        meter = record { temperature = signed_of (w 6 i); ctl = w 14 i; liquid = record { pressure = w 10 i; compressibility = w 18 i; equilibrium = w 22 i } };
      }

  -- bytes from the end on are zero
  none_left : (a b : ℕ) → length s ≤ a → zero_between s a b ≡ true
  none_left a b past = zero_all s a b (λ j l _. get_or-eq_default s 0 (omega arith))

  unnamed_past : (o n m : ℕ) → zero_between s (length s + o + n) (length s + m) ≡ zero_between s (at + o + n) (at + m)
  unnamed_past o n m = none_left (length s + o + n) (length s + m) (omega arith) ∙ sym (none_left (at + o + n) (at + m) (omega arith))

-- the record at place i begins at a byte; past the end, where every byte reads as 0, the end stands for it
abbrev pub BeginsAt : Form → List ℕ → ℕ → ℕ → Type 0
BeginsAt form s i at = (at ≡ size_of form * i) ⊎ ((at ≡ length s) × (length s ≤ size_of form * i))

module _ (form : Form) (s : List ℕ) (i : ℕ) {at : ℕ} (place : BeginsAt form s i at) where
  -- the record is read the same
  pub begun : run_from form s at ≡ run_from form s (size_of form * i)
  begun =
      ⊎_elim
      (λ (is : at ≡ size_of form * i). ap (run_from form s) is)
      (λ (past : (at ≡ length s) × (length s ≤ size_of form * i)). ap (run_from form s) past.0 ∙ run_past s past.1 form)
      place

  -- and so are its unnamed bytes
  pub begun_unnamed : (o n m : ℕ) → zero_between s (at + o + n) (at + m) ≡ zero_between s (size_of form * i + o + n) (size_of form * i + m)
  begun_unnamed o n m =
      ⊎_elim
      (λ (is : at ≡ size_of form * i). ap (λ (b : ℕ). zero_between s (b + o + n) (b + m)) is)
      (λ (past : (at ≡ length s) × (length s ≤ size_of form * i)). ap (λ (b : ℕ). zero_between s (b + o + n) (b + m)) past.0 ∙ unnamed_past s past.1 o n m)
      place

-- the code takes the lesser of the record's place and the end, and reads the same
module _ (form : Form) (s : List ℕ) (i : ℕ) {at : ℕ} (is : at ≡ min (size_of form * i) (length s)) where
  pub begins : BeginsAt form s i at
  begins = by_cases (dec_lt (length s) (size_of form * i)) (λ past. inr (omega arith, omega arith)) (λ within. inl (omega arith))

  pub begun_min : run_from form s at ≡ run_from form s (size_of form * i)
  begun_min = begun form s i begins

  pub begun_unnamed_min : (o n m : ℕ) → zero_between s (at + o + n) (at + m) ≡ zero_between s (size_of form * i + o + n) (size_of form * i + m)
  begun_unnamed_min = begun_unnamed form s i begins

-- the unnamed bytes of the first record
pub first_unnamed : (form : Form) (s : List ℕ) → zero_between s (shift_of form + 24) (size_of form) ≡ unnamed_ok form s 0
unfolding unnamed_ok
first_unnamed Short s = refl
first_unnamed Long s = refl

-- no size is zero
pub size_positive : (form : Form) {size : ℕ} → size ≡ size_of form → 1 ≤ size
size_positive Short is = omega arith
size_positive Long is = omega arith
