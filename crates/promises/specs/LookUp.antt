-- 02, 'Look up compressibility', of the contract itself: the nearest half degree, what is answered and exactly when, and what the answer does
-- not depend on. `look_up.Post κ a r x` is what the function ensures of the arguments a at entry, which are temperature, gravity and table, the
-- answer r and the arguments x at exit.
use Rattle.std.specs.Prelude.{◌≡◌, ◌↔◌, true, List, ℕ, ℤ, pos}
use Rattle.refusals.specs.Told.{done, refused}
use Rattle.ranges.specs.Table.{temperature_ok, gravity_ok}
use Rattle.lookup.specs.HalfDegree.{half_degree, half_degree_signed}
use Rattle.lookup.specs.Pair.{asked_ok}
use Rattle.lookup.specs.declared.Entry.{Entry}
use Rattle.lookup.proofs.look_up.Reads as look_up
use Rattle.promises.specs.Arguments.{first, second, third}
use Rattle.promises.specs.ExactCauses.{OneCause}
use Rattle.promises.specs.PrintedTable.{NearestHalf, TableInOrder, Holds, Sought, Answerable, Answers, LookUpCause, OtherwiseSame}
use Rattle.refusals.specs.Answered.{told}

pub record LookUp : Type 0 where
  -- 'to the nearest half degree': the nearest multiple of 5 tenths and no other, of every number; in tenths there are no ties
  pub nearest_temperature : (t : ℤ) → NearestHalf t (half_degree_signed t)
  pub nearest_gravity : (g : ℕ) → NearestHalf (pos g) (pos (half_degree g))
  -- it does not leave the range asked
  pub temperature_stays : (t : ℤ) → temperature_ok t ≡ true → temperature_ok (half_degree_signed t) ≡ true
  pub gravity_stays : (g : ℕ) → gravity_ok g ≡ true → gravity_ok (half_degree g) ≡ true
  -- 'no pair twice': a table in order has at most one record with a pair
  pub no_pair_twice : (s : List ℕ) → TableInOrder s → (t : ℤ) (g i j : ℕ) → Holds s t g i → Holds s t g j → i ≡ j
  -- 'The answer is the record with that pair', and nothing else is
  pub found_exactly : (κ : _) (a : _) (r : _) (x : _) (entry : Entry) → look_up.Post κ a r x → (told r ≡ done entry) ↔ Answers (first a) (second a) (third a).now entry
  -- refused exactly for its cause, which is one; so 33 'exactly when the table has none'
  pub refused_exactly : (κ : _) (a : _) (r : _) (x : _) (number at : ℕ) → look_up.Post κ a r x → (told r ≡ refused number at) ↔ LookUpCause (first a) (second a) (third a).now number at
  pub one_of_look_up : (t : ℤ) (g : ℕ) (s : List ℕ) → OneCause (Answerable t g s) (LookUpCause t g s)
  -- '33 for no such pair' in the paper's words: of a table in order and numbers in range, exactly when the table has none
  pub none_exactly : (κ : _) (a : _) (r : _) (x : _) → look_up.Post κ a r x → TableInOrder (third a).now → asked_ok (first a) (second a) ≡ true
      → (told r ≡ refused 33 0) ↔ ((i : ℕ) → Sought (first a) (second a) (third a).now i → ⊥)
  -- no other record's F is in the answer
  pub others_left_out : (κ : _) (a : _) (r : _) (x : _) (κ' : _) (b : _) (q : _) (y : _) → look_up.Post κ a r x → look_up.Post κ' b q y
      → first a ≡ first b → second a ≡ second b → OtherwiseSame (first a) (second a) (third a).now (third b).now → r ≡ q
