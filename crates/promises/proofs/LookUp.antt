-- A look-up, exactly: the nearest half degree, the record with the pair, and each refusal for its cause.
use Rattle.std.specs.Prelude.{Option, None, Some}
use mathlib.Core.Path.{◌≡◌, refl, sym, ap, ◌∙◌}
use mathlib.Core.Logic.Iff
use mathlib.Core.Logic.{by_cases}
use mathlib.Core.Bool.{Bool, true, false, ◌&&◌, ◌||◌, cond}
use mathlib.Core.List.{List}
use Prim.Native.Nat.{ℕ, zero, suc, ◌+◌, ◌-◌, ◌/◌, ◌%◌, ◌≤◌}
use native.Mathlib.Decide.{dec_lt}
use native.Mathlib.Omega.{arith}
use borrow.Author.Tests.{lt-ltb, le-ltb, eqb-true, eq-eqb}
use lib.Dec.{ltb, eqb}
use lib.IntN.{ℤ, pos, negsuc, neg_ℤ, nat_abs, ◌-ℤ◌, neg_ℤ-neg_ℤ, neg_ℤ-+ℤ}
use lib.Signed.{le_z, lt_z}
use Rattle.refusals.specs.Told.{done, demand, demand_at, or_else, unless}
use Rattle.refusals.proofs.Laws.{done_one, refused_not_done, unless_done, told_one}
use Rattle.ranges.specs.Table.{temperature_ok, gravity_ok, entries_ok}
use Rattle.ranges.proofs.Laws.{both_first, both_second, both_true}
use Rattle.octets.specs.FirstToLast.{scan, first_place, place_if}
use Rattle.octets.specs.Records.{records_in, are_records}
use Rattle.octets.proofs.FirstToLast.{faults, places, same, First, place_first, place_none}
use Rattle.lookup.specs.HalfDegree.{half_degree, half_degree_signed, on_half_degree, on_half_degree_signed}
use Rattle.lookup.specs.Table.{entry_at, entry_ok, record_ok, follows, order_ok}
use Rattle.lookup.specs.Pair.{asked_ok, has_pair}
use Rattle.lookup.specs.Answers.{entry_fault, table_fault, record_found, found_in, look_up_of}
use Rattle.lookup.specs.declared.Entry.{Entry}
use Rattle.lookup.proofs.HalfDegree.{half_by_two, gravity_stays, temperature_stays}
use Rattle.lookup.proofs.Pair.{HasPair, pair_true, pair_was}
use Rattle.lookup.proofs.Sound.{NoFault}
use Rattle.lookup.proofs.Outcome.{one_place}
use Rattle.promises.specs.Arguments.{first, second, third}
use Rattle.promises.specs.Records.{Lent}
use Rattle.promises.specs.PrintedTable.{apart, NearestHalf, RecordInOrder, TableInOrder, Holds, Sought, Answerable, Answers, LookUpCause, OtherwiseSame}
use Rattle.promises.specs.PrintedTable as cause
use Rattle.promises.specs.LookUp.{LookUp}
use Rattle.promises.proofs.Reasons.{At, here, at_named, InTurn, sooner, later, OfFirst, of, Exactly, tested, in-turn, in_words, first-to-last, Tells, by_unless, tells_in_words, tells_place, one_cause}
use Rattle.promises.proofs.Groups.{apart as contrary}
use Rattle.promises.proofs.Judging.{lent_judged}

-- ---- the nearest half degree

-- how far apart two numbers from zero on are
apart_up : (n m : ℕ) → apart (pos n) (pos m) ≡ (n - m) + (m - n)
apart_up n zero = omega arith
apart_up n (suc m) = by_cases (dec_lt n (suc m)) (λ h. rw (lt-ltb n (suc m) h) (omega arith)) (λ h. rw (le-ltb n (suc m) (omega arith)) (omega arith))

-- the same on the other side of zero
size_kept : (z : ℤ) → nat_abs (neg_ℤ z) ≡ nat_abs z
size_kept (pos zero) = refl
size_kept (pos (suc n)) = refl
size_kept (negsuc n) = refl

apart_turned : (t u : ℤ) → apart (neg_ℤ t) (neg_ℤ u) ≡ apart t u
apart_turned t u = ap nat_abs (sym (neg_ℤ-+ℤ t (neg_ℤ u))) ∙ size_kept (t -ℤ u)

on_half_turned : (z : ℤ) → on_half_degree_signed (neg_ℤ z) ≡ on_half_degree_signed z
unfolding on_half_degree_signed
on_half_turned z = ap on_half_degree (size_kept z)

multiple_of_5 : (n : ℕ) → on_half_degree n ≡ true → n % 5 ≡ 0
unfolding on_half_degree
multiple_of_5 n on = eqb-true (n % 5) 0 on

of_5 : (n : ℕ) → n % 5 ≡ 0 → on_half_degree n ≡ true
unfolding on_half_degree
of_5 n is = eq-eqb (n % 5) 0 is

halves_up : (n : ℕ) → NearestHalf (pos n) (pos (half_degree n))
unfolding on_half_degree_signed
halves_up n = record { multiple = on_half; nearest = near; only = alone }
  where
    on_half : on_half_degree (half_degree n) ≡ true
    on_half = of_5 (half_degree n) (omega (arith, half_by_two n))

    near : (other : ℤ) → on_half_degree (nat_abs other) ≡ true → apart (pos n) (pos (half_degree n)) ≤ apart (pos n) other
    near (pos m) on = omega (arith, apart_up n (half_degree n), apart_up n m, half_by_two n, multiple_of_5 m on)
    near (negsuc m) on = omega (arith, apart_up n (half_degree n), half_by_two n, multiple_of_5 (suc m) on)

    alone : (other : ℤ) → on_half_degree (nat_abs other) ≡ true → apart (pos n) other ≤ apart (pos n) (pos (half_degree n)) → other ≡ pos (half_degree n)
    alone (pos m) on as_near = ap pos (omega (arith, as_near, apart_up n (half_degree n), apart_up n m, half_by_two n, multiple_of_5 m on))
    alone (negsuc m) on as_near = absurd (omega (arith, as_near, apart_up n (half_degree n), half_by_two n, multiple_of_5 (suc m) on))

turned : (t h : ℤ) → NearestHalf t h → NearestHalf (neg_ℤ t) (neg_ℤ h)
turned t h half =
    record {
      multiple = on_half_turned h ∙ half.multiple;
      nearest = λ other on. omega (arith, apart_turned t h, across other, half.nearest (neg_ℤ other) (on_half_turned other ∙ on));
      only = λ other on as_near. sym (neg_ℤ-neg_ℤ other) ∙ ap neg_ℤ (half.only (neg_ℤ other) (on_half_turned other ∙ on) (omega (arith, as_near, apart_turned t h, across other)));
    }
  where
    across : (other : ℤ) → apart (neg_ℤ t) other ≡ apart t (neg_ℤ other)
    across other = ap (apart (neg_ℤ t)) (sym (neg_ℤ-neg_ℤ other)) ∙ apart_turned t (neg_ℤ other)

halves : (t : ℤ) → NearestHalf t (half_degree_signed t)
unfolding half_degree_signed
halves (pos n) = halves_up n
halves (negsuc k) = turned (pos (suc k)) (pos (half_degree (suc k))) (halves_up (suc k))

-- ---- a look-up, judged in order

module _ (t : ℤ) (g : ℕ) (s : List ℕ) where
  abbrev n : ℕ
  n = records_in 8 s

  -- 1 and 32
  abbrev EntryCause : ℕ → ℕ → ℕ → Type 0
  EntryCause i = At 32 (i + 1) ((record_ok s i && order_ok s i) ≡ false)

  abbrev TableCause : ℕ → ℕ → Type 0
  TableCause = InTurn (At 1 0 (Lent entries_ok 8 s → ⊥)) (Lent entries_ok 8 s) (OfFirst n (RecordInOrder s) EntryCause)

  entry_judged : (i : ℕ) → Exactly (RecordInOrder s i) (EntryCause i) (entry_fault s i)
  unfolding entry_fault
  entry_judged i =
      in_words (
        (λ ok. record { faultless = both_first (record_ok s i) _ ok; ordered = both_second (record_ok s i) _ ok }),
        (λ ok. both_true ok.faultless ok.ordered),
      ) (λ _ _. Iff.rfl)
      (tested (record_ok s i && order_ok s i) 32 (i + 1))

  table_judged : Exactly (TableInOrder s) TableCause (table_fault s)
  unfolding table_fault
  table_judged =
      in_words ((λ ok. record { lent = ok.0; records = ok.1 }), (λ ok. (ok.lent, ok.records))) (λ _ _. Iff.rfl)
      (in-turn (lent_judged entries_ok 8 s) (first-to-last (entry_fault s) n entry_judged))

  -- a place that is found holds the pair, and where none is, no record does
  held : (i : ℕ) → first_place (has_pair s (half_degree_signed t) (half_degree g)) n 0 ≡ Some i → Sought t g s i
  held i is =
      let at : First (has_pair s (half_degree_signed t) (half_degree g)) n 0 i = place_first (has_pair s (half_degree_signed t) (half_degree g)) n 0 is in
      let has = pair_was s (half_degree_signed t) (half_degree g) i at.passes in
      record { inside = omega (arith, at.below); temperature = has.temperature; gravity = has.gravity }

  as_pair : (i : ℕ) → Sought t g s i → HasPair s (half_degree_signed t) (half_degree g) i
  as_pair i sought = record { temperature = sought.temperature; gravity = sought.gravity }

  not_held : first_place (has_pair s (half_degree_signed t) (half_degree g)) n 0 ≡ None → (i : ℕ) × Sought t g s i → ⊥
  not_held is pair =
      let i = pair.0 in
      let none_there = place_none (has_pair s (half_degree_signed t) (half_degree g)) n 0 is i (omega arith) (omega (arith, pair.1.inside)) in
      contrary (sym (pair_true s (half_degree_signed t) (half_degree g) i (as_pair i pair.1)) ∙ none_there)

  -- then 13, then 33; and the same by the names of specs/PrintedTable
  abbrev Cause : ℕ → ℕ → Type 0
  Cause =
      InTurn (InTurn TableCause (TableInOrder s) (At 13 0 (asked_ok t g ≡ false))) (TableInOrder s × (asked_ok t g ≡ true))
      (At 33 0 (((i : ℕ) × Sought t g s i) → ⊥))

  named : {number at : ℕ} → Cause number at → LookUpCause t g s number at
  named (sooner (sooner (sooner (here out)))) = cause.records_lent out
  named (sooner (sooner (later lent (of i h before there)))) = at_named (LookUpCause t g s) there (λ out. cause.faulty_or_disordered lent i h before out)
  named (sooner (later table (here out))) = cause.asked_numbers table out
  named (later ok (here none_there)) = cause.no_such_pair ok.0 ok.1 (λ i sought. none_there (i, sought))

  meant : {number at : ℕ} → LookUpCause t g s number at → Cause number at
  meant (cause.records_lent out) = sooner (sooner (sooner (here out)))
  meant (cause.faulty_or_disordered lent i h before out) = sooner (sooner (later lent (of i h before (here out))))
  meant (cause.asked_numbers table out) = sooner (later table (here out))
  meant (cause.no_such_pair table ok none_there) = later (table, ok) (here (λ pair. none_there pair.0 pair.1))

  tells : Tells (Answerable t g s) (LookUpCause t g s) (look_up_of t g s)
  unfolding look_up_of found_in
  tells =
      tells_in_words (
        (λ ok. record { table = ok.0.0; asked = ok.0.1; place = ok.1.0; sought = ok.1.1 }),
        (λ ok. ((ok.table, ok.asked), (ok.place, ok.sought))),
      ) (λ _ _. (named, meant))
      (by_unless (in-turn table_judged (tested (asked_ok t g) 13 0))
      (tells_place 33 (record_found s) (entry_at s) refl (λ _. refl) (first_place (has_pair s (half_degree_signed t) (half_degree g)) n 0) (λ i is. (i, held i is)) not_held))

  -- ---- the record with the pair

  no_fault : TableInOrder s → NoFault s n
  no_fault table k h = (entry_judged k).finds_none (table.records k h)

  answers : {entry : Entry} → look_up_of t g s ≡ done entry → Answers t g s entry
  unfolding look_up_of found_in
  answers {entry} is =
      let ok = tells.accepted is in
      let parts = unless_done (or_else (table_fault s) (demand (asked_ok t g) 13)) (found_in s (half_degree_signed t) (half_degree g)) is in
      by_place (first_place (has_pair s (half_degree_signed t) (half_degree g)) n 0) refl ok parts.1
    where
      by_place : (o : Option ℕ) → first_place (has_pair s (half_degree_signed t) (half_degree g)) n 0 ≡ o → Answerable t g s → record_found s o ≡ done entry → Answers t g s entry
      by_place None is ok told = absurd (refused_not_done told)
      by_place (Some i) is ok told = record { answerable = record { table = ok.table; asked = ok.asked; place = i; sought = held i is }; is = sym (done_one told) }

  answered : {entry : Entry} → Answers t g s entry → look_up_of t g s ≡ done entry
  answered {entry} this =
      let ok = this.answerable in
      let gives = tells.gives ok in
      let found = answers gives.1 in
      let there = found.answerable in
      let same = one_place s n (half_degree_signed t) (half_degree g) (no_fault ok.table) there.place ok.place there.sought.inside ok.sought.inside (as_pair there.place there.sought) (as_pair ok.place ok.sought) in
      gives.1 ∙ ap done (found.is ∙ ap (entry_at s) same ∙ sym this.is)

twice : (s : List ℕ) → TableInOrder s → (t : ℤ) (g i j : ℕ) → Holds s t g i → Holds s t g j → i ≡ j
twice s table t g i j has has' =
    one_place s (records_in 8 s) t g (no_fault (pos 0) 0 s table) i j has.inside has'.inside (record { temperature = has.temperature; gravity = has.gravity }) (record { temperature = has'.temperature; gravity = has'.gravity })

-- ---- no other record's F is in the answer

module _ (t : ℤ) (g : ℕ) (s s' : List ℕ) (else_same : OtherwiseSame t g s s') where
  record_same : (i : ℕ) → record_ok s i ≡ record_ok s' i
  unfolding record_ok entry_ok
  record_same i =
      let e = else_same in
      λ k. (temperature_ok (e.temperature i k) && (gravity_ok (e.gravity i k) && (e.range i k && (on_half_degree_signed (e.temperature i k) && on_half_degree (e.gravity i k))))) && eqb (e.last i k) 0

  order_same : (i : ℕ) → order_ok s i ≡ order_ok s' i
  unfolding order_ok follows
  order_same zero = refl
  order_same (suc i) =
      let e = else_same in
      λ k. ltb (e.gravity i k) (e.gravity (suc i) k) || (eqb (e.gravity i k) (e.gravity (suc i) k) && lt_z (e.temperature i k) (e.temperature (suc i) k))

  count_same : records_in 8 s ≡ records_in 8 s'
  unfolding records_in
  count_same = ap (λ (long : ℕ). long / 8) else_same.long

  table_same : table_fault s ≡ table_fault s'
  unfolding table_fault entry_fault
  table_same =
      let each : (i : ℕ) → entry_fault s i ≡ entry_fault s' i = λ i k. demand_at (record_same i k && order_same i k) 32 (i + 1) in
      let scanned = same faults (entry_fault s) (entry_fault s') (records_in 8 s) 0 (λ j _ _. each j) ∙ ap (λ (n : ℕ). scan (entry_fault s') n 0) count_same in
      λ k. or_else (demand (are_records entries_ok 8 (else_same.long k)) 1) (scanned k)

  pair_same : (u : ℤ) (f i : ℕ) → has_pair s u f i ≡ has_pair s' u f i
  unfolding has_pair
  pair_same u f i = let e = else_same in λ k. le_z (e.temperature i k) u && (le_z u (e.temperature i k) && eqb (e.gravity i k) f)

  abbrev place : Option ℕ
  place = first_place (has_pair s (half_degree_signed t) (half_degree g)) (records_in 8 s) 0

  place_same : place ≡ first_place (has_pair s' (half_degree_signed t) (half_degree g)) (records_in 8 s') 0
  unfolding place_if
  place_same =
      let u = half_degree_signed t in
      let f = half_degree g in
      same places (place_if (has_pair s u f)) (place_if (has_pair s' u f)) (records_in 8 s) 0 (λ j _ _. ap (λ (b : Bool). cond b (Some j) None) (pair_same u f j))
      ∙ ap (λ (n : ℕ). first_place (has_pair s' u f) n 0) count_same

  entry_same : (i : ℕ) → Sought t g s i → entry_at s i ≡ entry_at s' i
  entry_same i sought = let e = else_same in λ k. record { temperature = e.temperature i k; gravity = e.gravity i k; compressibility = e.found i sought k }

  record_found_same : (o : Option ℕ) → place ≡ o → record_found s o ≡ record_found s' o
  record_found_same None is = refl
  record_found_same (Some i) is = ap done (entry_same i (held t g s i is))

  answer_same : look_up_of t g s ≡ look_up_of t g s'
  unfolding look_up_of found_in
  answer_same =
      let found = record_found_same place refl ∙ ap (record_found s') place_same in
      λ k. unless (or_else (table_same k) (demand (asked_ok t g) 13)) (found k)

pub look_up : LookUp
look_up =
    record {
      nearest_temperature = halves;
      nearest_gravity = halves_up;
      temperature_stays = temperature_stays;
      gravity_stays = gravity_stays;
      no_pair_twice = twice;
      found_exactly = λ κ a r x entry p. let t = first a in let g = second a in let s = (third a).now in ((λ is. answers t g s (sym p ∙ is)), (λ this. p ∙ answered t g s this));
      refused_exactly = λ κ a r x number at p. let all = tells (first a) (second a) (third a).now in ((λ is. all.because (sym p ∙ is)), (λ why. p ∙ all.refuses why));
      one_of_look_up = λ t g s. one_cause (look_up_of t g s) (tells t g s);
      none_exactly = λ κ a r x p table ok.
          let all = tells (first a) (second a) (third a).now in (
            (λ is i sought. refused_not_done (sym (sym p ∙ is) ∙ (all.gives (record { table = table; asked = ok; place = i; sought = sought })).1)),
            (λ none_there. p ∙ all.refuses (cause.no_such_pair table ok none_there)),
          );
      others_left_out = λ κ a r x κ' b q y p p' t_same g-same else_same.
          told_one r q (p ∙ answer_same (first a) (second a) (third a).now (third b).now else_same ∙ (λ k. look_up_of (t_same k) (g-same k) (third b).now) ∙ sym p');
    }
