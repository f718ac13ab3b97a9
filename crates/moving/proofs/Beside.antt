-- A short record and a long one of the same run, side by side: what makes them so, and what follows.
use mathlib.Core.Path.{◌≡◌, refl, sym, ap, ◌∙◌}
use mathlib.Core.Bool.{Bool, true, false}
use mathlib.Core.List.{List, [], ◌++◌, append_assoc}
use Prim.Native.Nat.{ℕ, zero, suc, ◌+◌, ◌*◌, ◌-◌, ◌%◌, ◌/◌, ◌^◌, ◌<◌, ◌≤◌}
use native.Mathlib.Nat.{mul-suc, mul-zero, zero-add}
use native.Mathlib.Omega.{arith}
use mathlib.Core.Logic.{by_cases}
use native.Mathlib.Decide.{dec_lt}
use lib.ListN.{length, get_or, take, drop, replicate, length-append, get_or-replicate}
use lib.Seq.{take-add, get_or-take, get_or-drop, get_or-append-add, ext_get_or}
use lib.ListN.{get_or-append}
use Rattle.octets.specs.Octets.{number_at, word_at, long_at, quad_at, signed_at, signed_of, bytes_of, zero_between}
use Rattle.octets.specs.Records.{joined}
use Rattle.octets.proofs.Laws.{number_same, read_written, length_bytes, zero_each, zero_all}
use Rattle.octets.proofs.Joined.{joined_byte}
use Rattle.run.specs.Record.{fields_from, run_from, run_at, unnamed_ok}
use Rattle.run.specs.declared.Form.TheVariants.{Short, Long}
use Rattle.moving.specs.Moved.{lengthened, shortened, moved_bytes}
use Rattle.moving.proofs.Laws.{part_length, lengthened_size, shortened_size}

-- record i of the short ones and of the long ones: the same count, 'the old bytes 4 to 31 at 8 to 35, then zeros'
pub record Beside (s t : List ℕ) (i : ℕ) : Type 0 where
  pub pulses : quad_at t (48 * i) ≡ long_at s (32 * i) * 1000
  pub rest : (j : ℕ) → 4 ≤ j → j < 32 → get_or t (48 * i + 4 + j) 0 ≡ get_or s (32 * i + j) 0
  pub zeros : (j : ℕ) → 36 ≤ j → j < 48 → get_or t (48 * i + j) 0 ≡ 0

module _ {s t : List ℕ} {i : ℕ} (b : Beside s t i) where
  word : (o : ℕ) → 4 ≤ o → o < 31 → word_at t (48 * i + 4 + o) ≡ word_at s (32 * i + 0 + o)
  unfolding word_at
  word o low high =
      number_same 2 t s (48 * i + 4 + o) (32 * i + 0 + o) (λ j h.
      (λ u. get_or t (left j u) 0) ∙ b.rest (o + j) (omega arith) (omega arith) ∙ (λ u. get_or s (right j u) 0))
    where
      left : (j : ℕ) → 48 * i + 4 + o + j ≡ 48 * i + 4 + (o + j)
      left j = omega arith

      right : (j : ℕ) → 32 * i + (o + j) ≡ 32 * i + 0 + o + j
      right j = omega arith

  -- they are the same run
  pub same_run : run_at Long t i ≡ run_at Short s i
  unfolding run_at run_from fields_from signed_at
  same_run = λ u.
      record {
        pulses = b.pulses u;
        prover = record {
          temperature = signed_of (word 4 (omega arith) (omega arith) u);
          ctl = word 12 (omega arith) (omega arith) u;
          liquid = record { pressure = word 8 (omega arith) (omega arith) u; compressibility = word 16 (omega arith) (omega arith) u; equilibrium = word 20 (omega arith) (omega arith) u };
        };
        meter = record {
          temperature = signed_of (word 6 (omega arith) (omega arith) u);
          ctl = word 14 (omega arith) (omega arith) u;
          liquid = record { pressure = word 10 (omega arith) (omega arith) u; compressibility = word 18 (omega arith) (omega arith) u; equilibrium = word 22 (omega arith) (omega arith) u };
        };
      }

  -- tests that hold together
  alike : (x y : Bool) → (x ≡ true → y ≡ true) → (y ≡ true → x ≡ true) → x ≡ y
  alike true y there back = sym (there refl)
  alike false true there back = back refl
  alike false false there back = refl

  old_byte : (k : ℕ) → 32 * i + 24 ≤ k → k < 32 * i + 32 → (j : ℕ) × ((k ≡ 32 * i + j) × ((24 ≤ j) × (j < 32)))
  old_byte k low high = (k - 32 * i, (omega arith, (omega arith, omega arith)))

  -- and their unnamed bytes are zero together
  pub same_unnamed : unnamed_ok Long t i ≡ unnamed_ok Short s i
  unfolding unnamed_ok
  same_unnamed =
      alike (zero_between t (48 * i + 4 + 24) (48 * i + 48)) (zero_between s (32 * i + 0 + 24) (32 * i + 32))
      (λ long. zero_all s (32 * i + 0 + 24) (32 * i + 32) (λ k low high.
      let at = old_byte k (omega arith) high in
      ap (λ (n : ℕ). get_or s n 0) at.1.0 ∙ sym (b.rest at.0 (omega (arith, at.1.1.0)) at.1.1.1)
      ∙ zero_each t (48 * i + 4 + 24) (48 * i + 48) long (48 * i + 4 + at.0) (omega (arith, at.1.1.0)) (omega (arith, at.1.1.1))))
      (λ short. zero_all t (48 * i + 4 + 24) (48 * i + 48) (λ k low high.
      by_cases (dec_lt k (48 * i + 36))
      (λ old.
      let j : ℕ = k - (48 * i + 4) in
      let at : k ≡ 48 * i + 4 + j = omega arith in
      ap (λ (n : ℕ). get_or t n 0) at ∙ b.rest j (omega arith) (omega arith) ∙ zero_each s (32 * i + 0 + 24) (32 * i + 32) short (32 * i + j) (omega arith) (omega arith))
      (λ past.
      let j : ℕ = k - 48 * i in
      let at : k ≡ 48 * i + j = omega arith in
      ap (λ (n : ℕ). get_or t n 0) at ∙ b.zeros j (omega arith) (omega arith))))

  -- the 28 bytes that both hold
  pub same_part : 48 * i + 48 ≤ length t → 32 * i + 32 ≤ length s → take 28 (drop (48 * i + 8) t) ≡ take 28 (drop (32 * i + 4) s)
  same_part long short =
      let here : length (take 28 (drop (48 * i + 8) t)) ≡ 28 = part_length t (48 * i + 8) (omega arith) in
      ext_get_or 0 (take 28 (drop (48 * i + 8) t)) (take 28 (drop (32 * i + 4) s)) (here ∙ sym (part_length s (32 * i + 4) (omega arith))) (λ j h.
      let below : j < 28 = omega (arith, here) in
      let left : 48 * i + 8 + j ≡ 48 * i + 4 + (4 + j) = omega arith in
      let right : 32 * i + (4 + j) ≡ 32 * i + 4 + j = omega arith in
      get_or-take 28 (drop (48 * i + 8) t) j 0 below ∙ get_or-drop (48 * i + 8) t j 0 ∙ ap (λ (n : ℕ). get_or t n 0) left ∙ b.rest (4 + j) (omega arith) (omega arith)
      ∙ ap (λ (n : ℕ). get_or s n 0) right ∙ sym (get_or-take 28 (drop (32 * i + 4) s) j 0 below ∙ get_or-drop (32 * i + 4) s j 0))

-- a list as its parts of a size, one behind the other
pub joined_parts : (size : ℕ) (s : List ℕ) (n : ℕ) → joined (λ i. take size (drop (size * i) s)) n ≡ take (size * n) s
unfolding joined
joined_parts size s zero = sym (ap (λ (m : ℕ). take m s) (mul-zero size))
joined_parts size s (suc n) =
    ap (λ (l : List ℕ). l ++ take size (drop (size * n) s)) (joined_parts size s n) ∙ sym (take-add (size * n) size s) ∙ ap (λ (m : ℕ). take m s) (sym (mul-suc size n))

-- records that are the same one by one
pub joined_same : (f g : ℕ → List ℕ) (n : ℕ) → ((i : ℕ) → i < n → f i ≡ g i) → joined f n ≡ joined g n
unfolding joined
joined_same f g zero each = refl
joined_same f g (suc n) each = λ u. joined_same f g n (λ i h. each i (omega arith)) u ++ each n (omega arith) u

-- bytes of three lists, one behind the other
module _ (first next last : List ℕ) where
  pub in-next : (m : ℕ) → m < length next → get_or (first ++ next ++ last) (length first + m) 0 ≡ get_or next m 0
  in-next m h = get_or-append (first ++ next) last 0 (length first + m) (omega (arith, length-append first next)) ∙ get_or-append-add first next m 0

  pub in-last : (m : ℕ) → get_or (first ++ next ++ last) (length first + length next + m) 0 ≡ get_or last m 0
  in-last m = ap (λ (k : ℕ). get_or (first ++ next ++ last) (k + m) 0) (sym (length-append first next)) ∙ get_or-append-add (first ++ next) last m 0

-- the number that a record's first bytes spell, in its place among others
spelled : (n size x : ℕ) (record_at : ℕ → List ℕ) (rest : ℕ → List ℕ) (count i : ℕ) → i < count → n ≤ size → x < 256 ^ n → ((j : ℕ) → j < count → length (record_at j) ≡ size)
    → record_at i ≡ bytes_of n x ++ rest i → number_at n (joined record_at count) (size * i) ≡ x
spelled n size x record_at rest count i h fits small each is =
    number_same n (joined record_at count) (record_at i) (size * i) 0 (λ j l. joined_byte size record_at count each i j h (omega arith) ∙ ap (λ (k : ℕ). get_or (record_at i) k 0) (sym (zero-add j)))
    ∙ ap (λ (l : List ℕ). number_at n l 0) is ∙ read_written [] (rest i) n x small

-- short records moved forward
module _ (s : List ℕ) (n : ℕ) (lent : length s ≡ 32 * n) (small : (i : ℕ) → i < n → long_at s (32 * i) ≤ 100000000) where
  whole : (i : ℕ) → i < n → 32 * i + 32 ≤ length s
  whole i h = omega (arith, lent)

  sized : (i : ℕ) → i < n → length (lengthened s i) ≡ 48
  sized i h = lengthened_size s i (whole i h)

  pub forward_beside : (i : ℕ) → i < n → Beside s (moved_bytes Short s n) i
  unfolding lengthened quad_at
  forward_beside i h =
      let x : ℕ = long_at s (32 * i) * 1000 in
      let count : List ℕ = bytes_of 8 x in
      let part : List ℕ = take 28 (drop (32 * i + 4) s) in
      let zeros : List ℕ = replicate 12 0 in
      let eight : length count ≡ 8 = length_bytes 8 x in
      let more : length part ≡ 28 = part_length s (32 * i + 4) (omega (arith, whole i h)) in
      record {
        pulses = spelled 8 48 x (lengthened s) (λ j. take 28 (drop (32 * j + 4) s) ++ replicate 12 0) n i h (omega arith) (omega (arith, small i h)) sized (append_assoc count part zeros);
        rest = λ j low high.
            let at : 48 * i + 4 + j ≡ 48 * i + (8 + (j - 4)) = omega arith in
            let back : 32 * i + 4 + (j - 4) ≡ 32 * i + j = omega arith in
            ap (λ (k : ℕ). get_or (moved_bytes Short s n) k 0) at ∙ joined_byte 48 (lengthened s) n sized i (8 + (j - 4)) h (omega arith)
            ∙ ap (λ (k : ℕ). get_or (count ++ part ++ zeros) (k + (j - 4)) 0) (sym eight) ∙ in-next count part zeros (j - 4) (omega (arith, more))
            ∙ get_or-take 28 (drop (32 * i + 4) s) (j - 4) 0 (omega arith) ∙ get_or-drop (32 * i + 4) s (j - 4) 0 ∙ ap (λ (k : ℕ). get_or s k 0) back;
        zeros = λ j low high.
            let at : 36 + (j - 36) ≡ j = omega arith in
            joined_byte 48 (lengthened s) n sized i j h high ∙ ap (λ (k : ℕ). get_or (count ++ part ++ zeros) k 0) (sym at)
            ∙ (λ u. get_or (count ++ part ++ zeros) (sym eight u + sym more u + (j - 36)) 0) ∙ in-last count part zeros (j - 36) ∙ get_or-replicate 12 (j - 36) 0 0 (omega arith);
      }

-- long records moved back, whose counts are whole and in range, and whose last bytes are zero
module _ (t : List ℕ) (n : ℕ) (lent : length t ≡ 48 * n) (small : (i : ℕ) → i < n → quad_at t (48 * i) ≤ 100000000000) (even : (i : ℕ) → i < n → quad_at t (48 * i) % 1000 ≡ 0)
    (unnamed : (i : ℕ) → i < n → unnamed_ok Long t i ≡ true) where
  long_whole : (i : ℕ) → i < n → 48 * i + 48 ≤ length t
  long_whole i h = omega (arith, lent)

  long_sized : (i : ℕ) → i < n → length (shortened t i) ≡ 32
  long_sized i h = shortened_size t i (long_whole i h)

  pub back_beside : (i : ℕ) → i < n → Beside (moved_bytes Long t n) t i
  unfolding shortened long_at unnamed_ok
  back_beside i h =
      let x : ℕ = quad_at t (48 * i) / 1000 in
      let count : List ℕ = bytes_of 4 x in
      let part : List ℕ = take 28 (drop (48 * i + 8) t) in
      let four : length count ≡ 4 = length_bytes 4 x in
      let read : number_at 4 (moved_bytes Long t n) (32 * i) ≡ x = spelled 4 32 x (shortened t) (λ j. take 28 (drop (48 * j + 8) t)) n i h (omega arith) (omega (arith, small i h)) long_sized refl in
      record {
        pulses = omega (arith, read, even i h);
        rest = λ j low high.
            let at : 48 * i + 4 + j ≡ 48 * i + 8 + (j - 4) = omega arith in
            let back : 4 + (j - 4) ≡ j = omega arith in
            ap (λ (k : ℕ). get_or t k 0) at
            ∙ sym (joined_byte 32 (shortened t) n long_sized i j h high ∙ ap (λ (k : ℕ). get_or (count ++ part) k 0) (sym back) ∙ ap (λ (k : ℕ). get_or (count ++ part) (k + (j - 4)) 0) (sym four)
            ∙ get_or-append-add count part (j - 4) 0 ∙ get_or-take 28 (drop (48 * i + 8) t) (j - 4) 0 (omega arith) ∙ get_or-drop (48 * i + 8) t (j - 4) 0);
        zeros = λ j low high. zero_each t (48 * i + 4 + 24) (48 * i + 48) (unnamed i h) (48 * i + j) (omega arith) (omega arith);
      }
