-- 'A sound, empty book': there is one for each shipper that may have been served last and any figures that keep the rules, and no other.
use mathlib.Core.Path.{◌≡◌, refl, sym, ap, ◌∙◌}
use mathlib.Core.Bool.{true}
use mathlib.Core.List.{List, [], ◌∷◌}
use mathlib.Core.Logic.{by_cases}
use Prim.Native.Nat.{ℕ, zero, suc, ◌≤◌, ◌<◌}
use native.Mathlib.Decide.{dec_lt}
use native.Mathlib.Omega.{arith}
use borrow.Author.Tests.{lt-ltb}
use lib.ListN.{length, replicate, length-replicate, get_or-replicate, get_or-eq_default}
use lib.Seq.{ext_get_or}
use Rattle.octets.specs.FirstToLast.{first_to_last}
use Rattle.octets.specs.Octets.{is_zero_at, zero_between}
use Rattle.book.specs.Line.{waiting, line_of, are_proper}
use Rattle.book.specs.Figures.{shippers, over_shippers, reserve_in, ceiling_in, places, reserve, ceiling, commons, line_at, waiting_of, has, held, beyond, commons_used, default_figures, empty_book}
use Rattle.book.specs.Rules.{is_share, is_share_at, are_shares, keep_rules}
use Rattle.book.specs.Sound.{is_line_sound, is_sound_at, are_lines_sound, is_sound}
use Rattle.book.specs.Calls.{agreed}
use Rattle.book.specs.Demand3.{SoundEmpty}
use Rattle.book.specs.declared.Book.{Book}
use Rattle.book.specs.declared.Figures.{Figures}
use Rattle.book.proofs.Agreed.{agreed_is}
use Rattle.book.proofs.Books.{SoundLine, SoundBook, sound_is, is-sound, few_at, has_count}
use Rattle.book.proofs.Lines.{line_back}

-- 2 and 8 for all keep the rules
pub default_keep_rules : keep_rules default_figures ≡ true
unfolding keep_rules are_shares is_share_at is_share first_to_last shippers over_shippers reserve_in ceiling_in default_figures
default_keep_rules = refl

-- with the figures of a new book, whoever was served last: its lines are sound, and nothing waits in them
new_from : (last : ℕ) → last < 4 → SoundEmpty (record { lines = empty_book.lines; last = last; figures = default_figures })
unfolding empty_book default_figures shippers over_shippers places reserve_in ceiling_in keep_rules are_shares is_share_at is_share line_of is_sound are_lines_sound is_sound_at is_line_sound are_proper zero_between is_zero_at first_to_last commons_used beyond held has waiting_of line_at waiting reserve ceiling commons
new_from last known = record { sound = lt-ltb last 4 known; empty = refl }

none_long : (xs : List ℕ) → length xs ≡ 0 → xs ≡ []
none_long [] h = refl
none_long (x ∷ xs) h = absurd (omega arith)

-- a sum over the shippers is nothing only where each has nothing
none_each : (of : ℕ → ℕ) → over_shippers of ≡ 0 → (s : ℕ) → s < 4 → of s ≡ 0
unfolding over_shippers
none_each of none zero h = omega arith
none_each of none (suc zero) h = omega arith
none_each of none (suc (suc zero)) h = omega arith
none_each of none (suc (suc (suc zero))) h = omega arith
none_each of none (suc (suc (suc (suc s)))) h = absurd (omega arith)

module _ (book : Book) (sound : SoundBook book) (empty : held book ≡ 0) where
  of_a_shipper : (s : ℕ) → s < 4 → waiting_of book s ≡ []
  unfolding held has
  of_a_shipper s known = none_long (waiting_of book s) (none_each (has book) empty s known)

  of_nobody : (s : ℕ) → 4 ≤ s → waiting_of book s ≡ []
  unfolding waiting_of line_at waiting
  of_nobody s past = let many = sound.four in ap waiting (get_or-eq_default book.lines (record { numbers = []; count = 0 }) (omega arith))

  -- nothing waits for a shipper, and no other has a line
  pub nothing_waits : (s : ℕ) → waiting_of book s ≡ []
  nothing_waits s = by_cases (dec_lt s 4) (of_a_shipper s) (λ unknown. of_nobody s (omega arith))

  -- so its lines are those of a new book, and its last served is a shipper
  line_empty : (s : ℕ) → s < 4 → line_at book s ≡ line_of []
  unfolding waiting_of
  line_empty s known =
      let line = sound.lines s known in
      let few = few_at book s line in
      line_back (line_at book s) (omega arith) line.wide line.unused ∙ ap line_of (of_a_shipper s known)

  pub no_other_empty : (book.lines ≡ empty_book.lines) × (book.last < 4) × (keep_rules book.figures ≡ true)
  unfolding empty_book shippers line_at
  no_other_empty =
      let many = sound.four in (
        ext_get_or (record { numbers = []; count = 0 }) book.lines (replicate 4 (line_of [])) (many ∙ sym (length-replicate 4 (line_of [])))
            (λ s h. line_empty s (omega arith) ∙ sym (get_or-replicate 4 s (line_of []) (record { numbers = []; count = 0 }) (omega arith))),
        sound.turn,
        sound.rules,
      )

  -- whatever figures are agreed: no shared place is used, and it stays sound
  none_used : (figures : Figures) → commons_used (agreed book figures) ≡ 0
  unfolding commons_used beyond over_shippers held has waiting_of line_at agreed
  none_used figures =
      let zeroth = none_each (has book) empty 0 (omega arith) in
      let first = none_each (has book) empty 1 (omega arith) in
      let second = none_each (has book) empty 2 (omega arith) in
      let third = none_each (has book) empty 3 (omega arith) in
      omega arith

  pub sound_agreed : (figures : Figures) → keep_rules figures ≡ true → SoundBook (agreed book figures)
  unfolding agreed line_at ceiling held
  sound_agreed figures rules =
      record {
        four = sound.four;
        rules = rules;
        lines = λ s known. line s known (sound.lines s known);
        used = let none = none_used figures in omega arith;
        turn = sound.turn;
      }
    where
      line : (s : ℕ) → s < 4 → SoundLine (ceiling book s) (line_at book s) → SoundLine (ceiling_in figures s) (line_at book s)
      line s known is =
          let nothing : has book s ≡ 0 = none_each (has book) empty s known in
          let many = has_count book s is in
          record { wide = is.wide; few = omega arith; narrow = ((agreed_is figures rules).each s known).narrow; proper = is.proper; unused = is.unused }

-- whoever was served last and whatever is agreed
pub empty_from : (last : ℕ) (figures : Figures) → last < 4 → keep_rules figures ≡ true → SoundEmpty (record { lines = empty_book.lines; last = last; figures = figures })
unfolding agreed held has waiting_of line_at
empty_from last figures known rules =
    let new = new_from last known in
    record { sound = is-sound _ (sound_agreed (record { lines = empty_book.lines; last = last; figures = default_figures }) (sound_is _ new.sound) new.empty figures rules); empty = new.empty }
