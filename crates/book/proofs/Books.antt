-- What soundness tells of a book: its shape, its figures, each shipper's line, the commons, the last served; and that this is all of it.
use mathlib.Core.Path.{◌≡◌, sym, ap, ◌∙◌}
use mathlib.Core.Bool.{Bool, true, ◌&&◌}
use Prim.Native.Nat.{ℕ, zero, suc, ◌-◌, ◌≤◌, ◌<◌}
use native.Mathlib.Omega.{arith}
use borrow.Author.Tests.{leb-true, le-leb, ltb-true, lt-ltb, eqb-true, eq-eqb}
use lib.Dec.{leb, ltb, eqb}
use lib.ListN.{length, get_or}
use lib.Seq.{get_or-take}
use Rattle.octets.specs.Octets.{zero_between}
use Rattle.octets.proofs.FirstToLast.{tests, empty, nowhere}
use Rattle.book.specs.Line.{waiting, are_proper}
use Rattle.book.specs.Figures.{shippers, over_shippers, places, reserve, ceiling, commons, line_at, waiting_of, has, held, beyond, commons_used}
use Rattle.book.specs.Rules.{keep_rules}
use Rattle.book.specs.Sound.{is_line_sound, is_sound_at, are_lines_sound, is_sound}
use Rattle.book.specs.declared.Book.{Book}
use Rattle.book.specs.declared.Line.{Line}
use Rattle.book.proofs.Agreed.{agreed_is}
use Rattle.book.proofs.Bools.{both_first, both_second, both_true}
use Rattle.book.proofs.Lines.{waiting_count}

pub record SoundLine (top : ℕ) (line : Line) : Type 0 where
  pub wide : length line.numbers ≡ 16
  pub few : line.count ≤ top
  pub narrow : top ≤ 16
  pub proper : are_proper (waiting line) ≡ true
  pub unused : zero_between line.numbers line.count 16 ≡ true

line-is : (top : ℕ) (line : Line) → top ≤ 16 → is_line_sound top line ≡ true → SoundLine top line
unfolding is_line_sound
line-is top line narrow sound =
    let counted = both_second (eqb (length line.numbers) 16) _ sound in
    let filled = both_second (leb line.count top) _ counted in
    record {
      wide = eqb-true _ _ (both_first (eqb (length line.numbers) 16) _ sound);
      few = leb-true _ _ (both_first (leb line.count top) _ counted);
      narrow = narrow;
      proper = both_first (are_proper (waiting line)) _ filled;
      unused = both_second (are_proper (waiting line)) _ filled;
    }

line_sound : (top : ℕ) (line : Line) → SoundLine top line → is_line_sound top line ≡ true
unfolding is_line_sound
line_sound top line is = both_true (eq-eqb _ _ is.wide) (both_true (le-leb _ _ is.few) (both_true is.proper is.unused))

-- a line by its tests, and a book by its own
pub line_judged : (top : ℕ) (line : Line) (few proper unused : Bool) → length line.numbers ≡ 16 → leb line.count top ≡ few → are_proper (waiting line) ≡ proper
    → zero_between line.numbers line.count 16 ≡ unused → is_line_sound top line ≡ (few && (proper && unused))
unfolding is_line_sound
line_judged top line few proper unused wide first second third = λ i. eq-eqb _ _ wide i && (first i && (second i && third i))

pub book_judged : (book : Book) (ruled lined used turn : Bool) → length book.lines ≡ 4 → keep_rules book.figures ≡ ruled → are_lines_sound book ≡ lined
    → leb (commons_used book) (commons book) ≡ used → ltb book.last 4 ≡ turn → is_sound book ≡ (ruled && (lined && (used && turn)))
unfolding is_sound shippers
book_judged book ruled lined used turn four first second third fourth = λ i. eq-eqb _ _ four i && (first i && (second i && (third i && fourth i)))

-- the line of each shipper
abbrev pub SoundLines : Book → Type 0
SoundLines book = (s : ℕ) → s < 4 → SoundLine (ceiling book s) (line_at book s)

pub lines_are : (book : Book) → keep_rules book.figures ≡ true → are_lines_sound book ≡ true → SoundLines book
unfolding are_lines_sound is_sound_at shippers ceiling
lines_are book rules sound s known = line-is _ _ ((agreed_is book.figures rules).each s known).narrow (empty tests (is_sound_at book) 4 0 sound s (omega arith) (omega arith))

pub lines_sound : (book : Book) → SoundLines book → are_lines_sound book ≡ true
unfolding are_lines_sound is_sound_at shippers
lines_sound book each = nowhere tests (is_sound_at book) 4 0 (λ s l h. line_sound _ _ (each s (omega arith)))

pub record SoundBook (book : Book) : Type 0 where
  pub four : length book.lines ≡ 4
  pub rules : keep_rules book.figures ≡ true
  pub lines : SoundLines book
  pub used : commons_used book ≤ commons book
  pub turn : book.last < 4

pub sound_is : (book : Book) → is_sound book ≡ true → SoundBook book
unfolding is_sound shippers
sound_is book sound =
    let shaped = both_second (eqb (length book.lines) 4) _ sound in
    let ruled = both_first (keep_rules book.figures) _ shaped in
    let kept = both_second (keep_rules book.figures) _ shaped in
    let lined = both_second (are_lines_sound book) _ kept in
    record {
      four = eqb-true _ _ (both_first (eqb (length book.lines) 4) _ sound);
      rules = ruled;
      lines = lines_are book ruled (both_first (are_lines_sound book) _ kept);
      used = leb-true _ _ (both_first (leb (commons_used book) (commons book)) _ lined);
      turn = ltb-true _ _ (both_second (leb (commons_used book) (commons book)) _ lined);
    }

pub is-sound : (book : Book) → SoundBook book → is_sound book ≡ true
unfolding is_sound shippers
is-sound book is =
    both_true (eq-eqb _ _ is.four) (both_true is.rules (both_true (lines_sound book is.lines) (both_true (le-leb _ _ is.used) (lt-ltb _ _ is.turn))))

module _ (book : Book) (s : ℕ) (line : SoundLine (ceiling book s) (line_at book s)) where
  -- a shipper's count is what it has waiting
  pub few_at : (line_at book s).count ≤ 16
  few_at = let few = line.few in let narrow = line.narrow in omega arith

  pub has_count : has book s ≡ (line_at book s).count
  unfolding has waiting_of
  has_count = let few = few_at in waiting_count (line_at book s) (omega arith) line.wide

  pub beyond_count : {r : ℕ} → r ≡ (line_at book s).count - reserve book s → r ≡ beyond book s
  unfolding beyond
  beyond_count is = is ∙ ap (λ (n : ℕ). n - reserve book s) (sym has_count)

-- the oldest stands first in the line
pub oldest_first : (book : Book) (s : ℕ) → 0 < (line_at book s).count → get_or (waiting_of book s) 0 0 ≡ get_or (line_at book s).numbers 0 0
unfolding waiting_of waiting
oldest_first book s some = get_or-take (line_at book s).count (line_at book s).numbers 0 0 some

-- 'places 16': a sound book never holds more
pub holds_its_places : (book : Book) → SoundBook book → held book ≤ places book
unfolding held places commons_used over_shippers beyond commons reserve
holds_its_places book is = let used = is.used in let sum = (agreed_is book.figures is.rules).sum in omega arith

-- and nobody more than 13, whatever its ceiling: each of the others has a place of its own
own_places : (book : Book) → SoundBook book
    → (over_shippers (reserve book) ≤ 16) × (1 ≤ reserve book 0) × (1 ≤ reserve book 1) × (1 ≤ reserve book 2) × (1 ≤ reserve book 3)
unfolding reserve over_shippers
own_places book is =
    let rules = agreed_is book.figures is.rules in
    let each = rules.each in
    (rules.sum, (each 0 (omega arith)).some, (each 1 (omega arith)).some, (each 2 (omega arith)).some, (each 3 (omega arith)).some)

pub holds_at_most_13 : (book : Book) → SoundBook book → (s : ℕ) → s < 4 → has book s ≤ 13
unfolding commons_used over_shippers beyond commons places
holds_at_most_13 book is zero known = let used = is.used in let own = own_places book is in omega arith
holds_at_most_13 book is (suc zero) known = let used = is.used in let own = own_places book is in omega arith
holds_at_most_13 book is (suc (suc zero)) known = let used = is.used in let own = own_places book is in omega arith
holds_at_most_13 book is (suc (suc (suc zero))) known = let used = is.used in let own = own_places book is in omega arith
holds_at_most_13 book is (suc (suc (suc (suc s)))) known = absurd (omega arith)
