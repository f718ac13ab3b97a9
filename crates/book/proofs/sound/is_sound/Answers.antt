-- `book::sound::is_sound` meets its contract: a book that a machine holds has its four lines; then the figures, each line, the commons, the
-- last served.
use mathlib.Core.Path.{◌≡◌, refl, sym, ◌∙◌}
use mathlib.Core.Bool.{true, false}
use Prim.Native.Nat.{ℕ, ◌-◌}
use Rattle.std.proofs.Common.{rules, arith}
use Rattle.std.proofs.lemmas.Grind.{common_steps}
use lib.Dec.{leb}
use lib.ListN.{length}
use Rattle.book.specs.Figures.{over_shippers, places, reserve, reserve_in, commons, commons_used}
use Rattle.book.specs.declared.Book.{Book}
use Rattle.book.proofs.Books.{book_judged}
use Rattle.book.proofs.sound.is_sound.Goals.{then-keep_rules, else-keep_rules, then-are_lines_sound, else-are_lines_sound}
use Rattle.book.proofs.sound.is_sound.Goals as goal

-- the commons used beside the commons, as they were counted
shared : (book : Book) (used all : ℕ) → used ≡ commons_used book → all ≡ 16 - over_shippers (reserve_in book.figures) → leb (commons_used book) (commons book) ≡ leb used all
unfolding commons places over_shippers reserve
shared book used all first second = λ i. leb (sym first i) (sym second i)

pub returns-then-count_commons_used-count_commons : goal.returns-then-count_commons_used-count_commons
returns-then-count_commons_used-count_commons c =
    let four : length c.args.book.lines ≡ 4 = search rules in
    elim c.if-are_lines_sound.branch [
      | then-are_lines_sound v ↦ elim c.if-keep_rules.branch [
        | then-keep_rules w ↦
            sym (book_judged c.args.book true true true _ four (sym c.keep_rules.ensures ∙ w.if-keep_rules.true) (sym w.are_lines_sound.ensures ∙ sym w.value-is ∙ v.if-are_lines_sound.true)
            (shared c.args.book _ _ v.count_commons_used.ensures v.count_commons.ensures ∙ sym v.value-is ∙ c.if-count_commons_used-count_commons.true) refl)
        | else-keep_rules w ↦ grind (arith, common_steps)
      ]
      | else-are_lines_sound v ↦ grind (arith, common_steps)
    ]

pub returns-else-count_commons_used-count_commons : goal.returns-else-count_commons_used-count_commons
returns-else-count_commons_used-count_commons c =
    let four : length c.args.book.lines ≡ 4 = search rules in
    elim c.if-are_lines_sound.branch [
      | then-are_lines_sound v ↦ elim c.if-keep_rules.branch [
        | then-keep_rules w ↦
            c.if-count_commons_used-count_commons.false
            ∙ sym (book_judged c.args.book true true false _ four (sym c.keep_rules.ensures ∙ w.if-keep_rules.true) (sym w.are_lines_sound.ensures ∙ sym w.value-is ∙ v.if-are_lines_sound.true)
            (shared c.args.book _ _ v.count_commons_used.ensures v.count_commons.ensures ∙ sym v.value-is ∙ c.if-count_commons_used-count_commons.false) refl)
        | else-keep_rules w ↦ grind (arith, common_steps)
      ]
      | else-are_lines_sound v ↦ elim c.if-keep_rules.branch [
        | then-keep_rules w ↦
            c.if-count_commons_used-count_commons.false
            ∙ sym (book_judged c.args.book true false _ _ four (sym c.keep_rules.ensures ∙ w.if-keep_rules.true) (sym w.are_lines_sound.ensures ∙ sym w.value-is ∙ v.if-are_lines_sound.false) refl refl)
        | else-keep_rules w ↦
            c.if-count_commons_used-count_commons.false ∙ sym (book_judged c.args.book false _ _ _ four (sym c.keep_rules.ensures ∙ w.if-keep_rules.false) refl refl refl)
      ]
    ]
