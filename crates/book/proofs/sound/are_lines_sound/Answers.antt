-- `book::sound::are_lines_sound` meets its contract: a line and a ceiling for each of the four shippers.
use mathlib.Core.Path.{◌≡◌, ◌∙◌}
use Rattle.std.proofs.Common.{rules, tests, ℕ, []}
use Rattle.std.proofs.lemmas.Iterator.{YieldsList-from_slice, YieldsList-from_zip}
use Rattle.std.proofs.lemmas.Iterator.Search.{all_from_yields_List}
use lib.ListN.{length}
use Rattle.book.specs.Sound.{is_line_sound, is_sound_at, are_lines_sound}
use Rattle.book.specs.Figures.{shippers, ceiling, ceiling_in, line_at}
use Rattle.book.specs.declared.Line.{Line}
use Rattle.book.proofs.Four.{all_pairs}
use Rattle.book.proofs.sound.are_lines_sound.Goals as goal

pub returns : goal.returns
unfolding are_lines_sound is_sound_at shippers ceiling ceiling_in line_at
returns c =
    let book = c.args.book in
    let few : length book.lines ≡ 4 = search rules in
    let many : length book.figures.ceilings ≡ 4 = search rules in
    all_from_yields_List (λ (p : Line × ℕ). is_line_sound p.1 p.0) c.all.new.self _ c.all.result c.all.ensures.ran
    (YieldsList-from_zip (YieldsList-from_slice book.lines (search rules)) (YieldsList-from_slice book.figures.ceilings (search rules))) (λ x b q k. search (rules, tests))
    ∙ all_pairs _ _ few many (record { numbers = []; count = 0 }) (λ (line : Line) (top : ℕ). is_line_sound top line)
