-- `numerals::write_signed` meets its contract: by the side of zero.
use Rattle.std.proofs.Common.{rules, ◌≡◌, [], ◌∷◌, ◌∙◌}
use Rattle.octets.specs.Octets.{written_at}
use Rattle.words.specs.Written.{place_after}
use Rattle.numerals.specs.Numbers.{printed}
use Rattle.numerals.specs.Printed.{place_after_signed, written_signed}
use Rattle.numerals.proofs.write_signed.Goals as goal

pub returns-then-n-ge0 : goal.returns-then-n-ge0
unfolding place_after_signed written_signed
returns-then-n-ge0 c =
    let to = c.args.out.now in
    let at = c.args.at in
    let digits = printed c.unsigned_abs-size.result in
    let place : place_after to at digits ≡ place_after_signed to at c.args.n = search rules in
    let left : written_at to at digits ≡ written_signed to at c.args.n = search rules in
    record { place = c.write_number.ensures.place ∙ place; left = c.write_number.ensures.left ∙ left }

pub returns : goal.returns
unfolding place_after_signed written_signed
returns c =
    let to = c.args.out.now in
    let at = c.args.at in
    let digits = printed c.unsigned_abs-size.result in
    let place : place_after (written_at to at (45 ∷ [])) (place_after to at (45 ∷ [])) digits ≡ place_after_signed to at c.args.n = search rules in
    let left : written_at (written_at to at (45 ∷ [])) (place_after to at (45 ∷ [])) digits ≡ written_signed to at c.args.n = search rules in
    record { place = rw (c.write_number-2.ensures.place, c.write_text-next.ensures.place, c.write_text-next.ensures.left) place; left = rw (c.write_number-2.ensures.left, c.write_text-next.ensures.place, c.write_text-next.ensures.left) left }
