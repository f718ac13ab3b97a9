-- `book::remove` meets its contract: the number's place is given up.
use Rattle.std.specs.Prelude.{Some}
use mathlib.Core.Path.{◌≡◌, ap, ◌∙◌}
use Prim.Native.Nat.{ℕ}
use native.Mathlib.Omega.{arith}
use Rattle.std.proofs.Common.{rules}
use lib.ListN.{set}
use Rattle.book.specs.Calls.{removed}
use Rattle.book.specs.Line.{waiting, line_of}
use Rattle.book.specs.Figures.{ceiling, has, line_at, waiting_of, put}
use Rattle.book.specs.declared.Line.{Line}
use Rattle.book.proofs.Books.{SoundLine, sound_is, few_at, has_count}
use Rattle.book.proofs.Lists.{given_up}
use Rattle.book.proofs.Waiting.{place_of, place_found, place_is, place_gives_up}
use Rattle.book.proofs.remove.Goals.{After-unwrap-place, Start}
use Rattle.book.proofs.remove.Goals as goal

line : (c : Start) → SoundLine (ceiling c.args.book c.args.shipper) (line_at c.args.book c.args.shipper)
line c = (sound_is c.args.book c.requires.0).lines c.args.shipper c.requires.1

-- the number waits, so that it has a place
pub unwrap-place-requires : goal.unwrap-place-requires
unfolding waiting_of line_at
unwrap-place-requires c = let is = c.place.ensures ∙ place_is _ _ c.requires.2 in search rules

here : (c : After-unwrap-place) → c.unwrap-place.result ≡ place_of c.args.number (waiting_of c.args.book c.args.shipper)
unfolding waiting_of line_at
here c = let is : c.place.result ≡ Some (place_of c.args.number (waiting (line_at c.args.book c.args.shipper))) = c.place.ensures ∙ place_is _ _ c.requires.2 in search rules

pub shorten-requires : goal.shorten-requires
unfolding has line_at waiting_of
shorten-requires c =
    let l = line (goal.at.shorten-requires c).Start in
    let few = few_at _ _ l in
    let many = has_count _ _ l in
    let found = place_found c.args.number (waiting_of c.args.book c.args.shipper) c.requires.2 in
    let is = here (goal.at.shorten-requires c).After-unwrap-place in
    (omega arith, omega arith, l.unused)

pub returns : goal.returns
unfolding removed put waiting_of line_at given_up
returns c =
    let gone = place_gives_up c.args.number (waiting_of c.args.book c.args.shipper) c.requires.2 in
    let is = here (goal.at.returns c).After-unwrap-place in
    ap (λ (line : Line). record { lines = set c.args.book.lines c.args.shipper line; last = c.args.last; figures = c.args.book.figures })
    (c.shorten.ensures ∙ ap (λ (p : ℕ). line_of (given_up p (waiting_of c.args.book c.args.shipper))) is ∙ ap line_of gone)
