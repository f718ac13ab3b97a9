-- `octets::write_at` meets its contract: the bytes take the place of as many, if there are as many.
use mathlib.Core.Path.{◌≡◌, refl, sym, ◌∙◌, ap}
use mathlib.Core.List.{List, ◌++◌}
use Prim.Native.Nat.{ℕ, ◌+◌, ◌≤◌, ◌<◌}
use native.Mathlib.Omega.{arith}
use lib.ListN.{length, take, drop}
use lib.Seq.{paste, take-length}
use Rattle.std.proofs.lemmas.Slice.{put_mid-paste}
use Rattle.octets.specs.Octets.{written_at}
use Rattle.octets.proofs.Laws.{written_fits, written_not}
use Rattle.octets.proofs.write_at.Goals.{else-at-to-via-then-at-to+else-bytes-to, else-at-to-via-else-at-to}
use Rattle.octets.proofs.write_at.Goals as goal

all-of-it : (to bytes to' : List ℕ) (at i : ℕ) → at + length bytes ≤ length to → i ≡ length bytes → to' ≡ paste to at bytes i → to' ≡ written_at to at bytes
all-of-it to bytes to' at i room h is =
    is ∙ ap (λ (k : ℕ). paste to at bytes k) h ∙ ap (λ (l : List ℕ). take at to ++ l ++ drop (at + length bytes) to) (take-length bytes) ∙ sym (written_fits to at bytes room)

pub returns-then-bytes-to : goal.returns-then-bytes-to
returns-then-bytes-to c = let to : List ℕ = c.args.to.now in
    let at : ℕ = c.args.at in
    let bytes : List ℕ = c.args.bytes.now in
    all-of-it to bytes _ at (length bytes) (omega arith) refl (put_mid-paste at _ to _ bytes (length bytes) c.copy_from_slice.ensures.after (omega arith) refl)

pub returns-else-at-to : goal.returns-else-at-to
returns-else-at-to c = let a = c.args in
    let over : length a.to.now < a.at + length a.bytes.now = elim c.else-at-to.branch [ else-at-to-via-then-at-to+else-bytes-to w ↦ omega arith | else-at-to-via-else-at-to w ↦ omega arith ] in
    sym (written_not a.to.now a.at a.bytes.now over)
