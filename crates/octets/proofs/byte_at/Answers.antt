-- `octets::byte_at` meets its contract: past the end a list reads as 0.
use Rattle.std.specs.Prelude.{Option}
use mathlib.Core.Path.{◌∙◌, ap}
use Prim.Native.Nat.{ℕ}
use native.Mathlib.Omega.{arith}
use Rattle.std.specs.Option.{unwrap_or}
use Rattle.octets.specs.Octets.{byte_at}
use Rattle.octets.proofs.byte_at.Goals as goal

pub returns : goal.returns
unfolding byte_at
returns c = c.unwrap_or.ensures ∙ ap (λ (read : Option ℕ). unwrap_or read 0) c.copied.ensures ∙ c.get.ensures.lookup.4 (omega arith) 0
