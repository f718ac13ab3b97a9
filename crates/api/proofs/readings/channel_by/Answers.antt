-- `api::readings::channel_by` meets its contract: each of the four kinds by its number, and any other as one that has no place there.
use mathlib.Core.Path.{sym, ap, ◌∙◌}
use Prim.Native.Nat.{ℕ}
use borrow.Author.Tests.{ne_eqb}
use Rattle.live.specs.declared.channels.Channel.{Channel}
use Rattle.live.specs.declared.channels.Channel.TheVariants.{Fahrenheit, Celsius, Pressure}
use Rattle.api.specs.Given.{channel_by}
use Rattle.api.proofs.readings.channel_by.Goals.{Start}
use Rattle.api.proofs.readings.channel_by.Goals as goal

-- the channel that a kind's number stands for
abbrev by_kind : Start → ℕ → Channel
by_kind s kind = channel_by s.args.misplaced (record { kind = kind; bits = s.args.given.bits })

pub returns-in-0 : goal.returns-in-0
unfolding channel_by
returns-in-0 c = ap Fahrenheit c.from_bits.ensures ∙ sym (ap (by_kind (goal.at.returns-in-0 c).Start) c.in-0.is)

pub returns-in-1 : goal.returns-in-1
unfolding channel_by
returns-in-1 c = ap Celsius c.from_bits-in-1.ensures ∙ sym (ap (by_kind (goal.at.returns-in-1 c).Start) c.in-1.is)

pub returns-in-2 : goal.returns-in-2
unfolding channel_by
returns-in-2 c = ap Pressure c.from_bits-in-2.ensures ∙ sym (ap (by_kind (goal.at.returns-in-2 c).Start) c.in-2.is)

pub returns-in-3 : goal.returns-in-3
unfolding channel_by
returns-in-3 c = sym (ap (by_kind (goal.at.returns-in-3 c).Start) c.in-3.is)

pub returns-in_default : goal.returns-in_default
unfolding channel_by
returns-in_default c = let others = c.in_default.in_default-own.rest in
    sym (simp (ne_eqb _ _ others.0.0.0.1, ne_eqb _ _ others.0.0.1, ne_eqb _ _ others.0.1, ne_eqb _ _ others.1))
