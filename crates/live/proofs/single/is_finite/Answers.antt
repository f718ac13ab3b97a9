-- `live::single::is_finite` meets its contract: a NaN is not, and any other single by its field.
use mathlib.Core.Path.{sym, ap, ◌∙◌, subst}
use mathlib.Core.Bool.{not}
use lib.Dec.{T}
use lib.Ieee.{binary32, to_bits}
use lib.Ieee.Bits.{of_bits-to_bits}
use lib.Ieee.Scale.{finite}
use Rattle.live.proofs.Fields.{finite_by_field}
use Rattle.live.proofs.Laws.{nan_not_finite}
use Rattle.live.proofs.single.is_finite.Goals as goal

pub returns-then-not-is_nan : goal.returns-then-not-is_nan
returns-then-not-is_nan c = let x = c.args.x in
    finite_by_field (to_bits binary32 x) ∙ ap finite (of_bits-to_bits binary32 x (subst T (sym c.well_formed.0.1) tt))

pub returns-else-not-is_nan : goal.returns-else-not-is_nan
returns-else-not-is_nan c = let nan = c.if-not-is_nan.false in ap not nan ∙ sym (nan_not_finite c.args.x (sym c.is_nan.ensures.value ∙ nan))
