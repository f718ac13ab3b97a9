-- `live::channels::from_bits` meets its contract: above those of an infinity the bits are a NaN's, and any other's are a number's.
use mathlib.Core.Path.{◌≡◌, refl, sym, ◌∙◌, subst⁻¹}
use mathlib.Core.Bool.{Bool, true, not, true≢false}
use borrow.Author.Tests.{lt-ltb, le-ltb}
use lib.Dec.{T}
use lib.Ieee.{Float, nan, inf, fin, binary32, is_nan, of_bits}
use lib.Ieee.Bits.{nan_bits_is, nan_bits_above}
use Rattle.live.proofs.channels.from_bits.Goals as goal

-- there is one NaN, and it is what `f32::NAN` is
one-nan : (x : Float) → is_nan x ≡ true → nan ≡ x
unfolding is_nan
one-nan nan is = refl
one-nan (inf s) is = absurd (true≢false (sym is))
one-nan (fin s m e) is = absurd (true≢false (sym is))

its_bits : of_bits binary32 2143289344 ≡ nan
unfolding of_bits
its_bits = refl

pub returns-then-bits-gt-INFINITY : goal.returns-then-bits-gt-INFINITY
returns-then-bits-gt-INFINITY c = let b = c.args.bits in
    its_bits ∙ one-nan (of_bits binary32 b) (sym (nan_bits_is binary32 b) ∙ nan_bits_above binary32 b ∙ lt-ltb _ _ c.if-bits-gt-INFINITY.true)

pub float_from_bits-result : goal.float_from_bits-result
float_from_bits-result c = subst⁻¹ (λ (b : Bool). T (not b)) (nan_bits_above binary32 c.args.bits ∙ le-ltb _ _ c.if-bits-gt-INFINITY.false) tt
