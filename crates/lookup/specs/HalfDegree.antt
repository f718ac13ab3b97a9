-- 002, 11.2.1.4: a temperature or a gravity is 'rounded to the nearest' half degree before it is looked up. In tenths: to a multiple of 5.
use Rattle.std.specs.Prelude.{Bool, ℕ, suc, ◌*◌, ◌%◌, eqb, ℤ, pos, negsuc, neg_ℤ, nat_abs}
use Rattle.exact.specs.Rounding.{rounded_div}

-- tenths to the nearest half degree
unfoldable pub half_degree : ℕ → ℕ
half_degree tenths = 5 * rounded_div tenths 5

-- the same of tenths that may be below zero, where the sign stays (002, 11.2.1.5.2, step 1)
unfoldable pub half_degree_signed : ℤ → ℤ
half_degree_signed (pos n) = pos (half_degree n)
half_degree_signed (negsuc n) = neg_ℤ (pos (half_degree (suc n)))

-- tenths that are 'on a half degree'
unfoldable pub on_half_degree : ℕ → Bool
on_half_degree tenths = eqb (tenths % 5) 0

unfoldable pub on_half_degree_signed : ℤ → Bool
on_half_degree_signed t = on_half_degree (nat_abs t)
