-- How large a ticket's figures get within the ranges, and the factor by one division.
use mathlib.Core.Path.{◌≡◌, sym, ap, ◌∙◌}
use mathlib.Core.Bool.{true}
use Prim.Native.Nat.{ℕ, ◌-◌, ◌*◌, ◌≤◌}
use native.Mathlib.Nat.{mul-one, mul_assoc, mul-le-mul}
use native.Mathlib.Omega.{arith}
use Rattle.exact.specs.Rounding.{rounded_div, rounded}
use Rattle.exact.proofs.Rounding.{at_most, cancelled}
use Rattle.ranges.specs.Table.{ctl_ok, reading_ok, meter_factor_ok, sediment_ok}
use Rattle.ranges.proofs.Laws.{both_first, both_second, within_high}
use Rattle.factors.specs.Fractions.{combined}
use Rattle.factors.specs.Liquid.{liquid_ok}
use Rattle.factors.specs.Rounded.{cpl_at, combined_at}
use Rattle.factors.specs.declared.Places.TheVariants.{Four}
use Rattle.factors.proofs.Values.{cpl_small}
use Rattle.ticket.specs.Ranges.{ticket_ok}
use Rattle.ticket.specs.Formulas.{indicated, factor, gross}
use Rattle.ticket.specs.declared.Ticket.{Ticket}

-- the upper ends of the ranges, and the liquid within its own
pub record Bounds (t : Ticket) : Type 0 where
  pub closing : t.closing ≤ 99999999
  pub mf : t.mf ≤ 12000
  pub ctl : t.ctl ≤ 15000
  pub liquid : liquid_ok t.liquid ≡ true
  pub sediment : t.sediment ≤ 100000

pub in-range : (t : Ticket) → ticket_ok t ≡ true → Bounds t
unfolding ticket_ok reading_ok meter_factor_ok sediment_ok ctl_ok
in-range t ok =
    let after_opening = both_second (reading_ok t.opening) _ ok in
    let after_closing = both_second (reading_ok t.closing) _ after_opening in
    let after_mf = both_second (meter_factor_ok t.mf) _ after_closing in
    let after_ctl = both_second (ctl_ok t.ctl) _ after_mf in
    record {
      closing = within_high 0 99999999 t.closing (both_first (reading_ok t.closing) _ after_opening);
      mf = within_high 8000 12000 t.mf (both_first (meter_factor_ok t.mf) _ after_closing);
      ctl = within_high 5000 15000 t.ctl (both_first (ctl_ok t.ctl) _ after_mf);
      liquid = both_first (liquid_ok t.liquid) _ after_ctl;
      sediment = within_high 0 100000 t.sediment (both_second (liquid_ok t.liquid) _ after_ctl);
    }

-- the product of the three factors is divided by the units that two of them bring
pub factor_by_words : (t : Ticket) → rounded_div (t.mf * t.ctl * cpl_at 4 t.liquid) 100000000 ≡ factor t
unfolding factor combined_at combined rounded
factor_by_words t =
    sym (cancelled (t.mf * (t.ctl * (cpl_at 4 t.liquid * 1))) 100000000 {c = 10000} (omega arith) ∙ ap (λ (n : ℕ). rounded_div n 100000000) (simp (mul-one, mul_assoc)))

module _ {t : Ticket} (b : Bounds t) where
  pub supplied_small : t.mf * t.ctl ≤ 180000000
  supplied_small = mul-le-mul {n₂ = 12000} {m₂ = 15000} b.mf b.ctl

  pub product_small : t.mf * t.ctl * cpl_at 4 t.liquid ≤ 36000 * 100000000
  product_small = mul-le-mul {n₂ = 180000000} {m₂ = 20000} supplied_small (cpl_small Four t.liquid b.liquid)

  factor_small : factor t ≤ 36000
  factor_small = omega (arith, factor_by_words t, at_most (t.mf * t.ctl * cpl_at 4 t.liquid) 36000 {d = 100000000} (omega arith) product_small)

  pub measured_small : indicated t * factor t ≤ 360000000 * 10000
  unfolding indicated
  measured_small = mul-le-mul {n₂ = 100000000} {m₂ = 36000} (omega (arith, b.closing)) factor_small

  gross_small : gross t ≤ 360000000
  unfolding gross
  gross_small = at_most (indicated t * factor t) 360000000 (omega arith) measured_small

  pub kept_small : gross t * (100000 - t.sediment) ≤ 360000000 * 100000
  kept_small = mul-le-mul {n₂ = 360000000} {m₂ = 100000} gross_small (omega arith)
