-- What is told of a ticket loses nothing, and what its volumes keep to.
use mathlib.Core.Path.{◌≡◌, ap, ◌∙◌}
use Prim.Native.Nat.{ℕ, ◌-◌, ◌*◌, ◌≤◌}
use native.Mathlib.Nat.{le_refl, mul-le-mul}
use native.Mathlib.Omega.{arith}
use Rattle.exact.specs.Rounding.{rounded_div}
use Rattle.exact.proofs.Rounding.{at_most, nearest_only}
use Rattle.ticket.specs.Formulas.{indicated, factor, gross, net}
use Rattle.ticket.specs.declared.Ticket.{Ticket}

module _ (t : Ticket) where
  -- sediment and water only take away
  pub net_at_most : net t ≤ gross t
  unfolding net
  net_at_most = at_most (gross t * (100000 - t.sediment)) (gross t) (omega arith) (mul-le-mul (le_refl (gross t)) (omega arith))

  -- without them net is gross
  pub net_of_clean : t.sediment ≡ 0 → net t ≡ gross t
  unfolding net
  net_of_clean none = ap (λ (s : ℕ). rounded_div (gross t * (100000 - s)) 100000) none ∙ nearest_only (record { low = omega arith; high = omega arith })

  -- equal readings are a ticket of nothing
  nothing_gross : t.opening ≡ t.closing → gross t ≡ 0
  unfolding gross indicated
  nothing_gross same =
      let nothing : indicated t ≡ 0 = omega arith in
      ap (λ (n : ℕ). rounded_div (n * factor t) 10000) nothing ∙ nearest_only (record { low = omega arith; high = omega arith })

  pub nothing_net : t.opening ≡ t.closing → net t ≡ 0
  nothing_net same = omega (arith, net_at_most, nothing_gross same)
