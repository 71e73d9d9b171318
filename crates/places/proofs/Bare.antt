-- A filled or opened place below a label, by its index and as a row that stands there. Assumes nothing.
use Rattle.std.proofs.Common.{ℕ, T, ◌⊎◌, List, sym, refl, ap, ◌∙◌, subst, inl, inr}
use Rattle.shelf.specs.Rows.{row_at}
use Rattle.gap.specs.Labels.{Labels}
use Rattle.laws.specs.Standing.{Row, State, Opened, Filled, StandsAs}
use Rattle.laws.specs.Calls.{NotBare}
use Rattle.laws.proofs.Rows.{has_at, at_has}
use Rattle.neighbours.specs.Below.{InUse, Occupied}

module _ (L : Labels) (rows : List Row) (x : ℕ) where
  pub not_bare : Occupied L rows x → NotBare L rows x
  not_bare (i, (l, led, in_use)) = ((row_at rows i).label, led, by_use in_use)
    where
      by_use : InUse (row_at rows i).state → StandsAs Filled rows (row_at rows i).label ⊎ StandsAs Opened rows (row_at rows i).label
      by_use (inl e) = inl (row_at rows i, at_has rows i l, refl, e)
      by_use (inr e) = inr (row_at rows i, at_has rows i l, refl, e)

  occupied_by : (st : State) → InUse st → (y : ℕ) → T (L.leads x y) → StandsAs st rows y → Occupied L rows x
  occupied_by st in_use y led (r, h, label, state) =
      let (i, l, here) = has_at rows r h in (
        i,
        (
          l,
          subst (λ z. T (L.leads x z)) (sym (ap (λ (s : Row). s.label) here ∙ label)) led,
          subst InUse (sym (ap (λ (s : Row). s.state) here ∙ state)) in_use,
        ),
      )

  pub occupied : NotBare L rows x → Occupied L rows x
  occupied (y, led, inl k) = occupied_by Filled (inl refl) y led k
  occupied (y, led, inr k) = occupied_by Opened (inr refl) y led k
