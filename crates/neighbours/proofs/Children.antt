-- Stretches of the rows without a child of a parent. Assumes nothing.
use Rattle.std.proofs.Common.{◌≡◌, ℕ, ◌+◌, ◌<◌, ◌≤◌, List, length, Some, sym, ap, ◌∙◌, subst, ⊎_elim, arith}
use Rattle.std.proofs.lemmas.Bool.{cases_lt}
use Rattle.shelf.specs.declared.row.Row.{Row}
use Rattle.shelf.specs.Rows.{Rising, RowAt, label_at}
use Rattle.shelf.proofs.Ranks.{cases_eq_lt}
use Rattle.gap.specs.Labels.{Labels, Sound}
use Rattle.neighbours.specs.Children.{ChildAt, NoChild}

-- labels rise with the index
pub not_above : (rows : List Row) → Rising rows → (i j : ℕ) → i ≤ j → j < length rows → label_at rows i ≤ label_at rows j
not_above rows up i j h inside = ⊎_elim (λ e. omega (arith, ap (label_at rows) e)) (λ less. omega (arith, up i j less inside)) (cases_eq_lt i j h)

module _ (L : Labels) (rows : List Row) (p : ℕ) where
  -- no row is between equal ends
  pub no_rows : (start end : ℕ) → end ≤ start → NoChild L rows p start end
  no_rows start end h i low high k = omega arith

  -- one row more that is no child, at the left
  pub no_child_left : (i start end : ℕ) → start ≡ 1 + i → (ChildAt L rows p i → ⊥) → NoChild L rows p start end → NoChild L rows p i end
  no_child_left i start end e none rest j low high k =
      ⊎_elim (λ same. none (subst (ChildAt L rows p) (sym same) k)) (λ less. rest j (omega arith) high k) (cases_eq_lt i j low)

  -- one row more that is no child, at the right
  pub no_child_right : (i start : ℕ) → (ChildAt L rows p i → ⊥) → NoChild L rows p start i → NoChild L rows p start (i + 1)
  no_child_right i start none rest j low high k =
      ⊎_elim (λ same. none (subst (ChildAt L rows p) same k)) (λ less. rest j low less k) (cases_eq_lt j i (omega arith))

  -- a row that was looked at, without the parent p, is no child
  pub row_no_child : (i : ℕ) (r : Row) → RowAt rows i (Some r) → (L.parent r.label ≡ Some p → ⊥) → ChildAt L rows p i → ⊥
  row_no_child i r at none (inside, par) = none (ap (λ (q : Row). L.parent q.label) (sym at.1) ∙ par)

  module _ (up : Rising rows) where
    -- rows up to the parent's own, or up to one with a lower label, are no children
    pub no_child_below : Sound L → (i : ℕ) → i < length rows → label_at rows i ≤ p → NoChild L rows p 0 (i + 1)
    no_child_below S i inside low j h less (within, par) =
        omega (arith, not_above rows up j i (omega arith) inside, S.leads_less p (label_at rows j) (S.parent_leads p (label_at rows j) par))

    -- rows at or past a bound that all children are below are no children
    pub no_child_past : (bound i : ℕ) → ((c : ℕ) → L.parent c ≡ Some p → c < bound) → i < length rows → bound ≤ label_at rows i
        → NoChild L rows p i (length rows)
    no_child_past bound i below inside high j h less (within, par) = omega (arith, not_above rows up i j h within, below (label_at rows j) par)

  -- two stretches, one behind the other
  pub no_child_both : (start middle end : ℕ) → NoChild L rows p start middle → NoChild L rows p middle end → NoChild L rows p start end
  no_child_both start middle end first second j low high k =
      ⊎_elim (λ less. first j low less k) (λ more. second j more high k) (cases_lt j middle)
