-- The rows that a label leads. Assumes nothing.
use Rattle.std.proofs.Common.{◌≡◌, ℕ, ◌+◌, ◌<◌, ◌≤◌, T, List, length, Some, None, Ok, Err, Option, Result, subst, inl, inr, ⊎_elim, arith}
use Rattle.std.proofs.lemmas.Bool.{cases_lt}
use Rattle.shelf.specs.declared.row.Row.{Row}
use Rattle.shelf.specs.declared.row.State.{State}
use Rattle.shelf.specs.declared.row.State.TheVariants.{Struck}
use Rattle.shelf.specs.Rows.{Rising, label_at, row_at}
use Rattle.shelf.proofs.Ranks.{cases_eq_lt}
use Rattle.label.specs.Label.{Label}
use Rattle.label.specs.Theorems.{EndsLed}
use Rattle.label.proofs.Levels.{over_from_under, under_from_over}
use Rattle.label.proofs.Standing.{Under}
use Rattle.std.specs.Option.{option_flatten}
use Rattle.std.specs.Result.{result_ok}
use Rattle.label.specs.declared.fault.LabelFault.{LabelFault}
use Rattle.gap.specs.Labels.{Labels, Sound}
use Rattle.neighbours.specs.Children.{ChildrenEnd}
use Rattle.gap.specs.PlanLabels.{labels_of}
use Rattle.gap.proofs.PlanLabels.{leads_parts, leads_from, lawful_parts, lawful_from, one_of}
use Rattle.neighbours.specs.Below.{LedEnd, InUse, BelowAt, Occupied}
use Rattle.neighbours.specs.Ranks.{Past}
use Rattle.neighbours.proofs.Children.{not_above}
use Rattle.neighbours.proofs.WordReads.{stopped_leads}

-- what a label leads, by words
led_exactly : (w : ℕ → ℕ → ℕ) (N x : ℕ) (o : Option ℕ) → EndsLed w N x (Ok o) → LedEnd (labels_of w N) x o
led_exactly w N x None (c, of, to) = λ y t.
    let (b, d, p, q, u) = leads_parts w N x y t in
    to d q.0 (over_from_under c d (subst (λ (k : Label). Under k d) (one_of w N b c x p of) u))
led_exactly w N x (Some end) (c, of, to) = λ y. (led y, leads y)
  where
    led : (y : ℕ) → T ((labels_of w N).leads x y) → T ((labels_of w N).lawful y) × (x < y) × (y < end)
    led y t =
        let (b, d, p, q, u) = leads_parts w N x y t in
        let (low, high) = (to d q.0).0 (over_from_under c d (subst (λ (k : Label). Under k d) (one_of w N b c x p of) u)) in
        (lawful_from w N d y q, omega (arith, low, of.1, q.1), omega (arith, high, q.1))

    leads : (y : ℕ) → T ((labels_of w N).lawful y) × (x < y) × (y < end) → T ((labels_of w N).leads x y)
    leads y (law, low, high) =
        let (d, q) = lawful_parts w N y law in
        leads_from w N c d x y of q (under_from_over c d ((to d q.0).1 (omega (arith, low, of.1, q.1), omega (arith, high, q.1))))

pub led_read : (w : ℕ → ℕ → ℕ) (N x : ℕ) (r : Result (Option ℕ) LabelFault) → EndsLed w N x r → LedEnd (labels_of w N) x (option_flatten (result_ok r))
led_read w N x (Ok o) ends = led_exactly w N x o ends
led_read w N x (Err fault) stops = stopped_leads w N x fault stops

-- children are led
pub children_led : (L : Labels) → Sound L → (p : ℕ) (o : Option ℕ) → LedEnd L p o → ChildrenEnd L p o
children_led L S p None none = λ c is. none c (S.parent_leads p c is)
children_led L S p (Some end) ends = λ c is. ((ends c).0 (S.parent_leads p c is)).2

-- a row that is struck is not in use
pub struck_unused : (s : State) → s ≡ Struck → InUse s → ⊥
struck_unused s e (inl f) = let z : ◌≡◌ {A = ℕ} 0 1 = cc in omega arith
struck_unused s e (inr f) = let z : ◌≡◌ {A = ℕ} 0 1 = cc in omega arith

module _ (L : Labels) (rows : List Row) (x : ℕ) where
  -- nothing led means nothing below
  pub none_led : LedEnd L x None → Occupied L rows x → ⊥
  none_led none (i, (inside, t, used)) = none (row_at rows i).label t

  module _ (end : ℕ) (ends : LedEnd L x (Some end)) where
    -- rows up to x are not below it
    pub none_up_to : (k : ℕ) → Past rows x k → (i : ℕ) → i < k → BelowAt L rows x i → ⊥
    none_up_to k past i less (inside, t, used) = omega (arith, past.low i less, ((ends (label_at rows i)).0 t).1)

    -- one row more that is not
    pub none_more : (k : ℕ) → (BelowAt L rows x k → ⊥) → ((i : ℕ) → i < k → BelowAt L rows x i → ⊥) → (i : ℕ) → i < k + 1 → BelowAt L rows x i → ⊥
    none_more k none rest i less b =
        ⊎_elim (λ same. none (subst (BelowAt L rows x) same b)) (λ h. rest i h b) (cases_eq_lt i k (omega arith))

    -- no row at or past the end is
    pub none_past : Rising rows → (k : ℕ) → k < length rows → end ≤ label_at rows k → ((i : ℕ) → i < k → BelowAt L rows x i → ⊥) → Occupied L rows x → ⊥
    none_past up k inside high rest (i, (within, t, used)) =
        ⊎_elim (λ less. rest i less (within, t, used))
        (λ more. omega (arith, high, not_above rows up k i more within, ((ends (label_at rows i)).0 t).2))
        (cases_lt i k)

    -- where none of the first k rows is, and there are no more, none is
    pub none_at_all : (k : ℕ) → length rows ≤ k → ((i : ℕ) → i < k → BelowAt L rows x i → ⊥) → Occupied L rows x → ⊥
    none_at_all k all rest (i, (within, t, used)) = rest i (omega arith) (within, t, used)

    -- a row between x and the end that is lawful and in use stands below x
    pub found_below : (k : ℕ) → k < length rows → x < label_at rows k → label_at rows k < end → T (L.lawful (label_at rows k)) → InUse (row_at rows k).state
        → Occupied L rows x
    found_below k inside low high law used = (k, (inside, (ends (label_at rows k)).1 (law, low, high), used))
