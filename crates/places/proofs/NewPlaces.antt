-- The label of a new place under its parent, and what is so where none is left. Assumes nothing.
use Rattle.std.proofs.Common.{◌≡◌, ℕ, T, List, Some, None, Option, ok_or, refl, subst, inl, inr}
use Rattle.label.specs.declared.fault.LabelFault.{LabelFault}
use Rattle.label.specs.Stops.{Stops}
use Rattle.gap.specs.Labels.{Labels, Sound}
use Rattle.gap.specs.PlanLabels.{labels_of}
use Rattle.gap.proofs.Options.{some_injective, none_ne_some}
use Rattle.gap.proofs.PlanLabels.{lawful_from, parent_parts}
use Rattle.laws.specs.Standing.{Row}
use Rattle.laws.specs.declared.place.Where.{Where}
use Rattle.laws.specs.declared.place.Where.TheVariants.{FirstUnder, LastUnder, Before, After}
use Rattle.laws.specs.Openings.{above_new, NextLower, NextUpper, LabelFor}
use Rattle.laws.specs.Calls.{Passes, place_checks}
use Rattle.places.specs.declared.fault.SheetFault.TheVariants.{NoPlace}
use Rattle.places.specs.Checked.{Checked}
use Rattle.places.specs.Checks.{parent_checks}
use Rattle.laws.proofs.Pins.{one_label}
use Rattle.neighbours.proofs.WordReads.{unread_unlawful}

module _ (L : Labels) (S : Sound L) (rows : List Row) (a : ℕ) (w : Where) (ok : Passes (parent_checks L rows a w)) (p : ℕ)
    (under : above_new L w a ≡ Some p) (l u : Option ℕ) (next : NextLower L rows w a p l × NextUpper L rows w a p u) where
  label_for : (o : Option ℕ) → L.Chooses p l u o → LabelFor L rows w a o
  label_for o chosen = record {
    parent = p;
    lower = l;
    upper = u;
    under = under;
    next_lower = next.0;
    next_upper = next.1;
    chosen = chosen;
  }

  -- the label that is chosen, or why there is none
  pub label_found : (o : Option ℕ) → L.Chooses p l u o → Checked (place_checks L rows a w) (λ (x : ℕ). LabelFor L rows w a (Some x)) (ok_or o NoPlace)
  label_found (Some x) chosen =
      let label = label_for (Some x) chosen in
      ((ok.0, (ok.1.0, (ok.1.1.0, ((x, label), tt)))), label)
  label_found None chosen =
      let none = label_for None chosen in
      inr (
        ok.0,
        inr (ok.1.0, inr (ok.1.1.0, inl (λ (x, label). none_ne_some x (one_label L S rows w a None (Some x) none label), refl))),
      )

-- the parent of a new place is a label, so it can be read
pub parent_reads : (w : ℕ → ℕ → ℕ) (N : ℕ) → (rows : List Row) (a : ℕ) (v : Where) → Passes (parent_checks (labels_of w N) rows a v)
    → (p : ℕ) → above_new (labels_of w N) v a ≡ Some p
    → (fault : LabelFault) → Stops w N p fault → ⊥
parent_reads w N rows a v ok p under fault stops =
    unread_unlawful w N p fault stops (by_where v under)
  where
    by_where : (v : Where) → above_new (labels_of w N) v a ≡ Some p → T ((labels_of w N).lawful p)
    by_where FirstUnder e = subst (λ z. T ((labels_of w N).lawful z)) (some_injective a p e) ok.0.1
    by_where LastUnder e = subst (λ z. T ((labels_of w N).lawful z)) (some_injective a p e) ok.0.1
    by_where Before e = let (d, c, of, at, it) = parent_parts w N a p e in lawful_from w N c p it
    by_where After e = let (d, c, of, at, it) = parent_parts w N a p e in lawful_from w N c p it
