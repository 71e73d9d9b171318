-- The row that a label has, by its index and as one that stands there. Assumes nothing.
use Rattle.std.proofs.Common.{◌≡◌, ℕ, ◌≤◌, Bool, true, false, not, T, Decides, MatchOption, List, length, Some, None, Option, Result, ok_or, sym, refl, ap, ◌∙◌, subst, inl, arith, rules}
use denote.Enum.Bare.{sameb, same_true, same_false}
use Rattle.shelf.specs.contracts.row.State.{the_type}
use Rattle.shelf.specs.Rows.{Rising, RowAt, index_of}
use Rattle.shelf.proofs.Ranks.{index_some, index_none}
use Rattle.laws.specs.Standing.{Row, State, Has, Stands, StandsAs}
use Rattle.laws.proofs.Rows.{has_at, at_has, one_row}
use Rattle.std.proofs.lemmas.Bool.Decides.{not_from_Decides}
use Rattle.std.specs.Bool.{then_some}
use Rattle.gap.specs.Labels.{Labels}
use Rattle.places.specs.declared.fault.SheetFault.{SheetFault}
use Rattle.places.specs.declared.fault.SheetFault.TheVariants.{Unknown}
use Rattle.places.specs.Checks.{known_checks}
use Rattle.places.specs.Checked.{Checked, IsRow, RowOf}

-- a weaker fact of an optional value
pub weaker : {A : Type 0} (o : Option A) (P : Type 0) (Q R : A → Type 0) → ((a : A) → Q a → R a) → MatchOption o P Q → MatchOption o P R
weaker None P Q R by h = h
weaker (Some a) P Q R by h = by a h

-- a test from its opposite
pub opposite : (b s : Bool) → b ≡ not s → not b ≡ s
opposite b true e = ap not e
opposite b false e = ap not e

module _ (rows : List Row) (x : ℕ) where
  -- a label that is not found has no row
  pub not_found : index_of rows x ≡ None → ¬ (Stands rows x)
  not_found none (r, h, label) =
      let (i, l, here) = has_at rows r h in
      index_none rows x none i l (ap (λ (s : Row). s.label) here ∙ label)

  -- one that is found has the row at its index
  module _ (i : ℕ) (found : index_of rows x ≡ Some i) where
    pub not_past : length rows ≤ i → ⊥
    not_past past = omega (arith, (index_some rows x i found).0)

    pub found_row : (r : Row) → RowAt rows i (Some r) → IsRow rows x i r
    found_row r (within, here) = record {
      within = within;
      here = here;
      label = sym (ap (λ (s : Row). s.label) here) ∙ (index_some rows x i found).1;
    }

  module _ (i : ℕ) (r : Row) (is : IsRow rows x i r) where
    pub row_has : Has rows r
    row_has = subst (Has rows) is.here (at_has rows i is.within)

    pub row_stands : Stands rows x
    row_stands = (r, row_has, is.label)

    pub stands_as : (st : State) → r.state ≡ st → StandsAs st rows x
    stands_as st e = (r, row_has, is.label, e)

    -- in rising rows it is the only one with the label
    module _ (up : Rising rows) where
      pub only_row : (s : Row) → Has rows s → s.label ≡ x → s ≡ r
      only_row s h label = one_row rows up s r h row_has (label ∙ sym is.label)

      pub state_is : (st : State) → StandsAs st rows x → r.state ≡ st
      state_is st (s, h, label, state) = ap (λ (t : Row). t.state) (sym (only_row s h label)) ∙ state

      -- a test of its state tells whether the label stands so
      pub state_test : (st : State) (b : Bool) → b ≡ sameb the_type r.state st → Decides b (StandsAs st rows x)
      state_test st true e = (λ _. stands_as st (same_true the_type (search rules) r.state st (sym e)), λ _. refl)
      state_test st false e = (λ t. absurd (cc), λ k. absurd (same_false the_type r.state st (sym e) (state_is st k)))

  -- the test of the row that a label has, where one has it
  module _ (up : Rising rows) where
    pub tested : (st : State) (o : Option (ℕ × Row)) → RowOf rows x o → (b : Bool)
        → MatchOption o (b ≡ false) (λ found. b ≡ sameb the_type found.1.state st) → Decides b (StandsAs st rows x)
    tested st None none b e = (λ t. absurd (cc), λ (r, h, label, state). absurd (none (r, h, label)))
    tested st (Some found) is b e = state_test found.0 found.1 is up st b e

  -- the row of a known label is kept
  module _ (L : Labels) where
    abbrev pub IsKnown : Result (ℕ × Row) SheetFault → Type 0
    IsKnown = Checked (known_checks L rows x) (λ found. IsRow rows x found.0 found.1)

    pub known : (o : Option (ℕ × Row)) → RowOf rows x o → (q : Option (ℕ × Row))
        → MatchOption o (q ≡ None) (λ found. (b : Bool) × Decides b (T (L.lawful x)) × (q ≡ then_some b found)) → IsKnown (ok_or q Unknown)
    known None none q e = subst (λ (p : Option (ℕ × Row)). IsKnown (ok_or p Unknown)) (sym e) (inl (λ k. none k.0, refl))
    known (Some found) is q (true, law, e) =
        subst (λ (p : Option (ℕ × Row)). IsKnown (ok_or p Unknown)) (sym e) (((row_stands found.0 found.1 is, law.0 refl), tt), is)
    known (Some found) is q (false, law, e) =
        subst (λ (p : Option (ℕ × Row)). IsKnown (ok_or p Unknown)) (sym e) (inl (λ k. not_from_Decides false law refl k.1, refl))
