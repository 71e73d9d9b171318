-- The rows of a shelf: as a list and by index, after a put, after a change of state, and the row that next takes. Assumes nothing.
use Rattle.std.proofs.Common.{◌≡◌, ℕ, zero, suc, ◌<◌, ◌≤◌, Bool, true, false, cond, T, eqb, ◌⊎◌, List, [], ◌∷◌, length, Some, None, sym, refl, ap, ◌∙◌, subst, inl, inr, arith}
use Rattle.std.specs.List.{insert}
use Rattle.std.proofs.lemmas.Bool.{cases_lt, cases_order}
use Rattle.shelf.specs.Rows.{restated, row_at, label_at, Rising, rank_of}
use Rattle.shelf.specs.Changes.{with_row}
use Rattle.shelf.specs.Scan.{NextFilled}
use Rattle.shelf.proofs.Ranks.{index_is_none}
use Rattle.shelf.proofs.Edits.{rising_with_row}
use Rattle.laws.specs.Standing.{State, Opened, Filled, Struck, Row, Has, is_filled, revised, revise}

pub filled_is : (st : State) → T (is_filled st) → st ≡ Filled
filled_is Opened t = absurd t
filled_is Filled t = refl
filled_is Struck t = absurd t

pub is_filled_from : (st : State) → st ≡ Filled → T (is_filled st)
is_filled_from st e = subst (λ (s : State). T (is_filled s)) (sym e) tt

-- ## Rows by index

pub has_at : (rows : List Row) (s : Row) → Has rows s → (i : ℕ) × (i < length rows) × (row_at rows i ≡ s)
has_at [] s h = absurd h
has_at (t ∷ rows) s (inl e) = (0, omega arith, e)
has_at (t ∷ rows) s (inr h) = let (i, l, e) = has_at rows s h in (suc i, omega arith, e)

pub at_has : (rows : List Row) (i : ℕ) → i < length rows → Has rows (row_at rows i)
at_has [] i l = absurd (omega arith)
at_has (t ∷ rows) zero l = inl refl
at_has (t ∷ rows) (suc i) l = inr (at_has rows i (omega arith))

-- in rising rows a label has one row
pub one_row : (rows : List Row) → Rising rows → (r s : Row) → Has rows r → Has rows s → r.label ≡ s.label → r ≡ s
one_row rows up r s h k e =
    let (i, l, p) = has_at rows r h in
    let (j, n, q) = has_at rows s k in
    let first : label_at rows i ≡ r.label = ap (λ (t : Row). t.label) p in
    let other : label_at rows j ≡ s.label = ap (λ (t : Row). t.label) q in
    elim (cases_order i j) [
      | inl same ↦ sym p ∙ ap (row_at rows) same ∙ q
      | inr (inl less) ↦ absurd (omega (arith, up i j less n))
      | inr (inr more) ↦ absurd (omega (arith, up j i more l))
    ]

-- ## A put

inserted_in : (r s : Row) (i : ℕ) (rows : List Row) → Has (insert rows i r) s → (r ≡ s) ⊎ Has rows s
inserted_in r s zero rows h = h
inserted_in r s (suc i) [] h = h
inserted_in r s (suc i) (t ∷ rows) (inl e) = inr (inl e)
inserted_in r s (suc i) (t ∷ rows) (inr h) = elim (inserted_in r s i rows h) [ inl e ↦ inl e | inr k ↦ inr (inr k) ]

inserted_old : (r s : Row) (i : ℕ) (rows : List Row) → Has rows s → Has (insert rows i r) s
inserted_old r s zero rows h = inr h
inserted_old r s (suc i) [] h = absurd h
inserted_old r s (suc i) (t ∷ rows) (inl e) = inl e
inserted_old r s (suc i) (t ∷ rows) (inr h) = inr (inserted_old r s i rows h)

inserted_new : (r : Row) (i : ℕ) (rows : List Row) → Has (insert rows i r) r
inserted_new r zero rows = inl refl
inserted_new r (suc i) [] = inl refl
inserted_new r (suc i) (t ∷ rows) = inr (inserted_new r i rows)

pub put_in : (r s : Row) (rows : List Row) → Has (with_row rows r) s → (r ≡ s) ⊎ Has rows s
put_in r s rows = inserted_in r s (rank_of rows r.label) rows

pub put_old : (r s : Row) (rows : List Row) → Has rows s → Has (with_row rows r) s
put_old r s rows = inserted_old r s (rank_of rows r.label) rows

pub put_new : (r : Row) (rows : List Row) → Has (with_row rows r) r
put_new r rows = inserted_new r (rank_of rows r.label) rows

pub put_rising : (r : Row) (rows : List Row) → ((s : Row) → Has rows s → ¬ (s.label ≡ r.label)) → Rising rows → Rising (with_row rows r)
put_rising r rows fresh up =
    rising_with_row rows r up (index_is_none rows r.label (λ i l. fresh (row_at rows i) (at_has rows i l)))

-- ## A change of state

module _ (x : ℕ) (st : State) (c : ℕ) where
  pub revised_label : (r : Row) → (revised x st c r).label ≡ r.label
  revised_label r = go (eqb r.label x)
    where
      go : (b : Bool) → (cond b (restated r st c) r).label ≡ r.label
      go true = refl
      go false = refl

  pub revise_from : (s : Row) (rows : List Row) → Has (revise x st c rows) s → (r : Row) × Has rows r × (revised x st c r ≡ s)
  revise_from s [] h = absurd h
  revise_from s (t ∷ rows) (inl e) = (t, inl refl, e)
  revise_from s (t ∷ rows) (inr h) = let (r, k, e) = revise_from s rows h in (r, inr k, e)

  pub revise_to : (r : Row) (rows : List Row) → Has rows r → Has (revise x st c rows) (revised x st c r)
  revise_to r [] h = absurd h
  revise_to r (t ∷ rows) (inl e) = inl (ap (revised x st c) e)
  revise_to r (t ∷ rows) (inr h) = inr (revise_to r rows h)

  revise_length : (rows : List Row) → length (revise x st c rows) ≡ length rows
  revise_length [] = refl
  revise_length (t ∷ rows) = ap suc (revise_length rows)

  revise_label : (rows : List Row) (i : ℕ) → i < length rows → label_at (revise x st c rows) i ≡ label_at rows i
  revise_label [] i l = absurd (omega arith)
  revise_label (t ∷ rows) zero l = revised_label t
  revise_label (t ∷ rows) (suc i) l = revise_label rows i (omega arith)

  pub revise_rising : (rows : List Row) → Rising rows → Rising (revise x st c rows)
  revise_rising rows up i j less l =
      let n = revise_length rows in
      rw (revise_label rows i (omega arith), revise_label rows j (omega arith)) (up i j less (omega arith))

-- ## The row that next takes

-- it stands there, is filled and past the mark, and no other such row has a smaller label
pub record Takes (mark : ℕ) (rows : List Row) (r : Row) : Type 0 where
  pub stands : Has rows r
  pub filled : T (is_filled r.state)
  pub past : mark < r.label
  pub first : (s : Row) → Has rows s → T (is_filled s.state) → mark < s.label → r.label ≤ s.label

pub takes : (mark : ℕ) (rows : List Row) (i : ℕ) (r : Row) → Rising rows → NextFilled rows mark (Some (i, r)) → Takes mark rows r
takes mark rows i r up (l, here, (filled, past), before) =
    record {
      stands = subst (Has rows) here (at_has rows i l);
      filled = is_filled_from r.state filled;
      past = past;
      first = first;
    }
  where
    first : (s : Row) → Has rows s → T (is_filled s.state) → mark < s.label → r.label ≤ s.label
    first s h f m =
        let (j, n, at) = has_at rows s h in
        let label : label_at rows j ≡ s.label = ap (λ (t : Row). t.label) at in
        let mine : label_at rows i ≡ r.label = ap (λ (t : Row). t.label) here in
        elim (cases_order i j) [
          | inl same ↦ omega (arith, ap (label_at rows) same)
          | inr (inl less) ↦ omega (arith, up i j less n)
          | inr (inr more) ↦ absurd (before j more (rw at (filled_is s.state f, m)))
        ]

-- where next takes no row, no filled row is past the mark
pub takes_none : (mark : ℕ) (rows : List Row) → NextFilled rows mark None → (s : Row) → Has rows s → T (is_filled s.state) → s.label ≤ mark
takes_none mark rows past s h f =
    let (j, n, at) = has_at rows s h in
    elim (cases_lt mark s.label) [ inl l ↦ absurd (past j n (rw at (filled_is s.state f, l))) | inr l ↦ l ]
