-- The next siblings of a new place, from the walks over the rows. Assumes nothing.
use Rattle.std.proofs.Common.{◌≡◌, ℕ, ◌+◌, ◌<◌, ◌≤◌, List, Some, None, Ok, Err, Option, sym, ap, ◌∙◌, subst, ⊎_elim, arith}
use Rattle.std.proofs.lemmas.Bool.{cases_lt, cases_order}
use Rattle.shelf.specs.declared.row.Row.{Row}
use Rattle.shelf.specs.Rows.{Rising, Sought, rank_of, label_at, row_at}
use Rattle.shelf.proofs.Ranks.{index_some, index_none, rank_below, rank_above, rank_le}
use Rattle.gap.specs.Labels.{Labels, Sound}
use Rattle.laws.specs.declared.place.Where.{Where}
use Rattle.laws.specs.declared.place.Where.TheVariants.{FirstUnder, LastUnder, Before, After}
use Rattle.laws.specs.Openings.{Lower, Upper, ChildRow, NextLower, NextUpper}
use Rattle.laws.proofs.Rows.{has_at, at_has}
use Rattle.neighbours.specs.Children.{ChildAt, LastChild, FirstChild}
use Rattle.neighbours.specs.Next.{Neighbours}
use Rattle.neighbours.specs.Ranks.{Past}

module _ (L : Labels) (rows : List Row) (up : Rising rows) (a p : ℕ) where
  -- a child with a row, by the row's index, and back
  child_index : (c : ℕ) → ChildRow L rows p c → (i : ℕ) × ChildAt L rows p i × (label_at rows i ≡ c)
  child_index c ((r, has, e), par) =
      let (i, inside, at) = has_at rows r has in
      let is : label_at rows i ≡ c = ap (λ (q : Row). q.label) at ∙ e in
      (i, (inside, ap L.parent is ∙ par), is)

  child_row : (c i : ℕ) → ChildAt L rows p i → label_at rows i ≡ c → ChildRow L rows p c
  child_row c i k e = ((row_at rows i, at_has rows i k.0, e), ap L.parent (sym e) ∙ k.1)

  -- where the first `end` rows are those of the children that come to stand before the new place, the last child among them is the neighbour
  lower_from : (w : Where) (end : ℕ)
      → ((j : ℕ) → ChildAt L rows p j → Lower w a (label_at rows j) → j < end)
      → ((j : ℕ) → ChildAt L rows p j → j < end → Lower w a (label_at rows j))
      → (o : Option ℕ) → LastChild L rows p end o → NextLower L rows w a p o
  lower_from w end within from None none = λ c (child, low).
      let (j, k, e) = child_index c child in
      none j (omega arith) (within j k (subst (Lower w a) (sym e) low)) k
  lower_from w end within from (Some l) (i, less, k, e, none) = (
    (child_row l i k e, subst (Lower w a) e (from i k less)),
    λ c (child, low).
        let (j, h, f) = child_index c child in
        ⊎_elim (λ same. omega (arith, ap (label_at rows) same, e, f))
        (⊎_elim (λ i_j. absurd (none j (omega arith) (within j h (subst (Lower w a) (sym f) low)) h)) (λ j_i. omega (arith, up j i j_i k.0, e, f)))
        (cases_order i j),
  )

  -- and so for the first child from a row on
  upper_from : (w : Where) (start : ℕ)
      → ((j : ℕ) → ChildAt L rows p j → Upper w a (label_at rows j) → start ≤ j)
      → ((j : ℕ) → ChildAt L rows p j → start ≤ j → Upper w a (label_at rows j))
      → (o : Option ℕ) → FirstChild L rows p start o → NextUpper L rows w a p o
  upper_from w start within from None none = λ c (child, high).
      let (j, k, e) = child_index c child in
      none j (within j k (subst (Upper w a) (sym e) high)) k.0 k
  upper_from w start within from (Some u) (i, more, k, e, none) = (
    (child_row u i k e, subst (Upper w a) e (from i k more)),
    λ c (child, high).
        let (j, h, f) = child_index c child in
        ⊎_elim (λ same. omega (arith, ap (label_at rows) same, e, f))
        (⊎_elim (λ i_j. omega (arith, up i j i_j h.0, e, f)) (λ j_i. absurd (none j (within j h (subst (Upper w a) (sym f) high)) j_i h)))
        (cases_order i j),
  )

  -- ## The four places

  -- a parent without children
  pub childless : ((c : ℕ) → L.parent c ≡ Some p → ⊥) → (w : Where) → Neighbours L rows w a p (None, None)
  childless none w = (λ c ((at, par), low). none c par, λ c ((at, par), high). none c par)

  pub first_under : (S : Sound L) (start : ℕ) → start ≡ rank_of rows p → (o : Option ℕ) → FirstChild L rows p start o
      → Neighbours L rows FirstUnder a p (None, o)
  first_under S start is o first = (
    λ c (k, h). h,
    upper_from FirstUnder start
        (λ j (inside, par) h.
        ⊎_elim (λ less. absurd (omega (arith, rank_below rows p up j (omega (arith, is)), S.leads_less p (label_at rows j) (S.parent_leads p (label_at rows j) par)))) (λ more. more) (cases_lt j start))
        (λ j k h. tt) o first,
  )

  pub last_under : (bound end : ℕ) → ((c : ℕ) → L.parent c ≡ Some p → c < bound) → end ≡ rank_of rows bound → (o : Option ℕ) → LastChild L rows p end o
      → Neighbours L rows LastUnder a p (o, None)
  last_under bound end below is o last = (
    lower_from LastUnder end
        (λ j (inside, par) h.
        ⊎_elim (λ less. less) (λ more. absurd (omega (arith, rank_above rows bound up j (omega (arith, is)) inside, below (label_at rows j) par))) (cases_lt j end))
        (λ j k h. tt) o last,
    λ c (k, h). h,
  )

  pub before : (at : ℕ) → at ≡ rank_of rows a → (o q : Option ℕ) → LastChild L rows p at o → FirstChild L rows p at q → Neighbours L rows Before a p (o, q)
  before at is o q last first = (
    lower_from Before at
        (λ j (inside, par) low. ⊎_elim (λ less. less) (λ more. absurd (omega (arith, rank_above rows a up j (omega (arith, is)) inside))) (cases_lt j at))
        (λ j k less. rank_below rows a up j (omega (arith, is))) o last,
    upper_from Before at
        (λ j (inside, par) high. ⊎_elim (λ less. absurd (omega (arith, rank_below rows a up j (omega (arith, is))))) (λ more. more) (cases_lt j at))
        (λ j k more. rank_above rows a up j (omega (arith, is)) k.0) q first,
  )

  pub after : (at : ℕ) → Past rows a at → (o q : Option ℕ) → LastChild L rows p at o → FirstChild L rows p at q → Neighbours L rows After a p (o, q)
  after at past o q last first = (
    lower_from After at
        (λ j (inside, par) low. ⊎_elim (λ less. less) (λ more. absurd (omega (arith, past.high j more inside))) (cases_lt j at))
        (λ j k less. past.low j less) o last,
    upper_from After at
        (λ j (inside, par) high. ⊎_elim (λ less. absurd (omega (arith, past.low j less))) (λ more. more) (cases_lt j at))
        (λ j k more. past.high j more k.0) q first,
  )

-- how many rows have a label up to l, by where it stands
pub past_here : (rows : List Row) → Rising rows → (l i : ℕ) → Sought rows l (Ok i) → Past rows l (i + 1)
past_here rows up l k (found, is) =
    let (inside, here) = index_some rows l k found in
    record {
      few = omega arith;
      low = λ i h. ⊎_elim (λ less. omega (arith, rank_below rows l up i (omega (arith, is)))) (λ more. let same : i ≡ k = omega arith in omega (arith, here, ap (label_at rows) same)) (cases_lt i k);
      high = λ i h within. omega (arith, here, up k i (omega arith) within);
    }

pub past_between : (rows : List Row) → Rising rows → (l i : ℕ) → Sought rows l (Err i) → Past rows l i
past_between rows up l k (absent, is) =
    record {
      few = omega (arith, is, rank_le rows l);
      low = λ i h. omega (arith, rank_below rows l up i (omega (arith, is)));
      high = λ i h within.
          ⊎_elim (λ e. absurd (index_none rows l absent i within (sym e))) (⊎_elim (λ g. g) (λ g. absurd (omega (arith, rank_above rows l up i (omega (arith, is)) within)))) (cases_order l (label_at rows i));
    }
