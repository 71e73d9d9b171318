-- What the walks over a stretch of rows find, which take rows while they pass a test and look for the first that is wanted. Assumes nothing.
use Rattle.std.proofs.Common.{◌≡◌, ℕ, ◌+◌, ◌-◌, ◌<◌, ◌≤◌, min, Bool, true, false, T, ltb, List, [], ◌∷◌, length, get_or, take, drop, reverse, Some, None, Option, MatchOption, IsSomeAnd, Decides, sym, refl, ap, ◌∙◌, subst, ⊎_elim, arith, length-take, length-drop}
use Rattle.std.specs.Bool.{MatchBool}
use Rattle.std.specs.List.{AllWithin, HoldsAt, prefix_len}
use Rattle.std.specs.Option.{option_map}
use Rattle.std.specs.Iterator.{YieldsLast}
use Rattle.std.specs.Iterator.Adapters.{rev_source, rev_steps}
use Rattle.std.specs.declared.iter.Rev.{Rev}
use Rattle.std.proofs.lemmas.Bool.{cases_lt, ltb-true, ltb-false}
use Rattle.std.proofs.lemmas.Iterator.{YieldsList}
use Rattle.std.proofs.lemmas.Iterator.Consumers.{YieldsList-from_shown}
use Rattle.std.proofs.lemmas.List.{get_or-take, get_or-drop, get_or-reverse, length-reverse, reverse-append}
use Rattle.std.proofs.lemmas.List.Folds.{length-prefix_len}
use Rattle.std.proofs.lemmas.List.Sums.{prefix_len-le-length, prefix_len_stops, prefix_len_passes}
use Rattle.shelf.specs.declared.row.Row.{Row}
use Rattle.shelf.specs.Rows.{Rising, blank, label_at, row_at}
use Rattle.shelf.specs.Stretch.{stretch}
use Rattle.gap.specs.Labels.{Labels, Sound}
use Rattle.neighbours.specs.Below.{InUse, LedEnd, BelowAt, Occupied}
use Rattle.neighbours.specs.Ranks.{Past}
use Rattle.neighbours.specs.Children.{ChildrenEnd, ChildAt, FirstChild, LastChild}
use Rattle.neighbours.proofs.Children.{no_rows, no_child_below, no_child_past, no_child_both}
use Rattle.neighbours.proofs.Belows.{none_up_to, none_past, none_at_all, found_below}

-- what a closure makes of an optional value
pub mapped : {A B : Type 0} (Made : A → B → Type 0) (f : A → B) → ((x : A) (y : B) → Made x y → y ≡ f x) → (o : Option A) (q : Option B)
    → MatchOption o (q ≡ None) (λ x. IsSomeAnd q (Made x)) → option_map f o ≡ q
mapped Made f by None q e = sym e
mapped Made f by (Some x) None h = absurd h
mapped Made f by (Some x) (Some y) h = ap Some (sym (by x y h))

-- the rows that a walk back comes past
pub rows_back : (s : Rev (List Row)) (ys : List Row) → rev_source s ≡ ys → YieldsList (rev_steps (YieldsLast (λ (rest : List Row). rest))) (λ y. y) s (reverse ys)
rows_back s ys e =
    subst (λ (zs : List Row). YieldsList (rev_steps (YieldsLast (λ (rest : List Row). rest))) (λ y. y) s (reverse zs)) e
    (YieldsList-from_shown _ (λ y. y) (λ (t : Rev (List Row)). reverse (rev_source t)) (λ a b (h, k). ap (λ (zs : List Row). length (reverse zs)) h)
    (λ a x b h. ap reverse h ∙ reverse-append (rev_source b) (x ∷ [])) s)

-- the first row of a list that is wanted, where the rows before it are not
abbrev pub FirstOf : (Wanted : Row → Type 0) → List Row → Option Row → Type 0
FirstOf Wanted rows r =
    MatchOption r (AllWithin (λ x. ¬ (Wanted x)) rows 0 (length rows))
    (λ x. Wanted x × (i : ℕ) × (i < length rows) × HoldsAt (λ y. y ≡ x) rows i × AllWithin (λ y. ¬ (Wanted y)) rows 0 i)

-- the rows at the head of a list that pass a test
abbrev pub passing : (Row → Bool) → List Row → List Row
passing test rows = take (prefix_len test rows) rows

-- a row that is in use, with a lawful label
abbrev pub IsUsed : Labels → Row → Type 0
IsUsed L r = InUse r.state × T (L.lawful r.label)

-- a stretch and its rows
length-stretch : (rows : List Row) (a b : ℕ) → length (stretch rows a b) ≡ min (b - a) (length rows - a)
length-stretch rows a b = length-take (b - a) (drop a rows) ∙ ap (min (b - a)) (length-drop a rows)

stretch_at : (rows : List Row) (a b k : ℕ) → k < b - a → get_or (stretch rows a b) k blank ≡ row_at rows (a + k)
stretch_at rows a b k h = get_or-take (b - a) (drop a rows) k blank h ∙ get_or-drop a rows k blank

-- the rows that are looked at, by their place in a list
passing_at : (test : Row → Bool) (ys : List Row) (k : ℕ) → k < prefix_len test ys → get_or (passing test ys) k blank ≡ get_or ys k blank
passing_at test ys k h = get_or-take (prefix_len test ys) ys k blank h

-- The walk from a row on, while the labels are below a bound.
module _ (rows : List Row) (up : Rising rows) (start bound : ℕ) where
  abbrev pub low : Row → Bool
  low r = ltb r.label bound

  abbrev pub behind : List Row
  behind = stretch rows start (length rows)

  abbrev m : ℕ
  m = prefix_len low behind

  -- how many rows are looked at, and which
  within : (k : ℕ) → k < m → start + k < length rows
  within k h = omega (arith, prefix_len-le-length low behind, length-stretch rows start (length rows))

  seen : (k : ℕ) → k < m → get_or (passing low behind) k blank ≡ row_at rows (start + k)
  seen k h = passing_at low behind k h ∙ stretch_at rows start (length rows) k (omega (arith, within k h))

  seen_low : (k : ℕ) → k < m → label_at rows (start + k) < bound
  seen_low k h =
      let here = stretch_at rows start (length rows) k (omega (arith, within k h)) in
      omega (arith, ltb-true _ _ (prefix_len_passes low behind k blank h), ap (λ (r : Row). r.label) here)

  -- the next is not below the bound
  beyond : start + m < length rows → bound ≤ label_at rows (start + m)
  beyond inside =
      let more : m < length behind = omega (arith, length-stretch rows start (length rows)) in
      let stop = ltb-false _ _ (prefix_len_stops low behind blank more) in
      let here = stretch_at rows start (length rows) m (omega arith) in
      omega (arith, stop, ap (λ (r : Row). r.label) here)

  -- what is found among the rows that are looked at, by its index among all
  module _ (Wanted : Row → Type 0) where
    pub row_found : (x : Row) (i : ℕ) → i < length (passing low behind) → HoldsAt (λ y. y ≡ x) (passing low behind) i
        → (start + i < length rows) × (row_at rows (start + i) ≡ x)
    row_found x i inside here =
        let h : i < m = omega (arith, length-prefix_len low behind) in (within i h, sym (seen i h) ∙ here blank)

    pub none_before : (i : ℕ) → i ≤ length (passing low behind) → AllWithin (λ y. ¬ (Wanted y)) (passing low behind) 0 i
        → (j : ℕ) → start ≤ j → j < start + i → ¬ (Wanted (row_at rows j))
    none_before i le none j from to wanted =
        let h : j - start < m = omega (arith, length-prefix_len low behind) in
        let same : start + (j - start) ≡ j = omega arith in
        none (j - start) blank (omega arith) (omega arith) (subst Wanted (sym (seen (j - start) h ∙ ap (row_at rows) same)) wanted)

module _ (L : Labels) (rows : List Row) (up : Rising rows) where
  abbrev pub IsChild : ℕ → Row → Type 0
  IsChild p r = L.parent r.label ≡ Some p

  pub first_walk : (p bound start : ℕ) → ChildrenEnd L p (Some bound) → (r : Option Row)
      → FirstOf (IsChild p) (passing (low rows up start bound) (behind rows up start bound)) r → FirstChild L rows p start (option_map (λ (x : Row). x.label) r)
  first_walk p bound start below None none =
      let next : ℕ = start + m rows up start bound in
      no_child_both L rows p start next (length rows)
      (λ j from less (has, par).
      none_before rows up start bound (IsChild p) _ (omega arith) none j from (omega (arith, length-prefix_len (low rows up start bound) (behind rows up start bound))) par)
      (⊎_elim (λ inside. no_child_past L rows p up bound next below inside (beyond rows up start bound inside)) (no_rows L rows p next (length rows)) (cases_lt next (length rows)))
  first_walk p bound start below (Some x) (wanted, i, inside, here, none) =
      let (has, is) = row_found rows up start bound (IsChild p) x i inside here in (
        start + i,
        omega arith,
        (has, subst (IsChild p) (sym is) wanted),
        ap (λ (r : Row). r.label) is,
        λ j from to (within, par). none_before rows up start bound (IsChild p) i (omega arith) none j from to par,
      )

  -- The walk back from a row, while the labels are above the parent's.
  module _ (p end : ℕ) where
    abbrev pub high : Row → Bool
    high r = ltb p r.label

    abbrev pub back : List Row
    back = reverse (stretch rows 0 end)

    abbrev n : ℕ
    n = min end (length rows)

    long : length (stretch rows 0 end) ≡ n
    long = omega (arith, length-stretch rows 0 end)

    back_at : (k : ℕ) → k < n → get_or back k blank ≡ row_at rows (n - 1 - k)
    back_at k h =
        let less : k < length (stretch rows 0 end) = omega (arith, long) in
        let same : 0 + (length (stretch rows 0 end) - 1 - k) ≡ n - 1 - k = omega (arith, long) in
        get_or-reverse (stretch rows 0 end) k blank less ∙ stretch_at rows 0 end _ (omega (arith, long)) ∙ ap (row_at rows) same

    -- how many rows are looked at, and which
    abbrev b : ℕ
    b = prefix_len high back

    few : b ≤ n
    few = omega (arith, prefix_len-le-length high back, length-reverse (stretch rows 0 end), long)

    seen_back : (k : ℕ) → k < b → get_or (passing high back) k blank ≡ row_at rows (n - 1 - k)
    seen_back k h = passing_at high back k h ∙ back_at k (omega (arith, few))

    none_behind : (i : ℕ) → i ≤ b → AllWithin (λ y. ¬ (IsChild p y)) (passing high back) 0 i → (j : ℕ) → n - i ≤ j → j < n → ¬ (IsChild p (row_at rows j))
    none_behind i le none j from to child =
        let same : n - 1 - (n - 1 - j) ≡ j = omega arith in
        none (n - 1 - j) blank (omega arith) (omega arith) (subst (IsChild p) (sym (seen_back (n - 1 - j) (omega arith) ∙ ap (row_at rows) same)) child)

    -- the next is not above the parent
    before : b < n → label_at rows (n - 1 - b) ≤ p
    before h =
        let more : b < length back = omega (arith, length-reverse (stretch rows 0 end), long) in
        let stop = ltb-false _ _ (prefix_len_stops high back blank more) in
        omega (arith, stop, ap (λ (r : Row). r.label) (back_at b h))

    pub last_walk : Sound L → (r : Option Row) → FirstOf (IsChild p) (passing high back) r → LastChild L rows p end (option_map (λ (x : Row). x.label) r)
    last_walk S None none =
        let all : length (passing high back) ≡ b = length-prefix_len high back in
        let seen : (j : ℕ) → n - b ≤ j → j < end → ChildAt L rows p j → ⊥ =
        λ j from less (has, par). none_behind b (omega arith) (subst (λ k. AllWithin (λ y. ¬ (IsChild p y)) (passing high back) 0 k) all none) j from (omega arith) par in
        ⊎_elim (λ h. no_child_both L rows p 0 (n - 1 - b + 1) end (no_child_below L rows p up S (n - 1 - b) (omega arith) (before h)) (λ j from. seen j (omega arith)))
        (λ h j from. seen j (omega arith))
        (cases_lt b n)
    last_walk S (Some x) (wanted, i, inside, here, none) =
        let less : i < b = omega (arith, length-prefix_len high back) in
        let is = sym (seen_back i less) ∙ here blank in (
          n - 1 - i,
          omega (arith, few),
          (omega (arith, few), subst (IsChild p) (sym is) wanted),
          ap (λ (r : Row). r.label) is,
          λ j from to (has, par). none_behind i (omega arith) none j (omega arith) (omega arith) par,
        )

-- The walk over what a label leads.
pub below_walk : (L : Labels) (rows : List Row) (up : Rising rows) (x end k : ℕ) → LedEnd L x (Some end) → Past rows x k → (r : Bool)
    → MatchBool r ((i : ℕ) × (i < length (passing (low rows up k end) (behind rows up k end))) × HoldsAt (IsUsed L) (passing (low rows up k end) (behind rows up k end)) i)
    (AllWithin (λ y. ¬ (IsUsed L y)) (passing (low rows up k end) (behind rows up k end)) 0 (length (passing (low rows up k end) (behind rows up k end))))
    → Decides r (Occupied L rows x)
below_walk L rows up x end k ends past true (i, inside, here) =
    let less : i < m rows up k end = omega (arith, length-prefix_len (low rows up k end) (behind rows up k end)) in
    let (used, law) = subst (IsUsed L) (seen rows up k end i less) (here blank) in (
      λ _. found_below L rows x end ends (k + i) (within rows up k end i less) (past.high (k + i) (omega arith) (within rows up k end i less)) (seen_low rows up k end i less) law used,
      λ _. refl,
    )
below_walk L rows up x end k ends past false none = (
  λ e. absurd (cc),
  λ occupied.
      let next : ℕ = k + m rows up k end in
      let rest : (j : ℕ) → j < next → BelowAt L rows x j → ⊥ =
      λ j seen (inside, led, used).
      ⊎_elim (λ h. none_up_to L rows x end ends k past j h (inside, led, used))
      (λ h. none_before rows up k end (IsUsed L) _ (omega arith) none j h (omega (arith, length-prefix_len (low rows up k end) (behind rows up k end))) (used, ((ends (label_at rows j)).0 led).0))
      (cases_lt j k) in
      absurd (⊎_elim (λ inside. none_past L rows x end ends up next inside (beyond rows up k end inside) rest occupied) (λ all. none_at_all L rows x end ends next all rest occupied)
      (cases_lt next (length rows))),
)
