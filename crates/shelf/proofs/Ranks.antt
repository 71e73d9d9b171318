-- What a rank and an index say of a list of rows whose labels rise. Assumes nothing.
use Rattle.std.proofs.Common.{◌≡◌, ℕ, zero, suc, ◌<◌, ◌≤◌, true, false, eqb, ltb, ◌⊎◌, List, [], ◌∷◌, length, get_or, Some, None, Ok, Err, Option, Result, Less, Equal, Greater, sym, refl, ap, ◌∙◌, subst, inl, inr, ⊎_elim, arith}
use Rattle.std.proofs.lemmas.Bool.{cases_Bool, ltb-true, ltb-false, lt-ltb, le-ltb, eqb-true, eq-eqb, ne_eqb, cond_both, cases_lt, cases_order}
use Rattle.std.specs.List.Sorted.{IsSearchInRange, IsBinarySearchResult, IsPartitionPoint}
use Rattle.std.specs.Ordering.{nat_cmp, ordering_index}
use borrow.Author.Tests.{tests}
use Rattle.std.proofs.lemmas.List.{get_or_default}
use Rattle.shelf.specs.declared.row.Row.{Row}
use Rattle.shelf.specs.Rows.{blank, label_at, Rising, RowAt, rank_of, one_on, index_of, Absent, Sought}

pub cases_eq_lt : (a b : ℕ) → a ≤ b → (a ≡ b) ⊎ (a < b)
cases_eq_lt a b h = ⊎_elim inl (⊎_elim inr (λ k. inl (omega arith))) (cases_order a b)

pub rising_tail : (r : Row) (rs : List Row) → Rising (r ∷ rs) → Rising rs
rising_tail r rs up i j h k = up (suc i) (suc j) (omega arith) (omega arith)

pub rising_head : (r : Row) (rs : List Row) → Rising (r ∷ rs) → (j : ℕ) → j < length rs → r.label < label_at rs j
rising_head r rs up j k = up 0 (suc j) (omega arith) (omega arith)

pub rank_le : (rs : List Row) (l : ℕ) → rank_of rs l ≤ length rs
rank_le [] l = omega arith
rank_le (r ∷ rs) l =
    let h = rank_le rs l in
    cond_both (ltb r.label l) (suc (rank_of rs l)) (rank_of rs l) (λ n. n ≤ suc (length rs)) (λ e. omega arith) (λ e. omega arith)

-- a list whose labels are all l or more has none below l
rank_none : (rs : List Row) (l : ℕ) → ((i : ℕ) → i < length rs → l ≤ label_at rs i) → rank_of rs l ≡ 0
rank_none [] l up = refl
rank_none (r ∷ rs) l up = rw (le-ltb r.label l (up 0 (omega arith))) (rank_none rs l (λ i h. up (suc i) (omega arith)))

-- k is the rank where the first k labels are below l and the others are not
pub rank_is : (rs : List Row) (l k : ℕ) → k ≤ length rs
    → ((i : ℕ) → i < k → label_at rs i < l)
    → ((i : ℕ) → k ≤ i → i < length rs → l ≤ label_at rs i)
    → rank_of rs l ≡ k
rank_is [] l k le low high = omega arith
rank_is (r ∷ rs) l zero le low high = rank_none (r ∷ rs) l (λ i h. high i (omega arith) h)
rank_is (r ∷ rs) l (suc k) le low high =
    rw (lt-ltb r.label l (low 0 (omega arith)))
    (ap suc (rank_is rs l k (omega arith) (λ i h. low (suc i) (omega arith)) (λ i h n. high (suc i) (omega arith) (omega arith))))

-- the rank on a rising list counts the head, or is 0
rank_step : (r : Row) (rs : List Row) (l : ℕ) → Rising (r ∷ rs)
    → ((r.label < l) × (rank_of (r ∷ rs) l ≡ suc (rank_of rs l))) ⊎ ((l ≤ r.label) × (rank_of (r ∷ rs) l ≡ 0))
rank_step r rs l up = ⊎_elim (λ e. inl (ltb-true r.label l e, rw e)) (λ e. inr (ltb-false r.label l e, none e)) (cases_Bool (ltb r.label l)) where
  none : ltb r.label l ≡ false → rank_of (r ∷ rs) l ≡ 0
  none e =
      let low = ltb-false r.label l e in
      rw e (rank_none rs l (λ j k. let high = rising_head r rs up j k in omega arith))

-- on a rising list the labels before the rank are below l ..
pub rank_below : (rs : List Row) (l : ℕ) → Rising rs → (i : ℕ) → i < rank_of rs l → label_at rs i < l
rank_below [] l up i h = omega arith
rank_below (r ∷ rs) l up zero h = ⊎_elim (λ p. p.0) (λ p. omega arith) (rank_step r rs l up)
rank_below (r ∷ rs) l up (suc i) h =
    ⊎_elim (λ p. rank_below rs l (rising_tail r rs up) i (omega arith)) (λ p. omega arith) (rank_step r rs l up)

-- .. and the others are not
pub rank_above : (rs : List Row) (l : ℕ) → Rising rs → (i : ℕ) → rank_of rs l ≤ i → i < length rs → l ≤ label_at rs i
rank_above [] l up i h k = omega arith
rank_above (r ∷ rs) l up zero h k = ⊎_elim (λ p. omega arith) (λ p. p.0) (rank_step r rs l up)
rank_above (r ∷ rs) l up (suc i) h k =
    ⊎_elim (λ p. rank_above rs l (rising_tail r rs up) i (omega arith) (omega arith))
    (λ p. let high = rising_head r rs up i (omega arith) in omega arith) (rank_step r rs l up)

one_on_some : (o : Option ℕ) (i : ℕ) → one_on o ≡ Some i → (k : ℕ) × (o ≡ Some k) × (i ≡ suc k)
one_on_some None i e = absurd (grind arith)
one_on_some (Some k) i e = (k, refl, cc)

one_on_none : (o : Option ℕ) → one_on o ≡ None → o ≡ None
one_on_none None e = refl
one_on_none (Some k) e = cc

-- an index that is answered is that of a row with the label ..
pub index_some : (rs : List Row) (l i : ℕ) → index_of rs l ≡ Some i → (i < length rs) × (label_at rs i ≡ l)
index_some [] l i e = let z : ◌≡◌ {A = ℕ} 0 1 = cc in omega arith
index_some (r ∷ rs) l i e = ⊎_elim here (there (λ k. index_some rs l k)) (cases_Bool (eqb r.label l)) where
  here : eqb r.label l ≡ true → (i < length (r ∷ rs)) × (label_at (r ∷ rs) i ≡ l)
  here t = let same = eqb-true r.label l t in let e' = rw t at e in let z : i ≡ 0 = cc in rw z (omega arith, same)

  there : ((k : ℕ) → index_of rs l ≡ Some k → (k < length rs) × (label_at rs k ≡ l))
      → eqb r.label l ≡ false → (i < length (r ∷ rs)) × (label_at (r ∷ rs) i ≡ l)
  there again f =
      let p = one_on_some (index_of rs l) i (rw f at e) in
      let q = again p.0 p.1 in
      rw p.2 (omega arith, q.1)

-- .. and without one no row has it
pub index_none : (rs : List Row) (l : ℕ) → Absent rs l → (i : ℕ) → i < length rs → label_at rs i ≡ l → ⊥
index_none [] l e i h same = omega arith
index_none (r ∷ rs) l e zero h same =
    let e' = rw (eq-eqb r.label l same) at e in let z : ◌≡◌ {A = ℕ} 0 1 = cc in omega arith
index_none (r ∷ rs) l e (suc i) h same =
    ⊎_elim (λ t. let e' = rw t at e in let z : ◌≡◌ {A = ℕ} 0 1 = cc in omega arith)
    (λ f. index_none rs l (one_on_none (index_of rs l) (rw f at e)) i (omega arith) same) (cases_Bool (eqb r.label l))

pub index_is : (rs : List Row) (l : ℕ) → Rising rs → (i : ℕ) → i < length rs → label_at rs i ≡ l → index_of rs l ≡ Some i
index_is [] l up i h same = absurd (omega arith)
index_is (r ∷ rs) l up zero h same = rw (eq-eqb r.label l same) refl
index_is (r ∷ rs) l up (suc i) h same =
    let low = rising_head r rs up i (omega arith) in
    rw (ne_eqb r.label l (λ e. omega arith)) (ap one_on (index_is rs l (rising_tail r rs up) i (omega arith) same))

pub index_is_none : (rs : List Row) (l : ℕ) → ((i : ℕ) → i < length rs → label_at rs i ≡ l → ⊥) → Absent rs l
index_is_none [] l no_row = refl
index_is_none (r ∷ rs) l no_row =
    rw (ne_eqb r.label l (λ e. no_row 0 (omega arith) e)) (ap one_on (index_is_none rs l (λ i h. no_row (suc i) (omega arith))))

-- l is absent, and k its rank, where the first k labels are below l and the others above
pub absent_is : (rs : List Row) (l k : ℕ) → k ≤ length rs
    → ((i : ℕ) → i < k → label_at rs i < l)
    → ((i : ℕ) → k ≤ i → i < length rs → l < label_at rs i)
    → Absent rs l × (k ≡ rank_of rs l)
absent_is rs l k le low high = (
  index_is_none rs l (λ i h same. ⊎_elim (λ p. let u = low i p in omega arith) (λ p. let u = high i p h in omega arith) (cases_lt i k)),
  sym (rank_is rs l k le low (λ i p h. let u = high i p h in omega arith)),
)

-- a row with the label l, at k, is the one that is found
pub present_is : (rs : List Row) (l k : ℕ) → Rising rs → k < length rs → label_at rs k ≡ l → (index_of rs l ≡ Some k) × (k ≡ rank_of rs l)
present_is rs l k up h same = (
  index_is rs l up k h same,
  sym (rank_is rs l k (omega arith) (λ i p. let u = up i k p h in omega arith)
      (λ i p q. ⊎_elim (λ e. subst (λ (n : ℕ). l ≤ label_at rs n) e (omega arith)) (λ lt. let u = up k i lt q in omega arith) (cases_eq_lt k i p))),
)

pub present_row : (rs : List Row) (l k : ℕ) (r : Row) → Rising rs → RowAt rs k (Some r) → r.label ≡ l → (index_of rs l ≡ Some k) × (k ≡ rank_of rs l)
present_row rs l k r up (h, here) same = present_is rs l k up h (ap (λ x. x.label) here ∙ same)

-- what the answers of `cmp` at two numbers say
pub equal_same : (a b : ℕ) → nat_cmp a b ≡ Equal → a ≡ b
equal_same a b e = grind (arith, tests)

pub less_below : (a b : ℕ) → nat_cmp a b ≡ Less → a < b
less_below a b e = grind (arith, tests)

pub greater_above : (a b : ℕ) → nat_cmp a b ≡ Greater → b < a
greater_above a b e = grind (arith, tests)

-- what a binary search for the label l answers
pub searched : (rs : List Row) (l : ℕ) (r : Result ℕ ℕ) → Rising rs → IsSearchInRange r (length rs) → IsBinarySearchResult (λ y. nat_cmp y.label l) rs r → Sought rs l r
searched rs l (Ok i) up within at = present_is rs l i up within (equal_same _ _ (at blank))
searched rs l (Err i) up within parted =
    absent_is rs l i within (λ k h. less_below _ _ (parts.0 k blank (omega arith) h)) (λ k p q. greater_above _ _ (parts.1 k blank p q)) where
      higher : (a b : ℕ) → a ≤ b → ordering_index (nat_cmp a l) ≤ ordering_index (nat_cmp b l)
      higher a b le = grind (arith, tests)

      labels_rise : (i j : ℕ) (d : Row) → i ≤ j → j < length rs → (get_or rs i d).label ≤ (get_or rs j d).label
      labels_rise i j d le h =
          ⊎_elim (λ e. ap_le e) (λ lt. let lower = up i j lt h in omega (arith, lower, at_label i d (omega arith), at_label j d h)) (cases_eq_lt i j le) where
            at_label : (k : ℕ) (d : Row) → k < length rs → (get_or rs k d).label ≡ label_at rs k
            at_label k d h = ap (λ r. r.label) (get_or_default rs k d blank h)

            ap_le : i ≡ j → (get_or rs i d).label ≤ (get_or rs j d).label
            ap_le e = rw e (omega arith)

      parts : IsPartitionPoint (λ y. nat_cmp y.label l ≡ Less) (λ y. nat_cmp y.label l ≡ Greater) rs i
      parts = parted (λ i j d le h. higher _ _ (labels_rise i j d le h))
