-- The numbered rows that a scan for a filled row above a mark goes through. Assumes nothing.
use Rattle.std.proofs.Common.{◌≡◌, ℕ, ◌+◌, ◌-◌, ◌<◌, ◌≤◌, List, length, drop, get_or, Some, None, Option, MatchOption, sym, refl, ◌∙◌, ⊎_elim, arith}
use Rattle.std.specs.List.{range_with_len, zip, AllWithin, HoldsAt}
use Rattle.std.proofs.lemmas.Bool.{cases_lt}
use Rattle.std.proofs.lemmas.List.{get_or-drop, get_or-take, length-drop, length-take}
use Rattle.std.proofs.lemmas.List.FromFn.{length-range_with_len, get_or-range_with_len}
use Rattle.std.proofs.lemmas.Slice.Zip.{length-zip, get_or-zip}
use Rattle.shelf.specs.declared.row.Row.{Row}
use Rattle.shelf.specs.Rows.{blank, row_at, Rising, rank_of}
use Rattle.shelf.specs.Scan.{FilledAbove, NoneBefore, NextFilled}
use Rattle.shelf.specs.Stretch.{stretch}
use Rattle.shelf.proofs.Ranks.{rank_le, rank_below}

-- the rows from k on, each with its index
abbrev pub numbered : List Row → (k : ℕ) → List (ℕ × Row)
numbered rs k = zip (range_with_len k (length rs - k)) (stretch rs k (length rs))

length-stretch : (rs : List Row) (k : ℕ) → length (stretch rs k (length rs)) ≡ length rs - k
length-stretch rs k = simp (length-take, length-drop) (omega arith)

length-numbered : (rs : List Row) (k : ℕ) → length (numbered rs k) ≡ length rs - k
length-numbered rs k =
    omega (arith, length-zip (range_with_len k (length rs - k)) (stretch rs k (length rs)), length-range_with_len k (length rs - k), length-stretch rs k)

numbered_at : (rs : List Row) (k i : ℕ) → k + i < length rs → get_or (numbered rs k) i (0, blank) ≡ (k + i, row_at rs (k + i))
numbered_at rs k i h =
    let index = get_or-range_with_len k (length rs - k) i 0 (omega arith) in
    let row = get_or-take (length rs - k) (drop k rs) i blank (omega arith) ∙ get_or-drop k rs i blank in
    get_or-zip (range_with_len k (length rs - k)) (stretch rs k (length rs)) i (0, blank)
    (omega (arith, length-range_with_len k (length rs - k))) (omega (arith, length-stretch rs k))
    ∙ rw (index, row) refl

-- the first of them that is filled and above the mark, where they begin at the mark's rank
pub first_is_next : (rs : List Row) (mark k : ℕ) (r : Option (ℕ × Row)) → Rising rs → k ≡ rank_of rs mark
    → MatchOption r (AllWithin (λ p. FilledAbove mark p.1 → ⊥) (numbered rs k) 0 (length (numbered rs k)))
    (λ x. FilledAbove mark x.1 × (i : ℕ) × (i < length (numbered rs k)) × HoldsAt (λ y. y ≡ x) (numbered rs k) i
    × AllWithin (λ p. FilledAbove mark p.1 → ⊥) (numbered rs k) 0 i)
    → NextFilled rs mark r
first_is_next rs mark k r up e = by r where
  none : (n : ℕ) → k + n ≤ length rs → AllWithin (λ p. FilledAbove mark p.1 → ⊥) (numbered rs k) 0 n → NoneBefore rs mark (k + n)
  none n fits h j l found =
      ⊎_elim (λ low. let under = rank_below rs mark up j (omega arith) in omega (arith, found.1))
      (λ high. let at = numbered_at rs k (j - k) (omega arith) in
      let here : k + (j - k) ≡ j = omega arith in
      h (j - k) (0, blank) (omega arith) (omega arith) (rw at (rw here found)))
      (cases_lt j k)

  by : (o : Option (ℕ × Row))
      → MatchOption o (AllWithin (λ p. FilledAbove mark p.1 → ⊥) (numbered rs k) 0 (length (numbered rs k)))
      (λ x. FilledAbove mark x.1 × (i : ℕ) × (i < length (numbered rs k)) × HoldsAt (λ y. y ≡ x) (numbered rs k) i
      × AllWithin (λ p. FilledAbove mark p.1 → ⊥) (numbered rs k) 0 i)
      → NextFilled rs mark o
  by None h = rw (← whole) (none (length rs - k) (omega (arith, whole)) (λ i d p q. h i d p (omega (arith, length-numbered rs k)))) where
    whole : k + (length rs - k) ≡ length rs
    whole = omega (arith, e, rank_le rs mark)
  by (Some x) h =
      let fits : k + h.1 < length rs = omega (arith, h.2, length-numbered rs k) in
      let at = sym (h.3 (0, blank)) ∙ numbered_at rs k h.1 fits in
      rw at (fits, refl, rw at at h.0, none h.1 (omega arith) h.4)
