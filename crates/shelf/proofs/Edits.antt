-- What put and set make of a list whose labels rise. Assumes nothing.
use Rattle.std.proofs.Common.{◌≡◌, ℕ, ◌+◌, ◌<◌, ◌≤◌, List, length, get_or, set, ap, ◌∙◌, ⊎_elim, arith}
use Rattle.std.specs.List.{insert}
use Rattle.std.proofs.lemmas.Bool.{cases_eq}
use Rattle.std.proofs.lemmas.List.{length-set, get_or-set_same, get_or-set_other}
use Rattle.std.proofs.lemmas.List.Edits.{length-insert}
use Rattle.shelf.specs.declared.row.Row.{Row}
use Rattle.shelf.specs.Rows.{blank, label_at, Rising, rank_of, Absent}
use Rattle.shelf.specs.Changes.{with_row}
use Rattle.shelf.proofs.Inserted.{At, low, here, high, at}
use Rattle.shelf.proofs.Ranks.{cases_eq_lt, rank_le, rank_below, rank_above, index_none}

pub length_with_row : (rs : List Row) (r : Row) → length (with_row rs r) ≡ length rs + 1
length_with_row rs r = length-insert rs (rank_of rs r.label) r (rank_le rs r.label)

-- an insertion where the first n labels are below r's and the others above
module _ (rs : List Row) (n : ℕ) (r : Row) (le : n ≤ length rs) (up : Rising rs) (below : (i : ℕ) → i < n → label_at rs i < r.label)
    (above : (i : ℕ) → n ≤ i → i < length rs → r.label < label_at rs i) where
  ordered : (i j : ℕ) → i < j → j < length rs + 1 → At rs n r i blank → At rs n r j blank
      → (get_or (insert rs n r) i blank).label < (get_or (insert rs n r) j blank).label
  ordered i j h k (low p e) (low q f) = rw (e, f) (up i j h (omega arith))
  ordered i j h k (low p e) (here q f) = rw (e, f) (below i p)
  ordered i j h k (low p e) (high b q s f) = rw (e, f) (up i b (omega arith) (omega arith))
  ordered i j h k (here p e) (low q f) = omega arith
  ordered i j h k (here p e) (here q f) = omega arith
  ordered i j h k (here p e) (high b q s f) = rw (e, f) (above b q (omega arith))
  ordered i j h k (high a p s e) (low q f) = omega arith
  ordered i j h k (high a p s e) (here q f) = omega arith
  ordered i j h k (high a p s e) (high b q t f) = rw (e, f) (up a b (omega arith) (omega arith))

pub rising_with_row : (rs : List Row) (r : Row) → Rising rs → Absent rs r.label → Rising (with_row rs r)
rising_with_row rs r up absent i j h k =
    let more = length_with_row rs r in
    let n = rank_of rs r.label in
    let le = rank_le rs r.label in
    ordered rs n r le up (rank_below rs r.label up) above i j h (omega arith) (at rs n r i blank le) (at rs n r j blank le) where
      above : (i : ℕ) → rank_of rs r.label ≤ i → i < length rs → r.label < label_at rs i
      above i p q =
          ⊎_elim (λ same. absurd (index_none rs r.label absent i q (omega arith))) (λ lt. lt)
          (cases_eq_lt r.label (label_at rs i) (rank_above rs r.label up i p q))

-- a row in the place of one with its label
pub rising_set : (rs : List Row) (i : ℕ) (r : Row) → r.label ≡ label_at rs i → Rising rs → Rising (set rs i r)
rising_set rs i r same up a b l k =
    let n = length-set rs i r in
    rw (label_set a (omega arith), label_set b (omega arith)) (up a b l (omega arith)) where
      label_set : (k : ℕ) → k < length rs → label_at (set rs i r) k ≡ label_at rs k
      label_set k h =
          ⊎_elim (λ e. rw e (ap (λ x. x.label) (get_or-set_same rs i r blank (omega arith)) ∙ same))
          (λ ne. ap (λ x. x.label) (get_or-set_other rs i k r blank ne)) (cases_eq k i)
