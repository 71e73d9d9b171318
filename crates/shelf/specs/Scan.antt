-- The first filled row above a mark. Assumes nothing.
use Rattle.std.specs.Prelude.{◌≡◌, ℕ, ◌<◌, List, length, Some, None, Option}
use Rattle.shelf.specs.declared.row.Row.{Row}
use Rattle.shelf.specs.declared.row.State.TheVariants.{Filled}
use Rattle.shelf.specs.Rows.{row_at}

-- a filled row with a label greater than the mark
abbrev pub FilledAbove : (mark : ℕ) → Row → Type 0
FilledAbove mark r = (r.state ≡ Filled) × (mark < r.label)

-- none of the first n rows is such a row
abbrev pub NoneBefore : List Row → (mark n : ℕ) → Type 0
NoneBefore rs mark n = (j : ℕ) → j < n → FilledAbove mark (row_at rs j) → ⊥

-- the first such row of a list and its index, or none where the list has none
abbrev pub NextFilled : List Row → (mark : ℕ) → Option (ℕ × Row) → Type 0
NextFilled rs mark (Some found) =
    (found.0 < length rs) × (row_at rs found.0 ≡ found.1) × FilledAbove mark found.1 × NoneBefore rs mark found.0
NextFilled rs mark None = NoneBefore rs mark (length rs)
