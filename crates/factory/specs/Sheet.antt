-- What makes rows a whole sheet, under the plan whose widths are all 4. Assumes nothing.
use Rattle.std.specs.Prelude.{◌≡◌, ℕ, ◌<◌, List, length, Some, None, Option}
use Rattle.label.specs.Label.{Label, end, parent, word, word_bits}
use Rattle.label.specs.Theorems.{Of}
use Rattle.shelf.specs.declared.row.Row.{Row}
use Rattle.shelf.specs.declared.row.State.TheVariants.{Filled}
use Rattle.shelf.specs.Rows.{row_at, label_at, Present}

abbrev pub all_four : ℕ → ℕ → ℕ
all_four level position = 4

-- the word of a label
abbrev pub word_of : Label → ℕ
word_of c = word all_four word_bits c

-- a label, by its parent: the head, which is the level 1 alone, or one whose parent has a row
abbrev pub Rooted : List Row → Label → Option Label → Type 0
Rooted rs c None = c ≡ end 1
Rooted rs c (Some p) = Present rs (word_of p)

-- there are rows, each is filled, and each has a lawful label with its place in one tree
pub record WholeSheet (rs : List Row) : Type 0 where
  pub some : 0 < length rs
  pub filled : (i : ℕ) → i < length rs → (row_at rs i).state ≡ Filled
  pub rooted : (i : ℕ) → i < length rs → (c : Label) × Of all_four word_bits c (label_at rs i) × Rooted rs c (parent c)
