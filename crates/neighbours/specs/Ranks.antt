-- Rows up to a label. Assumes nothing.
use Rattle.std.specs.Prelude.{ℕ, ◌<◌, ◌≤◌, List, length}
use Rattle.shelf.specs.declared.row.Row.{Row}
use Rattle.shelf.specs.Rows.{label_at}

-- k rows have a label up to l: they are the first
pub record Past (rs : List Row) (l k : ℕ) : Type 0 where
  pub few : k ≤ length rs
  pub low : (i : ℕ) → i < k → label_at rs i ≤ l
  pub high : (i : ℕ) → k ≤ i → i < length rs → l < label_at rs i
