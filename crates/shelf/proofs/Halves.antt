-- What is known of a label's place while a search halves the rows. Assumes nothing.
use Rattle.std.proofs.Common.{◌≡◌, ℕ, ◌<◌, ◌≤◌, List, length, arith}
use Rattle.shelf.specs.declared.row.Row.{Row}
use Rattle.shelf.specs.Rows.{label_at, Absent, rank_of}
use Rattle.shelf.proofs.Ranks.{absent_is}

-- the rows before low have labels below l, and those from high on have labels above it
pub record Between (rs : List Row) (l low high : ℕ) : Type 0 where
  pub within : high ≤ length rs
  pub order : low ≤ high
  pub below : (i : ℕ) → i < low → label_at rs i < l
  pub above : (i : ℕ) → high ≤ i → i < length rs → l < label_at rs i

pub between_end : (rs : List Row) (l low high : ℕ) → Between rs l low high → high ≤ low → Absent rs l × (low ≡ rank_of rs l)
between_end rs l low high b h = absent_is rs l low (omega (arith, b.within, b.order)) b.below (λ i p q. b.above i (omega arith) q)
