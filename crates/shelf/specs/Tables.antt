-- What an ordered table means: the first rows of its memory. Assumes nothing.
use Rattle.std.specs.Prelude.{ℕ, ◌≤◌, min, List, length, take}
use Rattle.std.proofs.Common.{arith}
use Rattle.std.proofs.lemmas.List.{length-take}
use Rattle.shelf.specs.declared.row.Row.{Row}
use Rattle.shelf.specs.declared.table.OrderedTable.{OrderedTable}
use Rattle.shelf.specs.Rows.{most_rows, LawfulRows}

abbrev pub table_rows : OrderedTable → List Row
table_rows t = take t.len t.slots.now

abbrev pub table_capacity : OrderedTable → ℕ
table_capacity t = min (length t.slots.now) most_rows

-- what every table keeps
pub table_lawful : (t : OrderedTable) → LawfulRows (table_rows t)
table_lawful t = record {
  few = let h = t.few in simp length-take (omega arith);
  rising = t.rising;
}

pub table_bounded : (t : OrderedTable) → table_capacity t ≤ most_rows
table_bounded t = omega arith
