-- What put and set make of a list of rows, and when they are refused. Assumes nothing.
use Rattle.std.specs.Prelude.{◌≡◌, ℕ, ◌<◌, ◌≤◌, List, length, Ok, Err, Result, slice_set}
use Rattle.std.specs.List.{insert}
use Rattle.shelf.specs.declared.row.Row.{Row}
use Rattle.shelf.specs.declared.row.State.{State}
use Rattle.shelf.specs.declared.fault.ShelfFault.{ShelfFault}
use Rattle.shelf.specs.declared.fault.ShelfFault.TheVariants.{Held, Full, Index}
use Rattle.shelf.specs.Rows.{restated, row_at, rank_of, Present, Absent}

-- the list with the row set in by its label: behind the rows with a smaller one, and before the others
abbrev pub with_row : List Row → Row → List Row
with_row rs r = insert rs (rank_of rs r.label) r

-- put of r on a shelf with the rows old and room for cap, by its answer: what the rows are then
abbrev pub Put : (old : List Row) (cap : ℕ) → Row → Result (Unit {0}) ShelfFault → (new : List Row) → Type 0
Put old cap r (Ok done) new = Absent old r.label × (length old < cap) × (new ≡ with_row old r)
Put old cap r (Err Held) new = Present old r.label × (new ≡ old)
Put old cap r (Err Full) new = Absent old r.label × (cap ≤ length old) × (new ≡ old)
Put old cap r (Err Index) new = ⊥

-- set of the row at i to a state and a card word, by its answer
abbrev pub Set : (old : List Row) (i : ℕ) → State → (card : ℕ) → Result (Unit {0}) ShelfFault → (new : List Row) → Type 0
Set old i s c (Ok done) new = (i < length old) × (new ≡ slice_set old i (restated (row_at old i) s c))
Set old i s c (Err Held) new = ⊥
Set old i s c (Err Full) new = ⊥
Set old i s c (Err Index) new = (length old ≤ i) × (new ≡ old)

-- a fact that holds where a change was turned down
abbrev pub IfRefused : Result (Unit {0}) ShelfFault → Type 0 → Type 0
IfRefused (Ok done) P = Unit {0}
IfRefused (Err fault) P = P
