-- What a search among the rows answers under checks, and the row that a label has. Assumes nothing.
use Rattle.std.specs.Prelude.{◌≡◌, ℕ, ◌<◌, List, length, Some, None, Ok, Err, Option, Result}
use Rattle.shelf.specs.declared.row.Row.{Row}
use Rattle.shelf.specs.Rows.{row_at}
use Rattle.laws.specs.Standing.{Stands}
use Rattle.laws.specs.Calls.{Check, Passes, TurnsDown}
use Rattle.places.specs.declared.fault.SheetFault.{SheetFault}
use Rattle.places.specs.Fault.{number_of}

-- all checks hold and the answer is as it should be, or the first that does not hold has the refusal's number
abbrev pub Checked : {X : Type 0} → List Check → (X → Type 0) → Result X SheetFault → Type 0
Checked checks right (Ok x) = Passes checks × right x
Checked checks right (Err fault) = TurnsDown checks (number_of fault)

-- r is the row at the index i, and has the label x
pub record IsRow (rows : List Row) (x i : ℕ) (r : Row) : Type 0 where
  pub within : i < length rows
  pub here : row_at rows i ≡ r
  pub label : r.label ≡ x

-- the row with the label x and its index, or none where no row has it
abbrev pub RowOf : List Row → (x : ℕ) → Option (ℕ × Row) → Type 0
RowOf rows x None = ¬ (Stands rows x)
RowOf rows x (Some found) = IsRow rows x found.0 found.1
