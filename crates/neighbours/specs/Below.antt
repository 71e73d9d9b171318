-- What stands below a label among the rows of a shelf. Assumes nothing.
use Rattle.std.specs.Prelude.{◌≡◌, ℕ, ◌<◌, T, ◌⊎◌, List, length, Some, None, Option}
use Rattle.shelf.specs.declared.row.Row.{Row}
use Rattle.shelf.specs.declared.row.State.{State}
use Rattle.shelf.specs.declared.row.State.TheVariants.{Opened, Filled}
use Rattle.shelf.specs.Rows.{row_at}
use Rattle.label.specs.Theorems.{Exactly}
use Rattle.gap.specs.Labels.{Labels}

-- the labels that x leads are the lawful ones with a greater word below the end, or it leads none
abbrev pub LedEnd : Labels → (x : ℕ) → Option ℕ → Type 0
LedEnd L x None = (y : ℕ) → T (L.leads x y) → ⊥
LedEnd L x (Some end) = (y : ℕ) → Exactly (T (L.leads x y)) (T (L.lawful y) × (x < y) × (y < end))

-- a row that is in use: filled or opened
abbrev pub InUse : State → Type 0
InUse s = (s ≡ Filled) ⊎ (s ≡ Opened)

-- the row at i is in use, and x leads its label
abbrev pub BelowAt : Labels → List Row → (x i : ℕ) → Type 0
BelowAt L rs x i = (i < length rs) × T (L.leads x (row_at rs i).label) × InUse (row_at rs i).state

-- a row in use stands below x
abbrev pub Occupied : Labels → List Row → (x : ℕ) → Type 0
Occupied L rs x = (i : ℕ) × BelowAt L rs x i
