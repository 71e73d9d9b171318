-- The rows of a shelf as the calls on a sheet see them: which labels stand there and how, and how a row is made and changed. Assumes nothing.
use Rattle.std.specs.Prelude.{◌≡◌, ℕ, Bool, true, false, cond, ◌⊎◌, List, [], ◌∷◌, ◌==◌}
pub use Rattle.shelf.specs.declared.row.Row.{Row}
pub use Rattle.shelf.specs.declared.row.State.{State}
pub use Rattle.shelf.specs.declared.row.State.TheVariants.{Opened, Filled, Struck}
use Rattle.shelf.specs.Rows.{row_of, restated}

-- a row of the list
abbrev pub Has : List Row → Row → Type 0
Has [] r = ⊥
Has (s ∷ rows) r = (s ≡ r) ⊎ Has rows r

-- some row has the label x
abbrev pub Stands : List Row → ℕ → Type 0
Stands rows x = (r : Row) × Has rows r × (r.label ≡ x)

-- some row has the label x and this state
abbrev pub StandsAs : State → List Row → ℕ → Type 0
StandsAs st rows x = (r : Row) × Has rows r × (r.label ≡ x) × (r.state ≡ st)

abbrev pub is_filled : State → Bool
is_filled Opened = false
is_filled Filled = true
is_filled Struck = false

-- a row that is filled with a card
abbrev pub filled_row : (label card : ℕ) → Row
filled_row x c = row_of x Filled c

-- a row that is opened: its card is still to come
abbrev pub opened_row : (label : ℕ) → Row
opened_row x = row_of x Opened 0

-- the row of label x gets another state and card word, and any other row stays
abbrev pub revised : (label : ℕ) → State → (card : ℕ) → Row → Row
revised x st c r = cond (r.label == x) (restated r st c) r

abbrev pub revise : (label : ℕ) → State → (card : ℕ) → List Row → List Row
revise x st c [] = []
revise x st c (r ∷ rows) = revised x st c r ∷ revise x st c rows
