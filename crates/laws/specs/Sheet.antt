-- A sheet, the calls on it and their answers. Assumes nothing.
use Rattle.std.specs.Prelude.{ℕ, Bool, List, Option}
pub use Rattle.laws.specs.declared.phase.Phase.{Phase}
pub use Rattle.laws.specs.declared.phase.Phase.TheVariants.{Resting, Firing, Paused}
pub use Rattle.laws.specs.declared.place.Where.{Where}
pub use Rattle.laws.specs.declared.place.Where.TheVariants.{FirstUnder, LastUnder, Before, After}
use Rattle.laws.specs.Standing.{Row, State}

pub record Sheet : Type 0 where
  -- how many rows the shelf takes, and the rows that it has
  pub capacity : ℕ
  pub rows : List Row
  -- whether the head has been put
  pub laid : Bool
  -- whether the sheet rests, fires or is paused
  pub phase : Phase
  -- the mark: the label of the row that next answered last in this firing, 0 before any
  pub mark : ℕ

abbrev pub with_rows : List Row → Sheet → Sheet
with_rows rows m = record { capacity = m.capacity; rows = rows; laid = m.laid; phase = m.phase; mark = m.mark }

abbrev pub with_firing : Phase → (mark : ℕ) → Sheet → Sheet
with_firing phase mark m = record { capacity = m.capacity; rows = m.rows; laid = m.laid; phase = phase; mark = mark }

-- A card stands here as its word, a note as the label that it tells, and the permit as what it reads.
pub data Call : Type 0 where
  -- the head's card
  Lay : ℕ → Call
  -- a place, by its label, and where the new place is wanted
  Open : ℕ → Where → Call
  -- a note and a card
  Fill : ℕ → ℕ → Call
  -- a note
  GiveUp : ℕ → Call
  -- a place, by its label
  Strike : ℕ → Call
  Read : ℕ → Call
  -- the permit
  Start : Bool → Call
  Next Pause Resume Stop : Call

pub data Answer : Type 0 where
  -- turned down, with the number of the refusal
  Refused : ℕ → Answer
  -- a label given out: the head's by lay, and the new place's by open, in a note
  Given : ℕ → Answer
  Done : Answer
  -- what a read finds: the state, and the card of a filled place
  Found : State → Option ℕ → Answer
  -- what next answers: a label and the card to obey, or the end
  Obey : ℕ → ℕ → Answer
  End : Answer
