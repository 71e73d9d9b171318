-- The numbers of the refusals that the calls on a sheet are answered with. Assumes nothing.
use Rattle.std.specs.Prelude.{ℕ}
use Rattle.shelf.specs.Fault.{number_of}
use Rattle.shelf.specs.declared.fault.ShelfFault.TheVariants.{Full}

-- the shelf has no room for one more row
abbrev pub FULL : ℕ
FULL = number_of Full

-- the sheet is not laid
abbrev pub UNLAID : ℕ
UNLAID = 6

-- the sheet is laid, or its shelf has rows
abbrev pub LAID : ℕ
LAID = 7

-- no row has the label, or its word is no lawful label's
abbrev pub UNKNOWN : ℕ
UNKNOWN = 8

-- nothing comes before or after the head, and the head is not struck
abbrev pub HEAD : ℕ
HEAD = 9

-- the parent of the new place, or the place to strike, is not filled
abbrev pub UNFILLED : ℕ
UNFILLED = 10

-- a filled or opened place stands below
abbrev pub NOT_BARE : ℕ
NOT_BARE = 11

-- no label is left for a new place there
abbrev pub NO_PLACE : ℕ
NO_PLACE = 12

-- no opened row has the note's label
abbrev pub NOT_OPEN : ℕ
NOT_OPEN = 13

-- a sheet that rests, fires or is paused does not allow the call
abbrev pub TURN : ℕ
TURN = 14

-- the permit reads off
abbrev pub PERMIT : ℕ
PERMIT = 15

-- the word in the row is no card's
abbrev pub CARD : ℕ
CARD = 21
