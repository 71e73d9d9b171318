-- The rows of a list from one index up to another. Assumes nothing.
use Rattle.std.specs.Prelude.{ℕ, ◌-◌, List, take, drop}
use Rattle.shelf.specs.declared.row.Row.{Row}

-- the rows with an index from start on and below end, in order
abbrev pub stretch : List Row → (start end : ℕ) → List Row
stretch rs start end = take (end - start) (drop start rs)
