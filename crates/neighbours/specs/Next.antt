-- The neighbours of a new place, as a pair. Assumes nothing.
use Rattle.std.specs.Prelude.{ℕ, List, Option}
use Rattle.shelf.specs.declared.row.Row.{Row}
use Rattle.gap.specs.Labels.{Labels}
use Rattle.laws.specs.declared.place.Where.{Where}
use Rattle.laws.specs.Openings.{NextLower, NextUpper}

-- the next lower and the next upper sibling of a place to be opened at the label a, under the parent p
abbrev pub Neighbours : Labels → List Row → Where → (a p : ℕ) → Option ℕ × Option ℕ → Type 0
Neighbours L rs w a p (lower, upper) = NextLower L rs w a p lower × NextUpper L rs w a p upper
