-- The checks of calls on a sheet that its rows decide, by themselves: `checks` of the laws has the same ones behind that of being laid. Assumes nothing.
use Rattle.std.specs.Prelude.{◌≡◌, ℕ, List, [], ◌∷◌, Some, T}
use Rattle.shelf.specs.declared.row.Row.{Row}
use Rattle.gap.specs.Labels.{Labels}
use Rattle.laws.specs.Numbers.{UNKNOWN, HEAD, UNFILLED, NOT_BARE, NOT_OPEN}
use Rattle.laws.specs.Standing.{Opened, Filled, StandsAs}
use Rattle.laws.specs.declared.place.Where.{Where}
use Rattle.laws.specs.Openings.{beside, above_new}
use Rattle.laws.specs.Calls.{Check, ◌unless◌, Known, NotBare}

-- what the rows must have of the label that a note tells
abbrev pub note_checks : List Row → (x : ℕ) → List Check
note_checks rows x = (NOT_OPEN unless StandsAs Opened rows x) ∷ []

module _ (L : Labels) where
  -- what the rows must have of a label that a call names
  abbrev pub known_checks : List Row → (x : ℕ) → List Check
  known_checks rows x = (UNKNOWN unless Known L rows x) ∷ []

  -- what the rows must allow for a new place that is opened at a: that it has a parent there
  abbrev pub parent_checks : List Row → (a : ℕ) → Where → List Check
  parent_checks rows a w =
      (UNKNOWN unless Known L rows a)
      ∷ (HEAD unless ¬ (T (beside w) × (a ≡ L.head)))
      ∷ (UNFILLED unless ((p : ℕ) × (above_new L w a ≡ Some p) × StandsAs Filled rows p))
      ∷ []

  -- what the rows must allow for a place that is struck
  abbrev pub strike_checks : List Row → (x : ℕ) → List Check
  strike_checks rows x =
      (UNKNOWN unless Known L rows x)
      ∷ (HEAD unless ¬ (x ≡ L.head))
      ∷ (UNFILLED unless StandsAs Filled rows x)
      ∷ (NOT_BARE unless ¬ (NotBare L rows x))
      ∷ []
