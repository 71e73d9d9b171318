-- A drawing: a tree of places beside the sheet, how they stand to each other, which place a label names, and what is drawn into it. Assumes nothing.
use Rattle.std.specs.Prelude.{◌≡◌, ℕ, Bool, true, cond, not, ◌&&◌, ◌||◌, T, ◌⊎◌, ◌==◌, nat_le}
use Rattle.laws.specs.Sheet.{Where, FirstUnder, LastUnder, Before, After}

-- a place: the number of calls before the one that drew it, the label given for it, and whether it is filled
pub record Place : Type 0 where
  pub serial : ℕ
  pub label : ℕ
  pub filled : Bool

-- siblings with all that stands below them: nothing; or the first sibling, what stands below it, and its later siblings
pub data Drawing : Type 0 where
  empty : Drawing
  place : Place → (below later : Drawing) → Drawing

-- ## How places stand

-- P is a place of the drawing
abbrev pub In : Place → Drawing → Type 0
In P empty = ⊥
In P (place R below later) = (R ≡ P) ⊎ (In P below ⊎ In P later)

-- P stands above Q: P is Q's parent, or stands above that
abbrev pub StandsAbove : Place → Place → Drawing → Type 0
StandsAbove P Q empty = ⊥
StandsAbove P Q (place R below later) = ((R ≡ P) × In Q below) ⊎ (StandsAbove P Q below ⊎ StandsAbove P Q later)

-- P is read before Q: a place before all that stands below it, and it and these before its later siblings
abbrev pub ReadBefore : Place → Place → Drawing → Type 0
ReadBefore P Q empty = ⊥
ReadBefore P Q (place R below later) =
    ((R ≡ P) × (In Q below ⊎ In Q later))
    ⊎ ((In P below × In Q later) ⊎ (ReadBefore P Q below ⊎ ReadBefore P Q later))

-- ## Names

-- no place with the label a was drawn before call number n
abbrev pub none_earlier : (a n : ℕ) → Drawing → Bool
none_earlier a n empty = true
none_earlier a n (place R below later) =
    (not (R.label == a) || nat_le n R.serial) && (none_earlier a n below && none_earlier a n later)

-- whether the label a names P: it was given for P and, if for several places, P is the first drawn
abbrev pub named : (a : ℕ) → Drawing → Place → Bool
named a d P = P.label == a && none_earlier a P.serial d

abbrev pub Names : (a : ℕ) → Place → Drawing → Type 0
Names a P d = In P d × T (named a d P)

-- ## What is drawn

-- a new place behind all siblings
abbrev pub append : Drawing → Place → Drawing
append empty new = place new empty empty
append (place R below later) new = place R below (append later new)

-- a new place at R, with what stands below R and behind it
abbrev pub draw_at : Where → (new R : Place) (below later : Drawing) → Drawing
draw_at FirstUnder new R below later = place R (place new empty below) later
draw_at LastUnder new R below later = place R (append below new) later
draw_at Before new R below later = place new empty (place R below later)
draw_at After new R below later = place R below (place new empty later)

-- a new place at the one that a test finds
abbrev pub draw : Where → (Place → Bool) → (new : Place) → Drawing → Drawing
draw w test new empty = empty
draw w test new (place R below later) =
    cond (test R) (draw_at w new R below later) (place R (draw w test new below) (draw w test new later))

-- the place that a test finds, made filled or unfilled
abbrev pub refilled : (Place → Bool) → Bool → Place → Place
refilled test b R = record { serial = R.serial; label = R.label; filled = cond (test R) b R.filled }

abbrev pub refill : (Place → Bool) → Bool → Drawing → Drawing
refill test b empty = empty
refill test b (place R below later) = place (refilled test b R) (refill test b below) (refill test b later)
