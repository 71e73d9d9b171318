-- Which label a new place gets: under which parent it comes, and between which siblings. Assumes nothing.
use Rattle.std.specs.Prelude.{◌≡◌, ℕ, ◌<◌, ◌≤◌, Bool, true, false, List, Some, None, Option}
use Rattle.gap.specs.Labels.{Labels}
use Rattle.laws.specs.Standing.{Row, Stands}
use Rattle.laws.specs.Sheet.{Where, FirstUnder, LastUnder, Before, After}

-- whether a new place comes beside the named one, and not under it
abbrev pub beside : Where → Bool
beside FirstUnder = false
beside LastUnder = false
beside Before = true
beside After = true

-- a sibling c comes to stand before the new place that is opened at a ..
abbrev pub Lower : Where → (a c : ℕ) → Type 0
Lower FirstUnder a c = ⊥
Lower LastUnder a c = Unit {0}
Lower Before a c = c < a
Lower After a c = c ≤ a

-- .. or behind it
abbrev pub Upper : Where → (a c : ℕ) → Type 0
Upper FirstUnder a c = Unit {0}
Upper LastUnder a c = ⊥
Upper Before a c = a ≤ c
Upper After a c = a < c

-- one that Q holds of and that no other such one goes beyond; none where Q holds of nothing
abbrev pub Utmost : (Within : ℕ → ℕ → Type 0) (Q : ℕ → Type 0) → Option ℕ → Type 0
Utmost Within Q None = (c : ℕ) → ¬ (Q c)
Utmost Within Q (Some x) = Q x × ((c : ℕ) → Q c → Within c x)

abbrev pub Greatest : (ℕ → Type 0) → Option ℕ → Type 0
Greatest = Utmost (λ c x. c ≤ x)

abbrev pub Least : (ℕ → Type 0) → Option ℕ → Type 0
Least = Utmost (λ c x. x ≤ c)

module _ (L : Labels) where
  -- c is the label of a row, whatever its state, and a child of p
  abbrev pub ChildRow : List Row → (p c : ℕ) → Type 0
  ChildRow rows p c = Stands rows c × (L.parent c ≡ Some p)

  -- the parent of a new place that is opened at a
  abbrev pub above_new : Where → (a : ℕ) → Option ℕ
  above_new FirstUnder a = Some a
  above_new LastUnder a = Some a
  above_new Before a = L.parent a
  above_new After a = L.parent a

  -- the next lower and the next upper sibling of a new place under p
  abbrev pub NextLower : List Row → Where → (a p : ℕ) → Option ℕ → Type 0
  NextLower rows w a p = Greatest (λ c. ChildRow rows p c × Lower w a c)

  abbrev pub NextUpper : List Row → Where → (a p : ℕ) → Option ℕ → Type 0
  NextUpper rows w a p = Least (λ c. ChildRow rows p c × Upper w a c)

  -- the label for a new place that is opened at a: what the labels give under its parent and between its next siblings, or none
  pub record LabelFor (rows : List Row) (w : Where) (a : ℕ) (label : Option ℕ) : Type 0 where
    pub parent : ℕ
    pub lower : Option ℕ
    pub upper : Option ℕ
    pub under : above_new w a ≡ Some parent
    pub next_lower : NextLower rows w a parent lower
    pub next_upper : NextUpper rows w a parent upper
    pub chosen : L.Chooses parent lower upper label
