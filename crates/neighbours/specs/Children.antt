-- Children of a parent among the rows of a shelf, whatever their state. Assumes nothing.
use Rattle.std.specs.Prelude.{◌≡◌, ℕ, ◌+◌, ◌<◌, ◌≤◌, List, length, Some, None, Option, ◌≢◌}
use Rattle.shelf.specs.declared.row.Row.{Row}
use Rattle.shelf.specs.Rows.{label_at}
use Rattle.gap.specs.Labels.{Labels}

-- all children of p are below a word, or p has none
abbrev pub ChildrenEnd : Labels → (p : ℕ) → Option ℕ → Type 0
ChildrenEnd L p None = (c : ℕ) → L.parent c ≢ Some p
ChildrenEnd L p (Some end) = (c : ℕ) → L.parent c ≡ Some p → c < end

-- the row at i has the label of a child of p
abbrev pub ChildAt : Labels → List Row → (p i : ℕ) → Type 0
ChildAt L rs p i = (i < length rs) × (L.parent (label_at rs i) ≡ Some p)

-- no row from `start` on and before `end` has
abbrev pub NoChild : Labels → List Row → (p start end : ℕ) → Type 0
NoChild L rs p start end = (i : ℕ) → start ≤ i → i < end → ChildAt L rs p i → ⊥

-- the last child of p among the first `end` rows, and the first from the row `start` on
abbrev pub LastChild : Labels → List Row → (p end : ℕ) → Option ℕ → Type 0
LastChild L rs p end None = NoChild L rs p 0 end
LastChild L rs p end (Some c) = (i : ℕ) × (i < end) × ChildAt L rs p i × (label_at rs i ≡ c) × NoChild L rs p (1 + i) end

abbrev pub FirstChild : Labels → List Row → (p start : ℕ) → Option ℕ → Type 0
FirstChild L rs p start None = NoChild L rs p start (length rs)
FirstChild L rs p start (Some c) = (i : ℕ) × (start ≤ i) × ChildAt L rs p i × (label_at rs i ≡ c) × NoChild L rs p start i
