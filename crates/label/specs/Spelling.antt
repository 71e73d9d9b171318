-- Labels as lists of subvalues, each with whether it ends its level, and what writing such a list answers. Assumes nothing.
use Rattle.std.specs.Prelude.{◌≡◌, ℕ, ◌+◌, ◌-◌, ◌*◌, ◌^◌, ◌<◌, ◌≤◌, Bool, true, false, cond, List, [], ◌∷◌, Some, None, Option, ◌≢◌}
use Rattle.label.specs.Label.{Label, end, next, down, stands_at, bits, spelled, Fits}
use Rattle.label.specs.Theorems.{Of}
use Rattle.label.specs.declared.subvalue.Subvalue.{Subvalue}

abbrev pub subvalue : ℕ → Bool → Subvalue
subvalue s ends = record { value = s; ends_level = ends }

-- a label's subvalues from left to right
abbrev pub spelling : Label → List Subvalue
spelling (end s) = subvalue s true ∷ []
spelling (next s c) = subvalue s false ∷ spelling c
spelling (down s c) = subvalue s true ∷ spelling c

-- a list of subvalues is written as the word of the lawful label that it spells, or it spells none
abbrev pub Writes : (w : ℕ → ℕ → ℕ) (N : ℕ) → List Subvalue → Option ℕ → Type 0
Writes w N ss (Some x) = (c : Label) × (spelling c ≡ ss) × Of w N c x
Writes w N ss None = (c : Label) (x : ℕ) → spelling c ≡ ss → Of w N c x → ⊥

-- ## The steps of writing

-- the level and the position behind a subvalue, and the value of the separator with m bits behind it
abbrev pub level_after : Bool → ℕ → ℕ
level_after ends l = cond ends (l + 1) l

abbrev pub position_after : Bool → ℕ → ℕ
position_after ends i = cond ends 0 (i + 1)

abbrev pub separator_after : Bool → ℕ → ℕ
separator_after ends m = cond ends 0 (2 ^ m)

-- a subvalue s of k bits at position i, at the left of n bits with zeros behind it, where it fits and may stand there
abbrev pub Places : (k n i s : ℕ) (ends : Bool) → Option ℕ → Type 0
Places k n i s ends (Some x) = (k ≤ n) × (s < 2 ^ k) × (stands_at i s ends ≡ true) × (x ≡ s * 2 ^ (n - k))
Places k n i s ends None = k ≤ n → s < 2 ^ k → stands_at i s ends ≢ true

-- n bits from level l and position i on are written as the subvalues of a label that fits there
abbrev pub WritesFrom : (w : ℕ → ℕ → ℕ) (n l i : ℕ) → List Subvalue → Option ℕ → Type 0
WritesFrom w n l i ss (Some x) = (c : Label) × (spelling c ≡ ss) × Fits w l i c × (bits w l i c ≤ n) × (spelled w n l i c ≡ x)
WritesFrom w n l i ss None = (c : Label) → spelling c ≡ ss → Fits w l i c → bits w l i c ≤ n → ⊥
