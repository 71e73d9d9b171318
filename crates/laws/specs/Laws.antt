-- The three laws of a sheet over a whole run of calls, and that each call has one answer. Assumes nothing.
use Rattle.std.specs.Prelude.{◌≡◌, ℕ, ◌<◌, ◌≤◌, Bool, false, T, ◌⊎◌, ◌↔◌, [], ◌∷◌, ◌++◌, Some}
use Rattle.shelf.specs.Rows.{Rising}
use Rattle.gap.specs.Labels.{Labels}
use Rattle.gap.specs.PlanLabels.{Proper, labels_of}
use Rattle.laws.specs.Standing.{Filled, Stands, StandsAs}
use Rattle.laws.specs.Sheet.{Resting, Sheet, Call, Answer, End}
use Rattle.laws.specs.Calls.{Step}
use Rattle.laws.specs.Drawing.{Place, In, StandsAbove, ReadBefore, Names}
use Rattle.laws.specs.History.{Event, History, Was, drawing, LayAnswered, GivenOut, GivenFor, obeys, firing, Obeyed, ObeyedPlace, FilledBehind}

-- ## Runs

-- a sheet newly made on a shelf: it rests and is not laid
pub record NewlyMade (m : Sheet) : Type 0 where
  pub rising : Rising m.rows
  pub unlaid : m.laid ≡ false
  pub rests : m.phase ≡ Resting

module _ (L : Labels) (is_card : ℕ → Bool) where
  -- from the sheet `made` the calls of the history, each answered or turned down as it should be, lead to the sheet m
  abbrev pub Run : (made : Sheet) → History → (m : Sheet) → Type 0
  Run made [] m = made ≡ m
  Run made (e ∷ h) m' = (m : Sheet) × Run made h m × Step L is_card m e.call e.answer m'

-- ## The laws

-- The rows of the shelf, against the labels given out and the drawing.
pub record ShelfFollowsDrawing (h : History) (m : Sheet) : Type 0 where
  -- the sheet is laid exactly when an answered lay stands in the history
  pub laid : T m.laid ↔ LayAnswered h
  -- once it is laid its shelf has the labels given out and no others ..
  pub labels : LayAnswered h → (x : ℕ) → Stands m.rows x ↔ ((i : ℕ) × GivenOut h i x)
  -- .. and the filled rows are those of the filled places
  pub filled : LayAnswered h → (x : ℕ) → StandsAs Filled m.rows x ↔ ((P : Place) × In P (drawing h) × (P.label ≡ x) × T P.filled)

module _ (L : Labels) where
  -- The labels given out, against the drawing.
  pub record LabelsFollowDrawing (h : History) : Type 0 where
    -- each label given out was given for a place of the drawing, and each place of the drawing was given its label
    pub placed : (i x : ℕ) → GivenOut h i x → (P : Place) × GivenFor h i x P
    pub labelled : (P : Place) → In P (drawing h) → GivenFor h P.serial P.label P
    -- two are equal exactly when they were given for one place
    pub same : (i j x y : ℕ) (P Q : Place) → GivenFor h i x P → GivenFor h j y Q → (x ≡ y) ↔ (P ≡ Q)
    -- the smaller is read first
    pub order : (i j x y : ℕ) (P Q : Place) → GivenFor h i x P → GivenFor h j y Q → (x < y) ↔ ReadBefore P Q (drawing h)
    -- one leads another exactly when its place stands above
    pub leading : (i j x y : ℕ) (P Q : Place) → GivenFor h i x P → GivenFor h j y Q → T (L.leads x y) ↔ StandsAbove P Q (drawing h)

  -- The first law: labels and rows follow the drawing.
  pub record LawA (h : History) (m : Sheet) : Type 0 where
    pub labels : LabelsFollowDrawing h
    pub shelf : ShelfFollowsDrawing h m

-- The second law: in one firing next obeys places in reading order, whatever was called in between.
pub record LawB (h : History) : Type 0 where
  -- each label that next answers names a place, and that place is filled then
  pub filled : (later now : History) (e : Event) (x : ℕ) → h ≡ later ++ (e ∷ now) → obeys e.answer ≡ Some x
      → (P : Place) × Names x P (drawing now) × T P.filled
  -- where next has answered x and, later in the same firing, y, the place of x is read before the place of y
  pub order : (later now before : History) (e : Event) (x y : ℕ) → h ≡ later ++ now
      → Was (firing now) e before
      → obeys e.answer ≡ Some y
      → Obeyed before x
      → (P : Place) × (Q : Place) × Names x P (drawing h) × Names y Q (drawing h) × ReadBefore P Q (drawing h)

-- The third law: where next answers end, each place then filled was obeyed in that firing, or was filled in it after a place read later had been
-- obeyed in it.
abbrev pub LawC : History → Type 0
LawC h =
    (later now : History) (e : Event) → h ≡ later ++ (e ∷ now)
    → e.answer ≡ End
    → (P : Place) → In P (drawing now) → T P.filled
    → ObeyedPlace (firing now) (drawing now) P ⊎ FilledBehind (firing now) (drawing now) P

module _ (L : Labels) where
  -- The three laws of the calls so far and of the sheet then.
  pub record Lawful (h : History) (m : Sheet) : Type 0 where
    pub law_a : LawA L h m
    pub law_b : LawB h
    pub law_c : LawC h

  -- The three laws hold after a call, whatever was called since the sheet was made.
  unfoldable pub LawfulAfter : (is_card : ℕ → Bool) → Sheet → Call → Answer → Sheet → Type 0
  LawfulAfter is_card m call answer m' =
      (made : Sheet) (h : History) → NewlyMade made → Run L is_card made h m → Lawful (record { call = call; answer = answer } ∷ h) m'

-- The three laws hold after every list of calls, for every width plan, every kind of card and every shelf.
abbrev pub ThreeLaws : Type 0
ThreeLaws =
    (w : ℕ → ℕ → ℕ) (N : ℕ) (is_card : ℕ → Bool) (made m : Sheet) (h : History)
    → Proper w
    → 8 ≤ N
    → NewlyMade made
    → Run (labels_of w N) is_card made h m
    → Lawful (labels_of w N) h m

-- ## One answer

-- A call has one answer and leaves one sheet.
abbrev pub StepPins : Type 0
StepPins =
    (w : ℕ → ℕ → ℕ) (N : ℕ) (is_card : ℕ → Bool) (m : Sheet) (call : Call) (a b : Answer) (m₁ m₂ : Sheet)
    → Proper w
    → 8 ≤ N
    → Rising m.rows
    → Step (labels_of w N) is_card m call a m₁
    → Step (labels_of w N) is_card m call b m₂
    → (a ≡ b) × (m₁ ≡ m₂)

-- Every call on every sheet has an answer.
abbrev pub StepTotal : Type 0
StepTotal =
    (w : ℕ → ℕ → ℕ) (N : ℕ) (is_card : ℕ → Bool) (m : Sheet) (call : Call)
    → Proper w
    → 8 ≤ N
    → (answer : Answer) × (m' : Sheet) × Step (labels_of w N) is_card m call answer m'
