-- How each call on a sheet is answered: the checks that can turn it down, in their order, and what it does where all of them hold. Assumes nothing.
use Rattle.std.specs.Prelude.{◌≡◌, ℕ, ◌<◌, Bool, true, cond, T, ◌⊎◌, List, [], ◌∷◌, ◌++◌, length, Some, None, Option}
use Rattle.shelf.specs.Changes.{with_row}
use Rattle.shelf.specs.Scan.{NextFilled}
use Rattle.gap.specs.Labels.{Labels}
use Rattle.laws.specs.Numbers.{FULL, UNLAID, LAID, UNKNOWN, HEAD, UNFILLED, NOT_BARE, NO_PLACE, NOT_OPEN, TURN, PERMIT, CARD}
use Rattle.laws.specs.Standing.{Row, Opened, Filled, Struck, Has, Stands, StandsAs, is_filled, filled_row, opened_row, revise}
use Rattle.laws.specs.Sheet.{Resting, Firing, Paused, Where, Sheet, with_rows, with_firing, Call, Lay, Open, Fill, GiveUp, Strike, Read, Start, Next, Pause, Resume, Stop, Answer, Refused, Given, Done, Found, Obey, End}
use Rattle.laws.specs.Openings.{beside, above_new, LabelFor}

-- ## Checks

-- a call is turned down with a number unless something holds
pub record Check : Type 1 where
  pub number : ℕ
  pub holds : Type 0

infix 2 ◌unless◌
abbrev pub ◌unless◌ : ℕ → Type 0 → Check
n unless p = record { number = n; holds = p }

-- all checks hold
abbrev pub Passes : List Check → Type 0
Passes [] = Unit {0}
Passes (c ∷ cs) = c.holds × Passes cs

-- the first check that does not hold has this number
abbrev pub TurnsDown : List Check → ℕ → Type 0
TurnsDown [] n = ⊥
TurnsDown (c ∷ cs) n = ((¬ c.holds) × (n ≡ c.number)) ⊎ (c.holds × TurnsDown cs n)

-- there is room for one more row
abbrev pub HasRoom : Sheet → Type 0
HasRoom m = length m.rows < m.capacity

module _ (L : Labels) where
  -- some row has the label x, and its word is lawful
  abbrev pub Known : List Row → (x : ℕ) → Type 0
  Known rows x = Stands rows x × T (L.lawful x)

  -- a filled or opened place stands below x
  abbrev pub NotBare : List Row → (x : ℕ) → Type 0
  NotBare rows x = (y : ℕ) × T (L.leads x y) × (StandsAs Filled rows y ⊎ StandsAs Opened rows y)

  -- what the rows must allow for a new place that is opened at a
  abbrev pub place_checks : List Row → (a : ℕ) → Where → List Check
  place_checks rows a w =
      (UNKNOWN unless Known rows a)
      ∷ (HEAD unless ¬ (T (beside w) × (a ≡ L.head)))
      ∷ (UNFILLED unless ((p : ℕ) × (above_new L w a ≡ Some p) × StandsAs Filled rows p))
      ∷ (NO_PLACE unless ((x : ℕ) × LabelFor L rows w a (Some x)))
      ∷ []

  module _ (is_card : ℕ → Bool) where
    abbrev pub checks : Sheet → Call → List Check
    checks m (Lay c) = (LAID unless ((¬ (T m.laid)) × (m.rows ≡ []))) ∷ (FULL unless HasRoom m) ∷ []
    checks m (Open a w) = (UNLAID unless T m.laid) ∷ (place_checks m.rows a w ++ ((FULL unless HasRoom m) ∷ []))
    checks m (Fill x c) = (UNLAID unless T m.laid) ∷ (NOT_OPEN unless StandsAs Opened m.rows x) ∷ []
    checks m (GiveUp x) = (UNLAID unless T m.laid) ∷ (NOT_OPEN unless StandsAs Opened m.rows x) ∷ []
    checks m (Strike x) =
        (UNLAID unless T m.laid)
        ∷ (UNKNOWN unless Known m.rows x)
        ∷ (HEAD unless ¬ (x ≡ L.head))
        ∷ (UNFILLED unless StandsAs Filled m.rows x)
        ∷ (NOT_BARE unless ¬ (NotBare m.rows x))
        ∷ []
    checks m (Read x) =
        (UNLAID unless T m.laid)
        ∷ (UNKNOWN unless Known m.rows x)
        ∷ (CARD unless ((r : Row) → Has m.rows r → r.label ≡ x → r.state ≡ Filled → T (is_card r.card)))
        ∷ []
    checks m (Start permit) = (UNLAID unless T m.laid) ∷ (TURN unless m.phase ≡ Resting) ∷ (PERMIT unless T permit) ∷ []
    checks m Next =
        (TURN unless m.phase ≡ Firing)
        ∷ (CARD unless ((found : ℕ × Row) → NextFilled m.rows m.mark (Some found) → T (is_card found.1.card)))
        ∷ []
    checks m Pause = (TURN unless m.phase ≡ Firing) ∷ []
    checks m Resume = (TURN unless m.phase ≡ Paused) ∷ []
    checks m Stop = (TURN unless ¬ (m.phase ≡ Resting)) ∷ []

-- ## What a call does

-- the card that a read finds in a row: that of a filled one
abbrev pub card_of : Row → Option ℕ
card_of r = cond (is_filled r.state) (Some r.card) None

-- the head is put, filled, and the sheet is laid
abbrev pub laid_with : Row → Sheet → Sheet
laid_with r m = record { capacity = m.capacity; rows = with_row m.rows r; laid = true; phase = m.phase; mark = m.mark }

-- what next answers and the sheet then, by the row that it takes, which comes with its index
abbrev pub Turn : Option (ℕ × Row) → Sheet → Answer → Sheet → Type 0
Turn None m answer m' = (answer ≡ End) × (m' ≡ with_firing Resting m.mark m)
Turn (Some (i, r)) m answer m' = (answer ≡ Obey r.label r.card) × (m' ≡ with_firing Firing r.label m)

module _ (L : Labels) where
  -- what a call that passes its checks answers, and the sheet then
  abbrev pub Does : Sheet → Call → Answer → Sheet → Type 0
  Does m (Lay c) answer m' = (answer ≡ Given L.head) × (m' ≡ laid_with (filled_row L.head c) m)
  Does m (Open a w) answer m' =
      (x : ℕ)
      × LabelFor L m.rows w a (Some x)
      × (answer ≡ Given x)
      × (m' ≡ with_rows (with_row m.rows (opened_row x)) m)
  Does m (Fill x c) answer m' = (answer ≡ Done) × (m' ≡ with_rows (revise x Filled c m.rows) m)
  Does m (GiveUp x) answer m' = (answer ≡ Done) × (m' ≡ with_rows (revise x Struck 0 m.rows) m)
  Does m (Strike x) answer m' = (answer ≡ Done) × (m' ≡ with_rows (revise x Struck 0 m.rows) m)
  Does m (Read x) answer m' =
      ((r : Row) × Has m.rows r × (r.label ≡ x) × (answer ≡ Found r.state (card_of r))) × (m' ≡ m)
  Does m (Start permit) answer m' = (answer ≡ Done) × (m' ≡ with_firing Firing 0 m)
  Does m Next answer m' =
      (found : Option (ℕ × Row)) × NextFilled m.rows m.mark found × Turn found m answer m'
  Does m Pause answer m' = (answer ≡ Done) × (m' ≡ with_firing Paused m.mark m)
  Does m Resume answer m' = (answer ≡ Done) × (m' ≡ with_firing Firing m.mark m)
  Does m Stop answer m' = (answer ≡ Done) × (m' ≡ with_firing Resting m.mark m)

  -- a call is turned down with the number of the first check that does not hold, and the sheet stays; or all hold and it does its work
  abbrev pub Step : (is_card : ℕ → Bool) → Sheet → Call → Answer → Sheet → Type 0
  Step is_card m call answer m' =
      ((n : ℕ) × TurnsDown (checks L is_card m call) n × (answer ≡ Refused n) × (m' ≡ m))
      ⊎ (Passes (checks L is_card m call) × Does m call answer m')
