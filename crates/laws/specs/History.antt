-- Histories of calls and answers: the drawing that one draws, its firings, and what was given out, obeyed and filled in it. Assumes nothing.
use Rattle.std.specs.Prelude.{◌≡◌, ℕ, Bool, true, false, cond, ◌&&◌, ◌||◌, T, ◌⊎◌, List, [], ◌∷◌, length, Some, None, Option}
use Rattle.laws.specs.Sheet.{Call, Lay, Open, Fill, GiveUp, Strike, Read, Start, Next, Pause, Resume, Stop, Answer, Refused, Given, Done, Found, Obey, End}
use Rattle.laws.specs.Drawing.{Place, Drawing, empty, place, In, ReadBefore, named, Names, draw, refill}

-- a call and its answer
pub record Event : Type 0 where
  pub call : Call
  pub answer : Answer

-- what has been called since a sheet was made, and how it was answered, the latest first
abbrev pub History : Type 0
History = List Event

-- e stands in the history, and these events were before it
abbrev pub Was : History → Event → (before : History) → Type 0
Was [] e before = ⊥
Was (f ∷ h) e before = ((f ≡ e) × (h ≡ before)) ⊎ Was h e before

-- ## What an answer says, and what a call is

-- not turned down
abbrev pub answered : Answer → Bool
answered (Refused n) = false
answered (Given x) = true
answered Done = true
answered (Found st c) = true
answered (Obey x c) = true
answered End = true

-- the label that is given out
abbrev pub gives : Answer → Option ℕ
gives (Refused n) = None
gives (Given x) = Some x
gives Done = None
gives (Found st c) = None
gives (Obey x c) = None
gives End = None

-- the label that next answers
abbrev pub obeys : Answer → Option ℕ
obeys (Refused n) = None
obeys (Given x) = None
obeys Done = None
obeys (Found st c) = None
obeys (Obey x c) = Some x
obeys End = None

abbrev pub is_end : Answer → Bool
is_end (Refused n) = false
is_end (Given x) = false
is_end Done = false
is_end (Found st c) = false
is_end (Obey x c) = false
is_end End = true

abbrev pub is_lay : Call → Bool
is_lay (Lay c) = true
is_lay (Open a w) = false
is_lay (Fill a c) = false
is_lay (GiveUp a) = false
is_lay (Strike a) = false
is_lay (Read a) = false
is_lay (Start permit) = false
is_lay Next = false
is_lay Pause = false
is_lay Resume = false
is_lay Stop = false

abbrev pub is_start : Call → Bool
is_start (Lay c) = false
is_start (Open a w) = false
is_start (Fill a c) = false
is_start (GiveUp a) = false
is_start (Strike a) = false
is_start (Read a) = false
is_start (Start permit) = true
is_start Next = false
is_start Pause = false
is_start Resume = false
is_start Stop = false

abbrev pub is_stop : Call → Bool
is_stop (Lay c) = false
is_stop (Open a w) = false
is_stop (Fill a c) = false
is_stop (GiveUp a) = false
is_stop (Strike a) = false
is_stop (Read a) = false
is_stop (Start permit) = false
is_stop Next = false
is_stop Pause = false
is_stop Resume = false
is_stop Stop = true

-- ## The drawing of a history

-- what is drawn for a label that is given out; where none is, the drawing stays
abbrev pub on_label : Option ℕ → (ℕ → Drawing) → Drawing → Drawing
on_label None drawn d = d
on_label (Some x) drawn d = drawn x

-- What call number n draws. An answered lay draws the head, filled, and an answered open a new place, not filled, at the named one.
-- An answered fill makes the place that its note names filled, and an answered strike makes the named place unfilled. Nothing else
-- changes the drawing.
abbrev pub redraw : (n : ℕ) → Call → Answer → Drawing → Drawing
redraw n (Lay c) answer d = on_label (gives answer) (λ x. place (record { serial = n; label = x; filled = true }) empty d) d
redraw n (Open a w) answer d =
    on_label (gives answer) (λ x. draw w (named a d) (record { serial = n; label = x; filled = false }) d) d
redraw n (Fill a c) answer d = cond (answered answer) (refill (named a d) true d) d
redraw n (GiveUp a) answer d = d
redraw n (Strike a) answer d = cond (answered answer) (refill (named a d) false d) d
redraw n (Read a) answer d = d
redraw n (Start permit) answer d = d
redraw n Next answer d = d
redraw n Pause answer d = d
redraw n Resume answer d = d
redraw n Stop answer d = d

-- the drawing is fed with the calls and their answers alone, in turn; it starts empty
abbrev pub drawing : History → Drawing
drawing [] = empty
drawing (e ∷ h) = redraw (length h) e.call e.answer (drawing h)

-- an answered lay stands in the history
abbrev pub LayAnswered : History → Type 0
LayAnswered h = (e : Event) × (before : History) × Was h e before × T (is_lay e.call) × T (answered e.answer)

-- the label x was given out by call number i
abbrev pub GivenOut : History → (i x : ℕ) → Type 0
GivenOut [] i x = ⊥
GivenOut (e ∷ h) i x = ((length h ≡ i) × (gives e.answer ≡ Some x)) ⊎ GivenOut h i x

-- the label x was given out by call number i, for the place P
abbrev pub GivenFor : History → (i x : ℕ) → Place → Type 0
GivenFor h i x P = GivenOut h i x × In P (drawing h) × (P.serial ≡ i) × (P.label ≡ x)

-- ## Firings

abbrev pub starts : Event → Bool
starts e = is_start e.call && answered e.answer

abbrev pub ends : Event → Bool
ends e = is_end e.answer || (is_stop e.call && answered e.answer)

-- one more event of a firing, where one lasts
abbrev pub go_on : Event → History → History
go_on e [] = []
go_on e (f ∷ firing) = e ∷ f ∷ firing

-- The events of the firing that lasts at the end of a history, the latest first; none where no firing lasts.
-- A firing lasts from an answered start to end or an answered stop.
abbrev pub firing : History → History
firing [] = []
firing (e ∷ h) = cond (starts e) (e ∷ []) (cond (ends e) [] (go_on e (firing h)))

-- among these events next answered the label x
abbrev pub Obeyed : (events : History) → (x : ℕ) → Type 0
Obeyed events x = (e : Event) × (before : History) × Was events e before × (obeys e.answer ≡ Some x)

-- among these events next obeyed the place P: the one that the label it answered names
abbrev pub ObeyedPlace : (events : History) → Drawing → Place → Type 0
ObeyedPlace events d P = (x : ℕ) × Obeyed events x × Names x P d

-- e is an answered fill with a note that tells the label x
abbrev pub Fills : Event → (x : ℕ) → Type 0
Fills e x = (c : ℕ) × (e.call ≡ Fill x c) × T (answered e.answer)

-- P was filled by one of these events, and among those before it a place Q had been obeyed that is read later than P
abbrev pub FilledBehind : (events : History) → Drawing → Place → Type 0
FilledBehind events d P =
    (e : Event) × (before : History) × (x : ℕ) × (Q : Place)
    × Was events e before
    × Fills e x
    × Names x P d
    × ObeyedPlace before d Q
    × ReadBefore P Q d
