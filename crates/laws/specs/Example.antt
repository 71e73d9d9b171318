-- A run of calls on a newly made sheet, worked through with its answers. Assumes nothing.
use Rattle.std.specs.Prelude.{ℕ, Bool, true, false, not, List, [], ◌∷◌, reverse, Some, None, ◌==◌}
use Rattle.gap.specs.Labels.{Labels}
use Rattle.gap.specs.PlanLabels.{labels_of}
use Rattle.gap.specs.Examples.{all}
use Rattle.shelf.specs.Rows.{row_of}
use Rattle.laws.specs.Numbers.{UNLAID, LAID, UNKNOWN, HEAD, UNFILLED, NOT_BARE, NOT_OPEN, TURN, PERMIT}
use Rattle.laws.specs.Standing.{Filled, Struck}
use Rattle.laws.specs.Sheet.{Resting, FirstUnder, LastUnder, Before, After, Sheet, Call, Lay, Open, Fill, GiveUp, Strike, Read, Start, Next, Pause, Resume, Stop, Answer, Refused, Given, Done, Found, Obey, End}
use Rattle.laws.specs.Drawing.{Place}
use Rattle.laws.specs.History.{Event, History, drawing, firing, ObeyedPlace, FilledBehind}
use Rattle.laws.specs.Laws.{NewlyMade, Run}

-- all subvalues have four bits, and a word has 64
abbrev pub labels : Labels
labels = labels_of (all 4) 64

-- the labels that come: 1 for the head, and 1.0/1, 1.1, 1.1.1 and 1.2 below it
abbrev pub top : ℕ
top = 0x1000_0000_0000_0000

abbrev pub front : ℕ
front = 0x1044_0000_0000_0000

abbrev pub first : ℕ
first = 0x1080_0000_0000_0000

abbrev pub inner : ℕ
inner = 0x1084_0000_0000_0000

abbrev pub second : ℕ
second = 0x1100_0000_0000_0000

-- every word but 0 is a card's
abbrev pub is_card : ℕ → Bool
is_card c = not (c == 0)

abbrev pub new_sheet : Sheet
new_sheet = record { capacity = 8; rows = []; laid = false; phase = Resting; mark = 0 }

infix 2 ◌gets◌
abbrev pub ◌gets◌ : Call → Answer → Event
call gets answer = record { call = call; answer = answer }

-- the calls before the end, in turn
abbrev pub calls : List Event
calls =
    -- the sheet is laid, and two places below the head are opened and filled
    (Open top FirstUnder gets Refused UNLAID)
    ∷ (Lay 101 gets Given top)
    ∷ (Lay 101 gets Refused LAID)
    ∷ (Open top LastUnder gets Given first)
    ∷ (Open first LastUnder gets Refused UNFILLED)
    ∷ (Fill first 102 gets Done)
    ∷ (Fill first 102 gets Refused NOT_OPEN)
    ∷ (Open first After gets Given second)
    ∷ (Fill second 103 gets Done)
    ∷ (Open top Before gets Refused HEAD)
    -- a firing starts, and is stopped after one step
    ∷ (Next gets Refused TURN)
    ∷ (Start false gets Refused PERMIT)
    ∷ (Start true gets Done)
    ∷ (Next gets Obey top 101)
    ∷ (Stop gets Done)
    -- another starts from the top, and next obeys the head and the first place
    ∷ (Start true gets Done)
    ∷ (Next gets Obey top 101)
    ∷ (Next gets Obey first 102)
    -- a place is opened before the mark, and filled behind it
    ∷ (Open first Before gets Given front)
    ∷ (Pause gets Done)
    ∷ (Fill front 104 gets Done)
    ∷ (Resume gets Done)
    ∷ (Read front gets Found Filled (Some 104))
    -- a place past the mark is opened and given up again
    ∷ (Open first FirstUnder gets Given inner)
    ∷ (Strike first gets Refused NOT_BARE)
    ∷ (GiveUp inner gets Done)
    ∷ (Read inner gets Found Struck None)
    ∷ (Read 7 gets Refused UNKNOWN)
    -- next goes on past the mark
    ∷ (Next gets Obey second 103)
    ∷ (Strike first gets Done)
    ∷ []

-- the same, the latest first
abbrev pub before_end : History
before_end = reverse calls

abbrev pub history : History
history = (Next gets End) ∷ before_end

-- the sheet then
abbrev pub last_sheet : Sheet
last_sheet =
    record {
      capacity = 8;
      rows = row_of top Filled 101 ∷ row_of front Filled 104 ∷ row_of first Struck 0 ∷ row_of inner Struck 0 ∷ row_of second Filled 103 ∷ [];
      laid = true;
      phase = Resting;
      mark = second;
    }

-- the place that call number 18 drew before the mark
abbrev pub behind : Place
behind = record { serial = 18; label = front; filled = true }

-- The calls are answered so from a newly made sheet on, and when next answers end there is a filled place that was not obeyed: it was filled behind
-- the mark.
abbrev pub ExampleRuns : Type 0
ExampleRuns =
    NewlyMade new_sheet
    × Run labels is_card new_sheet history last_sheet
    × FilledBehind (firing before_end) (drawing before_end) behind
    × (¬ (ObeyedPlace (firing before_end) (drawing before_end) behind))
