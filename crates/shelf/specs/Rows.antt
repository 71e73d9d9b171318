-- Rows, the lists of rows that shelves mean, and the questions on such a list. Assumes nothing.
use Rattle.std.specs.Prelude.{◌≡◌, ℕ, suc, ◌<◌, ◌≤◌, true, cond, List, [], ◌∷◌, length, is_some, Some, None, Ok, Err, Option, Result, ◌==◌, nat_lt, slice_index_or}
use Rattle.shelf.specs.declared.row.Row.{Row}
use Rattle.shelf.specs.declared.row.State.{State}
use Rattle.shelf.specs.declared.row.State.TheVariants.{Opened}

-- the row of a label with a state and a card word: every row of a definition is made by this
abbrev pub row_of : (label : ℕ) → State → (card : ℕ) → Row
row_of l s c = record { label = l; state = s; card = c }

-- the row with another state and card word
abbrev pub restated : Row → State → (card : ℕ) → Row
restated r s c = row_of r.label s c

-- the row at an index; past the end, where no fact asks for one, a blank row stands in
abbrev pub blank : Row
blank = row_of 0 Opened 0

abbrev pub row_at : List Row → ℕ → Row
row_at rs i = slice_index_or rs i blank

abbrev pub label_at : List Row → ℕ → ℕ
label_at rs i = (row_at rs i).label

-- each label is below every later one
abbrev pub Rising : List Row → Type 0
Rising rs = (i j : ℕ) → i < j → j < length rs → label_at rs i < label_at rs j

-- how many rows a shelf has at most
abbrev pub most_rows : ℕ
most_rows = 2048

-- the lists that shelves mean
pub record LawfulRows (rs : List Row) : Type 0 where
  pub few : length rs ≤ most_rows
  pub rising : Rising rs

-- the row at an index, or none past the end
abbrev pub RowAt : List Row → (i : ℕ) → Option Row → Type 0
RowAt rs i (Some r) = (i < length rs) × (row_at rs i ≡ r)
RowAt rs i None = length rs ≤ i

-- how many rows have a label below l
abbrev pub rank_of : List Row → (l : ℕ) → ℕ
rank_of [] l = 0
rank_of (r ∷ rs) l = cond (nat_lt r.label l) (suc (rank_of rs l)) (rank_of rs l)

abbrev pub one_on : Option ℕ → Option ℕ
one_on None = None
one_on (Some i) = Some (suc i)

-- where the row with the label l stands
abbrev pub index_of : List Row → (l : ℕ) → Option ℕ
index_of [] l = None
index_of (r ∷ rs) l = cond (r.label == l) (Some 0) (one_on (index_of rs l))

-- a row has the label l, or none has
abbrev pub Present : List Row → (l : ℕ) → Type 0
Present rs l = is_some (index_of rs l) ≡ true

abbrev pub Absent : List Row → (l : ℕ) → Type 0
Absent rs l = index_of rs l ≡ None

-- where the row with the label l stands, or else where it would
abbrev pub Sought : List Row → (l : ℕ) → Result ℕ ℕ → Type 0
Sought rs l (Ok i) = (index_of rs l ≡ Some i) × (i ≡ rank_of rs l)
Sought rs l (Err i) = Absent rs l × (i ≡ rank_of rs l)

-- what a search says of any rows, in whatever order: an index that it finds is that of a row with the label l, and the other lies within the list or at its end
abbrev pub Met : List Row → (l : ℕ) → Result ℕ ℕ → Type 0
Met rs l (Ok i) = (i < length rs) × (label_at rs i ≡ l)
Met rs l (Err i) = i ≤ length rs
