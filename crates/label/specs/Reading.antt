-- How a word is read. Assumes nothing.
use Rattle.std.specs.Prelude.{ℕ, zero, suc, ◌+◌, ◌-◌, ◌/◌, ◌%◌, ◌^◌, Bool, true, false, cond, Some, None, Ok, Err, Option, Result, ◌==◌, nat_lt}
use Rattle.label.specs.Label.{Label, end, next, down, stands_at, bits, depth, parent, word}
use Rattle.label.specs.declared.reading.WordReading.{WordReading}
use Rattle.label.specs.declared.piece.Piece.{Piece}
use Rattle.label.specs.declared.fault.LabelFault.{LabelFault}
use Rattle.label.specs.declared.fault.LabelFault.TheVariants.{Short, Zero}

-- The pieces: a subvalue that ends the label; one with a separator 1 and `behind` in the bits behind that, where its level goes on;
-- and one with a separator 0 before a deeper level.
abbrev pub ending : (s : ℕ) → Piece
ending s = record { subvalue = record { value = s; ends_level = true }; behind = None }

abbrev pub going_on : (s behind : ℕ) → Piece
going_on s behind = record { subvalue = record { value = s; ends_level = false }; behind = Some behind }

abbrev pub going_down : (s behind : ℕ) → Piece
going_down s behind = record { subvalue = record { value = s; ends_level = true }; behind = Some behind }

-- the piece with subvalue s and `behind` in the bits behind it, of which the first is worth `one`
abbrev pub piece_of : (one s behind : ℕ) → Piece
piece_of one s behind = cond (behind == 0) (ending s) (cond (nat_lt behind one) (going_down s behind) (going_on s (behind - one)))

-- the first piece, with a subvalue of k bits, of n bits of value x; none where there are fewer bits
abbrev pub piece : (k n x : ℕ) → Option Piece
piece k n x = cond (nat_lt n k) None (Some (piece_of (2 ^ (n - k - 1)) (x / 2 ^ (n - k)) (x % 2 ^ (n - k))))

abbrev pub onto : (Label → Label) → Result Label LabelFault → Result Label LabelFault
onto f (Ok c) = Ok (f c)
onto f (Err e) = Err e

-- a subvalue s at position i and at a bit, by whether it ends its level: it may stand there, or it is a fault
abbrev pub placed : (bit i s : ℕ) (ends : Bool) → Result Label LabelFault → Result Label LabelFault
placed bit i s ends r = cond (stands_at i s ends) r (Err (Zero bit))

-- what a subvalue s at a bit and a position comes to, by whether it ends its level and by the value behind its separator, if any,
-- where `on` reads what is behind a 1 and `under` what is behind a 0
abbrev pub outcome_of : (bit i : ℕ) → (on under : ℕ → Result Label LabelFault) → (s : ℕ) → Bool → Option ℕ → Result Label LabelFault
outcome_of bit i on under s ends None = placed bit i s ends (Ok (end s))
outcome_of bit i on under s false (Some y) = placed bit i s false (onto (next s) (on y))
outcome_of bit i on under s true (Some y) = placed bit i s true (onto (down s) (under y))

-- what a piece comes to; with none, there are too few bits
abbrev pub outcome : (bit i : ℕ) → (on under : ℕ → Result Label LabelFault) → Option Piece → Result Label LabelFault
outcome bit i on under None = Err (Short bit)
outcome bit i on under (Some p) = outcome_of bit i on under p.subvalue.value p.subvalue.ends_level p.behind

module _ (w : ℕ → ℕ → ℕ) (N : ℕ) where
  -- Reads the n bits of value x that are left of a word of N bits, from level l and position i on.
  -- Each turn takes a bit at least, so that more turns than bits are never used up.
  unfoldable pub scan : (turns n x l i : ℕ) → Result Label LabelFault
  scan zero n x l i = Err (Short (N - n))
  scan (suc f) n x l i =
      let left : ℕ = n - w l i - 1 in
      outcome (N - n) i (λ y. scan f left y l (i + 1)) (λ y. scan f left y (l + 1) 0) (piece (w l i) n x)

  -- the label of a word, or the fault and its bit
  unfoldable pub label_of : ℕ → Result Label LabelFault
  label_of x = scan (suc N) N x 1 0

  -- what the public questions answer of a label: its bits, its levels, and its parent's word
  abbrev pub reading_of : Label → WordReading
  reading_of c = record { bits = bits w 1 0 c; level = depth c; parent = elim (parent c) [ None ↦ None | Some p ↦ Some (word w N p) ] }

  abbrev pub answer : Result Label LabelFault → Result WordReading LabelFault
  answer (Ok c) = Ok (reading_of c)
  answer (Err e) = Err e
