-- The test of a whole sheet, which antt computes, and that a table that passes it is one. Assumes nothing.
use Rattle.std.proofs.Common.{◌≡◌, ℕ, zero, suc, ◌^◌, ◌<◌, Bool, true, false, ◌&&◌, eqb, ltb, List, [], ◌∷◌, length, is_some, Some, None, Ok, Err, Option, Result, refl, ◌∙◌, arith}
use Rattle.std.proofs.lemmas.Bool.{and_parts, ltb-true, eqb-true, false≢true}
use Rattle.label.specs.Label.{Label, end, parent, word_bits}
use Rattle.label.specs.Reading.{label_of}
use Rattle.label.specs.Theorems.{Of}
use Rattle.label.specs.declared.fault.LabelFault.{LabelFault}
use Rattle.label.proofs.Theorems.{read_only, same_label}
use Rattle.shelf.specs.declared.row.Row.{Row}
use Rattle.shelf.specs.declared.row.State.{State}
use Rattle.shelf.specs.declared.row.State.TheVariants.{Opened, Filled, Struck}
use Rattle.shelf.specs.Rows.{row_at, label_at, index_of}
use Rattle.factory.specs.Sheet.{all_four, word_of, Rooted, WholeSheet}

abbrev is_filled : State → Bool
is_filled Opened = false
is_filled Filled = true
is_filled Struck = false

-- a word has a label with its place among rows
abbrev is_rooted : List Row → (x : ℕ) → Option Label → Bool
is_rooted rs x None = eqb x (word_of (end 1))
is_rooted rs x (Some p) = is_some (index_of rs (word_of p))

abbrev is_read : List Row → (x : ℕ) → Result Label LabelFault → Bool
is_read rs x (Ok c) = is_rooted rs x (parent c)
is_read rs x (Err fault) = false

abbrev has_place : List Row → Row → Bool
has_place rs r = is_filled r.state && (ltb r.label (2 ^ word_bits) && is_read rs r.label (label_of all_four word_bits r.label))

abbrev all_have_place : List Row → List Row → Bool
all_have_place rs [] = true
all_have_place rs (r ∷ more) = has_place rs r && all_have_place rs more

abbrev pub is_whole : List Row → Bool
is_whole rs = ltb 0 (length rs) && all_have_place rs rs

filled_from_test : (s : State) → is_filled s ≡ true → s ≡ Filled
filled_from_test Opened t = absurd (false≢true t)
filled_from_test Filled t = refl
filled_from_test Struck t = absurd (false≢true t)

-- the head's label is lawful
head_of : Of all_four word_bits (end 1) (word_of (end 1))
head_of = (((refl, omega arith), omega arith), refl)

rooted_from_test : (rs : List Row) (x : ℕ) (c : Label) → Of all_four word_bits c x → (o : Option Label) → is_rooted rs x o ≡ true → Rooted rs c o
rooted_from_test rs x c of None t =
    same_label all_four word_bits c (end 1) of.0 head_of.0 (of.1 ∙ eqb-true x (word_of (end 1)) t)
rooted_from_test rs x c of (Some p) t = t

read_from_test : (rs : List Row) (x : ℕ) → x < 2 ^ word_bits → (r : Result Label LabelFault) → label_of all_four word_bits x ≡ r → is_read rs x r ≡ true
    → (c : Label) × Of all_four word_bits c x × Rooted rs c (parent c)
read_from_test rs x small (Ok c) e t =
    let of = read_only all_four word_bits c x small e in (c, of, rooted_from_test rs x c of (parent c) t)
read_from_test rs x small (Err fault) e t = absurd (false≢true t)

at_index : (rs more : List Row) → all_have_place rs more ≡ true → (i : ℕ) → i < length more → has_place rs (row_at more i) ≡ true
at_index rs [] t i h = absurd (omega arith)
at_index rs (r ∷ more) t zero h = (and_parts (has_place rs r) (all_have_place rs more) t).0
at_index rs (r ∷ more) t (suc i) h = at_index rs more (and_parts (has_place rs r) (all_have_place rs more) t).1 i (omega arith)

pub whole_from_test : (rs : List Row) → is_whole rs ≡ true → WholeSheet rs
whole_from_test rs t = record {
  some = ltb-true 0 (length rs) whole.0;
  filled = λ i h. filled_from_test (row_at rs i).state (parts i h).0;
  rooted = λ i h.
      let x : ℕ = label_at rs i in
      let two = and_parts (ltb x (2 ^ word_bits)) (is_read rs x (label_of all_four word_bits x)) (parts i h).1 in
      read_from_test rs x (ltb-true x (2 ^ word_bits) two.0) (label_of all_four word_bits x) refl two.1;
} where
  whole : (ltb 0 (length rs) ≡ true) × (all_have_place rs rs ≡ true)
  whole = and_parts (ltb 0 (length rs)) (all_have_place rs rs) t

  placed : ℕ → Bool
  placed i = ltb (label_at rs i) (2 ^ word_bits) && is_read rs (label_at rs i) (label_of all_four word_bits (label_at rs i))

  parts : (i : ℕ) → i < length rs → (is_filled (row_at rs i).state ≡ true) × (placed i ≡ true)
  parts i h = and_parts (is_filled (row_at rs i).state) (placed i) (at_index rs rs whole.1 i h)
