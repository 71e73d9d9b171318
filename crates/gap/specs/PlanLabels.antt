-- The labels of a width plan, on words of N bits. Assumes nothing.
use Rattle.std.specs.Prelude.{ℕ, ◌^◌, ◌≤◌, Bool, true, false, cond, Some, None, Ok, Err, Option, Result, nat_lt}
use Rattle.label.specs.declared.fault.LabelFault.{LabelFault}
use Rattle.label.specs.Label.{Label, end, parent, bits, word}
use Rattle.label.specs.Reading.{label_of}
use Rattle.label.specs.Relation.{leads}
use Rattle.gap.specs.Between.{Betweens}
use Rattle.gap.specs.Labels.{Labels, Sound}

-- a plan's widths are of 1 to 8 bits
abbrev pub Proper : (ℕ → ℕ → ℕ) → Type 0
Proper w = (level position : ℕ) → (1 ≤ w level position) × (w level position ≤ 8)

abbrev pub read : Result Label LabelFault → Option Label
read (Ok c) = Some c
read (Err e) = None

abbrev pub is_label : Option Label → Bool
is_label None = false
is_label (Some c) = true

module _ (w : ℕ → ℕ → ℕ) (N : ℕ) where
  -- the lawful label of a word, or none
  unfoldable pub label_at : ℕ → Option Label
  label_at x = cond (nat_lt x (2 ^ N)) (read (label_of w N x)) None

  abbrev pub word_of : Option Label → Option ℕ
  word_of None = None
  word_of (Some c) = Some (word w N c)

  abbrev pub parent_of : Option Label → Option ℕ
  parent_of None = None
  parent_of (Some c) = word_of (parent c)

  abbrev pub leads_of : (a b : ℕ) → Option Label → Option Label → Bool
  leads_of a b None d = false
  leads_of a b (Some c) None = false
  leads_of a b (Some c) (Some d) = leads N (bits w 1 0 c) (bits w 1 0 d) a b

  abbrev pub labels_of : Labels
  labels_of = record {
    lawful = λ x. is_label (label_at x);
    leads = λ a b. leads_of a b (label_at a) (label_at b);
    parent = λ x. parent_of (label_at x);
    head = word w N (end 1);
    Chooses = λ p lower upper r. Betweens w N p lower upper (Ok r);
  }

-- the labels of every plan are as the laws need them
abbrev pub LabelsAreSound : Type 0
LabelsAreSound = (w : ℕ → ℕ → ℕ) (N : ℕ) → Proper w → 8 ≤ N → Sound (labels_of w N)
