-- What holds of labels and their words, for all widths and any number N of bits. Assumes nothing.
use Rattle.std.specs.Prelude.{◌≡◌, ℕ, ◌^◌, ◌<◌, true, ◌⊎◌, Some, None, Ok, Err, Option, Result}
use Rattle.label.specs.Label.{Label, bits, parent, Lawful, word}
use Rattle.label.specs.Order.{Earlier, Over}
use Rattle.label.specs.Reading.{label_of, reading_of}
use Rattle.label.specs.Relation.{leads, relation_of}
use Rattle.label.specs.Stops.{Stops}
use Rattle.label.specs.declared.fault.LabelFault.{LabelFault}
use Rattle.label.specs.declared.reading.WordReading.{WordReading}
use Rattle.label.specs.declared.relation.Relation.{Relation}
use Rattle.label.specs.declared.relation.Relation.TheVariants.{Same, Above, Below, Before, After}

-- both ways
abbrev pub Exactly : Type 0 → Type 0 → Type 0
Exactly A B = (A → B) × (B → A)

-- c is a lawful label, and x its word
abbrev pub Of : (w : ℕ → ℕ → ℕ) (N : ℕ) → Label → ℕ → Type 0
Of w N c x = Lawful w N c × (word w N c ≡ x)

-- what a relation says of the lists of levels
abbrev pub Stands : Relation → Label → Label → Type 0
Stands Same c d = c ≡ d
Stands Above c d = Over c d
Stands Below c d = Over d c
Stands Before c d = Earlier c d × (Over c d → ⊥)
Stands After c d = Earlier d c × (Over d c → ⊥)

module _ (w : ℕ → ℕ → ℕ) (N : ℕ) where
  -- ## What the questions on words answer

  -- a word is read exactly where it is a lawful label's, and then as that label; else reading stops at a fault
  abbrev pub Reads : (x : ℕ) → Result WordReading LabelFault → Type 0
  Reads x (Ok reading) = (c : Label) × Of w N c x × (reading ≡ reading_of w N c)
  Reads x (Err fault) = Stops w N x fault

  -- two words are related exactly where both are lawful labels', by their words and as those labels stand; else the fault is that
  -- of the first or, where the first is a label's, of the second
  abbrev pub Relates : (a b : ℕ) → Result Relation LabelFault → Type 0
  Relates a b (Ok r) =
      (c : Label) × (d : Label) × Of w N c a × Of w N d b × (r ≡ relation_of N (bits w 1 0 c) (bits w 1 0 d) a b) × Stands r c d
  Relates a b (Err fault) = Stops w N a fault ⊎ ((c : Label) × Of w N c a × Stops w N b fault)

  -- a label leads exactly the lawful labels with a greater word that is below the end, or it leads none
  abbrev pub LedTo : Label → Option ℕ → Type 0
  LedTo c None = (d : Label) → Lawful w N d → Over c d → ⊥
  LedTo c (Some end) = (d : Label) → Lawful w N d → Exactly (Over c d) ((word w N c < word w N d) × (word w N d < end))

  abbrev pub EndsLed : (x : ℕ) → Result (Option ℕ) LabelFault → Type 0
  EndsLed x (Ok end) = (c : Label) × Of w N c x × LedTo c end
  EndsLed x (Err fault) = Stops w N x fault

  -- ## Laws

  -- two words are equal exactly for equal labels
  abbrev pub OneLabel : Type 0
  OneLabel = (c d : Label) → Lawful w N c → Lawful w N d → Exactly (word w N c ≡ word w N d) (c ≡ d)

  -- a word is a lawful label's or reading it stops, never both, and it stops at one fault
  abbrev pub OneOutcome : Type 0
  OneOutcome =
      (x : ℕ) → x < 2 ^ N →
      (((c : Label) × Of w N c x) ⊎ ((e : LabelFault) × Stops w N x e))
      × ((c : Label) (e : LabelFault) → Of w N c x → Stops w N x e → ⊥)
      × ((e f : LabelFault) → Stops w N x e → Stops w N x f → e ≡ f)

  -- reading as it is computed, `label_of`, gives the label whose word it is or the fault at which reading stops: so reading and
  -- writing undo each other
  abbrev pub ReadingIs : Type 0
  ReadingIs =
      (x : ℕ) → x < 2 ^ N →
      ((c : Label) → Exactly (label_of w N x ≡ Ok c) (Of w N c x)) × ((e : LabelFault) → Exactly (label_of w N x ≡ Err e) (Stops w N x e))

  -- one label leads another, by their words, exactly where its levels are a proper prefix of the other's
  abbrev pub LeadsByLevels : Type 0
  LeadsByLevels =
      (c d : Label) → Lawful w N c → Lawful w N d →
      Exactly (leads N (bits w 1 0 c) (bits w 1 0 d) (word w N c) (word w N d) ≡ true) (Over c d)

  -- words as numbers are in the order of the lists of levels
  abbrev pub WordsInOrder : Type 0
  WordsInOrder = (c d : Label) → Lawful w N c → Lawful w N d → Exactly (word w N c < word w N d) (Earlier c d)

  -- a label is read before all that it leads, and all that it leads before its next sibling
  abbrev pub LedBetween : Type 0
  LedBetween =
      (c d e : Label) → Lawful w N c → Lawful w N d → Lawful w N e → Over c d →
      (word w N c < word w N d) × (parent c ≡ parent e → word w N c < word w N e → word w N d < word w N e)
