-- A label's subvalues as they are kept, and what taking a word apart answers. Assumes nothing.
use Rattle.std.specs.Prelude.{◌≡◌, ℕ, ◌/◌, List, take, Ok, Err, Result}
use Rattle.label.specs.Label.{Label, word_bits}
use Rattle.label.specs.Spelling.{spelling}
use Rattle.label.specs.Stops.{Stops}
use Rattle.label.specs.Theorems.{Of}
use Rattle.label.specs.declared.fault.LabelFault.{LabelFault}
use Rattle.label.specs.declared.spelling.Spelling.{Spelling}
use Rattle.label.specs.declared.subvalue.Subvalue.{Subvalue}

-- how many subvalues a label can have
abbrev pub most_subvalues : ℕ
most_subvalues = word_bits / 2

-- the list that a spelling keeps
abbrev pub listed : Spelling → List Subvalue
listed s = take s.count s.subvalues

-- a word is taken apart into the subvalues of the lawful label whose word it is; else reading it stops at a fault
abbrev pub TakesApart : (w : ℕ → ℕ → ℕ) (N x : ℕ) → Result Spelling LabelFault → Type 0
TakesApart w N x (Ok s) = (c : Label) × Of w N c x × (listed s ≡ spelling c)
TakesApart w N x (Err fault) = Stops w N x fault
