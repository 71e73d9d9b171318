-- How the words of a line spell a command, and what is wrong with a line that spells none. Assumes nothing.
use Rattle.std.specs.Prelude.{◌≡◌, ℕ, min, ◌⊎◌, List, [], ◌∷◌, Some, None, Ok, Err, vec_items, codes, Option, Result, ◌≢◌}
use Rattle.kushrebat.specs.Lines.{words_of, until, comment}
use Rattle.kushrebat.specs.Numerals.{Number, LabelWord, decimal, hexadecimal}
use Rattle.kushrebat.specs.declared.command.Command.{Command}
use Rattle.kushrebat.specs.declared.command.Command.TheVariants.{Plan, Ask, Relate, Between, Factory}
use Rattle.kushrebat.specs.declared.command.Name.{Name}
use Rattle.kushrebat.specs.declared.command.Name.TheVariants as name
use Rattle.kushrebat.specs.declared.command.PlanKind.{PlanKind}
use Rattle.kushrebat.specs.declared.command.PlanKind.TheVariants.{Position, Level}
use Rattle.kushrebat.specs.declared.script.fault.LineFault.{LineFault}
use Rattle.kushrebat.specs.declared.script.fault.LineFault.TheVariants.{UnknownCommand, MissingWord, ExtraWord, NotANumber, NotALabelWord, OutOfMemory}
use Rattle.kushrebat.specs.declared.script.line.Words.{Words}

-- the words that are left
abbrev pub left : Words → List (List ℕ)
left words = words_of words.rest.now

-- the words of a line in front of its comment
abbrev pub line_words : List ℕ → List (List ℕ)
line_words line = words_of (until comment line)

-- ## What one word spells

abbrev pub SpellsWord : List ℕ → ℕ → Type 0
SpellsWord ds x = LabelWord ds × (x ≡ hexadecimal ds)

abbrev pub SpellsBound : List ℕ → Option ℕ → Type 0
SpellsBound ds None = ds ≡ codes "none"
SpellsBound ds (Some x) = SpellsWord ds x

abbrev pub SpellsKind : List ℕ → PlanKind → Type 0
SpellsKind ds Position = ds ≡ codes "position"
SpellsKind ds Level = ds ≡ codes "level"

-- a number that no byte holds is as little a width as 255
abbrev pub SpellsWidth : List ℕ → ℕ → Type 0
SpellsWidth ds w = Number ds × (w ≡ min (decimal ds) 255)

abbrev pub SpellsWidths : List (List ℕ) → List ℕ → Type 0
SpellsWidths [] [] = Unit {0}
SpellsWidths [] (w ∷ ws) = ⊥
SpellsWidths (d ∷ ds) [] = ⊥
SpellsWidths (d ∷ ds) (w ∷ ws) = SpellsWidth d w × SpellsWidths ds ws

-- reading a word as a kind of plan
abbrev pub ReadsKind : List ℕ → Result PlanKind LineFault → Type 0
ReadsKind d (Ok kind) = SpellsKind d kind
ReadsKind d (Err fault) = ((kind : PlanKind) → SpellsKind d kind → ⊥) × (fault ≡ UnknownCommand)

-- a word is taken away, and it spells x
abbrev pub Takes : {X : Type 0} → (List ℕ → X → Type 0) → List (List ℕ) → X → List (List ℕ) → Type 0
Takes SpellsIt ws x rest = (ds : List ℕ) × (ws ≡ ds ∷ rest) × SpellsIt ds x

-- ## What a line spells

abbrev pub text_of : Name → List ℕ
text_of name.Plan = codes "plan"
text_of name.Ask = codes "ask"
text_of name.Relate = codes "relate"
text_of name.Between = codes "between"
text_of name.Factory = codes "factory"

-- reading a word as the name of a command
abbrev pub ReadsName : List ℕ → Result Name LineFault → Type 0
ReadsName d (Ok n) = d ≡ text_of n
ReadsName d (Err fault) = ((n : Name) → d ≢ text_of n) × (fault ≡ UnknownCommand)

abbrev pub name_of : Command → Name
name_of (Plan kind widths) = name.Plan
name_of (Ask x) = name.Ask
name_of (Relate x y) = name.Relate
name_of (Between parent bounds) = name.Between
name_of Factory = name.Factory

-- the words behind a command's name
abbrev pub SpellsRest : List (List ℕ) → Command → Type 0
SpellsRest ws (Plan kind widths) = (k : List ℕ) × (ds : List (List ℕ)) × (ws ≡ k ∷ ds) × SpellsKind k kind × SpellsWidths ds (vec_items widths)
SpellsRest ws (Ask x) = (a : List ℕ) × (ws ≡ a ∷ []) × SpellsWord a x
SpellsRest ws (Relate x y) = (a b : List ℕ) × (ws ≡ a ∷ b ∷ []) × SpellsWord a x × SpellsWord b y
SpellsRest ws (Between parent bounds) =
    (a b c : List ℕ) × (ws ≡ a ∷ b ∷ c ∷ []) × SpellsWord a parent × SpellsBound b bounds.lower × SpellsBound c bounds.upper
SpellsRest ws Factory = ws ≡ []

-- the words behind a name spell this command of that name
abbrev pub SpellsBehind : Name → List (List ℕ) → Command → Type 0
SpellsBehind n ws command = (name_of command ≡ n) × SpellsRest ws command

-- ## What is wrong with a line: words are read from left to right, and the first that cannot be read decides

-- what a word has to be: a label word; or that or `none`
pub data Part : Type 0 where
  a_word : Part
  a_bound : Part

abbrev pub Readable : Part → List ℕ → Type 0
Readable a_word ds = LabelWord ds
Readable a_bound ds = (ds ≡ codes "none") ⊎ LabelWord ds

-- words that have to be these parts, no fewer and no more
abbrev pub Misread : List Part → List (List ℕ) → LineFault → Type 0
Misread [] [] fault = ⊥
Misread [] (d ∷ ds) fault = fault ≡ ExtraWord
Misread (p ∷ ps) [] fault = fault ≡ MissingWord
Misread (p ∷ ps) (d ∷ ds) fault = ((Readable p d → ⊥) × (fault ≡ NotALabelWord)) ⊎ (Readable p d × Misread ps ds fault)

-- words that have to be numbers
abbrev pub MisreadNumbers : List (List ℕ) → LineFault → Type 0
MisreadNumbers [] fault = ⊥
MisreadNumbers (d ∷ ds) fault = ((Number d → ⊥) × (fault ≡ NotANumber)) ⊎ (Number d × MisreadNumbers ds fault)

-- widths are read until memory is out or one is no number
abbrev pub MisreadWidths : List (List ℕ) → LineFault → Type 0
MisreadWidths ds fault = (fault ≡ OutOfMemory) ⊎ MisreadNumbers ds fault

-- a kind of plan, and numbers
abbrev pub MisreadPlan : List (List ℕ) → LineFault → Type 0
MisreadPlan [] fault = fault ≡ MissingWord
MisreadPlan (d ∷ ds) fault =
    (((kind : PlanKind) → SpellsKind d kind → ⊥) × (fault ≡ UnknownCommand))
    ⊎ (((kind : PlanKind) × SpellsKind d kind) × MisreadWidths ds fault)

abbrev pub MisreadBehind : Name → List (List ℕ) → LineFault → Type 0
MisreadBehind name.Plan ws fault = MisreadPlan ws fault
MisreadBehind name.Ask ws fault = Misread (a_word ∷ []) ws fault
MisreadBehind name.Relate ws fault = Misread (a_word ∷ a_word ∷ []) ws fault
MisreadBehind name.Between ws fault = Misread (a_word ∷ a_bound ∷ a_bound ∷ []) ws fault
MisreadBehind name.Factory ws fault = Misread [] ws fault

abbrev pub MisreadLine : List (List ℕ) → LineFault → Type 0
MisreadLine [] fault = ⊥
MisreadLine (d ∷ ds) fault =
    (((n : Name) → d ≢ text_of n) × (fault ≡ UnknownCommand)) ⊎ ((n : Name) × (d ≡ text_of n) × MisreadBehind n ds fault)

-- ## What reading a line gives: the command that its words spell, none where it has no word, or what is wrong with it

abbrev pub Parses : List ℕ → Result (Option Command) LineFault → Type 0
Parses line (Ok None) = line_words line ≡ []
Parses line (Ok (Some command)) = (ws : List (List ℕ)) × (line_words line ≡ text_of (name_of command) ∷ ws) × SpellsRest ws command
Parses line (Err fault) = MisreadLine (line_words line) fault
