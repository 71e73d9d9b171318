-- What carrying out a command answers, by what the libraries say, and what it changes. Assumes nothing.
use Rattle.std.specs.Prelude.{◌≡◌, ℕ, ◌⊎◌, List, Some, None, Ok, Err, vec_items, Option, Result}
use Rattle.plan.specs.Plans.{by_either, position_place, level_place, Makes}
use Rattle.plan.specs.declared.any.AnyPlan.{AnyPlan}
use Rattle.plan.specs.declared.fault.PlanFault.{PlanFault}
use Rattle.label.specs.Label.{word_bits}
use Rattle.label.specs.Listed.{TakesApart}
use Rattle.label.specs.Theorems.{Reads, Relates}
use Rattle.label.specs.declared.fault.LabelFault.{LabelFault}
use Rattle.label.specs.declared.reading.WordReading.{WordReading}
use Rattle.label.specs.declared.relation.Relation.{Relation}
use Rattle.label.specs.declared.spelling.Spelling.{Spelling}
use Rattle.gap.specs.Between.{Betweens}
use Rattle.kushrebat.specs.Grammar.{Parses}
use Rattle.kushrebat.specs.declared.answer.Answer.{Answer}
use Rattle.kushrebat.specs.declared.answer.Answer.TheVariants.{Done, Read, Stands, Found, FactoryRows, Refused, Unreadable}
use Rattle.kushrebat.specs.declared.answer.Refusal.{Refusal}
use Rattle.kushrebat.specs.declared.answer.Refusal.TheVariants as refusal
use Rattle.kushrebat.specs.declared.command.Command.{Command}
use Rattle.kushrebat.specs.declared.command.Command.TheVariants.{Plan, Ask, Relate, Between, Factory}
use Rattle.kushrebat.specs.declared.command.PlanKind.{PlanKind}
use Rattle.kushrebat.specs.declared.command.PlanKind.TheVariants as kind
use Rattle.kushrebat.specs.declared.script.fault.LineFault.{LineFault}
use Rattle.kushrebat.specs.declared.session.Session.{Session}

-- which place of a list of widths goes with a level and a position
abbrev pub place_of : PlanKind → ℕ → ℕ → ℕ
place_of kind.Position = position_place
place_of kind.Level = level_place

-- `plan`: a lawful list of widths makes the plan, and any other is refused and leaves everything as it was
abbrev pub Chooses : Session → PlanKind → List ℕ → Result Answer Refusal → Session → Type 0
Chooses before kind widths r after =
    ((r ≡ Ok Done) × Makes by_either (place_of kind) widths (Ok after.plan))
    ⊎ ((fault : PlanFault) × (r ≡ Err (refusal.Plan fault)) × Makes by_either (place_of kind) widths (Err fault) × (after ≡ before))

module _ (plan : AnyPlan) where
  -- `ask`: what reading the word tells, with the label's subvalues, or the fault at which reading stops
  abbrev pub Asks : ℕ → Result Answer Refusal → Type 0
  Asks x r =
      ((reading : WordReading) × (text : Spelling) × (r ≡ Ok (Read reading text)) × Reads (by_either plan) word_bits x (Ok reading)
      × TakesApart (by_either plan) word_bits x (Ok text))
      ⊎ ((fault : LabelFault) × (r ≡ Err (refusal.Label fault)) × Reads (by_either plan) word_bits x (Err fault))

  -- `relate`: the relation of the two words, or the fault of one
  abbrev pub Tells : ℕ → ℕ → Result Answer Refusal → Type 0
  Tells x y r =
      ((relation : Relation) × (r ≡ Ok (Stands relation)) × Relates (by_either plan) word_bits x y (Ok relation))
      ⊎ ((fault : LabelFault) × (r ≡ Err (refusal.Label fault)) × Relates (by_either plan) word_bits x y (Err fault))

  -- `between`: the label between, with its subvalues; or there is none; or the fault of the parent
  abbrev pub Finds : ℕ → Option ℕ → Option ℕ → Result Answer Refusal → Type 0
  Finds parent lower upper r =
      ((x : ℕ) × (text : Spelling) × (r ≡ Ok (Found x text)) × Betweens (by_either plan) word_bits parent lower upper (Ok (Some x))
      × TakesApart (by_either plan) word_bits x (Ok text))
      ⊎ ((r ≡ Err refusal.NoPlace) × Betweens (by_either plan) word_bits parent lower upper (Ok None))
      ⊎ ((fault : LabelFault) × (r ≡ Err (refusal.Label fault)) × Betweens (by_either plan) word_bits parent lower upper (Err fault))

-- each command's answer; only `plan` changes anything
abbrev pub Carries : Session → Command → Result Answer Refusal → Session → Type 0
Carries before (Plan kind widths) r after = Chooses before kind (vec_items widths) r after
Carries before (Ask x) r after = Asks before.plan x r × (after ≡ before)
Carries before (Relate x y) r after = Tells before.plan x y r × (after ≡ before)
Carries before (Between parent bounds) r after = Finds before.plan parent bounds.lower bounds.upper r × (after ≡ before)
Carries before Factory r after = (r ≡ Ok FactoryRows) × (after ≡ before)

-- what a refusal or an answer is printed as
abbrev pub answer_of : Result Answer Refusal → Answer
answer_of (Ok answer) = answer
answer_of (Err why) = Refused why

-- a line that was read so: a command is carried out and answered, a line with no word is passed over, and any other is told unreadable
abbrev pub Follows : Session → Result (Option Command) LineFault → Option Answer → Session → Type 0
Follows before (Ok None) r after = (r ≡ None) × (after ≡ before)
Follows before (Ok (Some command)) r after =
    (done : Result Answer Refusal) × (r ≡ Some (answer_of done)) × Carries before command done after
Follows before (Err fault) r after = (r ≡ Some (Unreadable fault)) × (after ≡ before)

abbrev pub AnswersLine : Session → List ℕ → Option Answer → Session → Type 0
AnswersLine before line r after = (parsed : Result (Option Command) LineFault) × Parses line parsed × Follows before parsed r after
