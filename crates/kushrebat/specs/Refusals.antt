-- The refusals of calls: their numbers, their names and how they are printed. Assumes nothing.
use Rattle.std.specs.Prelude.{ℕ, List, ◌++◌, codes, decimal}
use Rattle.plan.specs.Fault as plan
use Rattle.label.specs.Fault as label
use Rattle.kushrebat.specs.declared.answer.Refusal.{Refusal}
use Rattle.kushrebat.specs.declared.answer.Refusal.TheVariants.{Plan, Label, NoPlace}

abbrev pub number_of : Refusal → ℕ
number_of (Plan fault) = plan.number_of fault
number_of (Label fault) = label.number_of fault
number_of NoPlace = 12

abbrev pub name_of : Refusal → List ℕ
name_of (Plan fault) = plan.name_of fault
name_of (Label fault) = label.name_of fault
name_of NoPlace = codes "NO PLACE"

-- the refusal as it is printed: its number and its name, and what a label's fault carries
abbrev pub written : Refusal → List ℕ
written (Plan fault) = plan.written fault
written (Label fault) = label.text_of fault
written NoPlace = decimal (number_of NoPlace) ++ (codes " " ++ name_of NoPlace)
