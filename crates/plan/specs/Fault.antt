-- The refusal of a plan: its number and its name. It carries no value.
use Rattle.std.specs.Prelude.{ℕ, List, ◌++◌, codes, decimal}
use Rattle.plan.specs.declared.fault.PlanFault.{PlanFault}
use Rattle.plan.specs.declared.fault.PlanFault.TheVariants.{Unlawful}

abbrev pub number_of : PlanFault → ℕ
number_of Unlawful = 24

abbrev pub name_of : PlanFault → List ℕ
name_of Unlawful = codes "PLAN"

-- the refusal as it is printed: the number, a space and the name, as ASCII bytes
abbrev pub written : PlanFault → List ℕ
written fault = decimal (number_of fault) ++ (codes " " ++ name_of fault)
