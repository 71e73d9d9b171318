-- The widths of the plans, by level (from 1) and position (from 0), and what making and setting one answers. Assumes nothing.
use Rattle.std.specs.Prelude.{◌≡◌, ℕ, List, Ok, Err, Result}
use Rattle.plan.specs.Widths.{served, Proper}
use Rattle.plan.specs.declared.any.AnyPlan.{AnyPlan}
use Rattle.plan.specs.declared.any.AnyPlan.TheVariants.{Position, Level}
use Rattle.plan.specs.declared.axis.ByLevel.{ByLevel}
use Rattle.plan.specs.declared.axis.ByPosition.{ByPosition}
use Rattle.plan.specs.declared.list_plan.ListPlan.{ListPlan}
pub use Rattle.plan.specs.Places.{level_place, position_place}
use Rattle.plan.specs.declared.fault.PlanFault.{PlanFault}

-- a plan's widths, each at its place
abbrev pub by_place : {A : Type 0} → (place : ℕ → ℕ → ℕ) → ListPlan A → ℕ → ℕ → ℕ
by_place place plan level position = served plan.widths.bits (place level position)

abbrev pub by_position : ListPlan ByPosition → ℕ → ℕ → ℕ
by_position = by_place position_place

abbrev pub by_level : ListPlan ByLevel → ℕ → ℕ → ℕ
by_level = by_place level_place

abbrev pub by_either : AnyPlan → ℕ → ℕ → ℕ
by_either (Position plan) = by_position plan
by_either (Level plan) = by_level plan

-- a plan has the widths of a list, each at its place
abbrev pub Has : {P : Type 0} → (P → ℕ → ℕ → ℕ) → (place : ℕ → ℕ → ℕ) → List ℕ → P → Type 0
Has width place widths plan = (level position : ℕ) → width plan level position ≡ served widths (place level position)

-- a lawful list makes the plan with its widths, and any other is refused
abbrev pub Makes : {P : Type 0} → (P → ℕ → ℕ → ℕ) → (place : ℕ → ℕ → ℕ) → List ℕ → Result P PlanFault → Type 0
Makes width place widths (Ok plan) = Proper widths × Has width place widths plan
Makes width place widths (Err fault) = Proper widths → ⊥

-- a lawful list gives a plan its widths, and any other is refused and leaves the plan as it was
abbrev pub Sets : {P : Type 0} → (P → ℕ → ℕ → ℕ) → (place : ℕ → ℕ → ℕ) → List ℕ → P → Result (Unit {0}) PlanFault → P → Type 0
Sets width place widths before (Ok done) after = Proper widths × Has width place widths after
Sets width place widths before (Err fault) after = (Proper widths → ⊥) × (after ≡ before)
