-- What a shelf means whose labels are read under a plan. Assumes nothing.
use Rattle.std.specs.Prelude.{List}
use Rattle.plan.specs.declared.width_plan.WidthPlan.{Ghosts as Plan}
use Rattle.label.specs.Label.{word_bits}
use Rattle.shelf.specs.declared.reading.Reading.{Ghosts as Reading}
use Rattle.shelf.specs.declared.row.Row.{Row}
use Rattle.gap.specs.Labels.{Labels}
use Rattle.gap.specs.PlanLabels.{labels_of}
use Rattle.neighbours.specs.declared.planned.PlannedShelf.{PlannedShelf}

-- the labels of the plan
abbrev pub labels : {P S : Type 0} → Plan P → PlannedShelf P S → Labels
labels plan s = labels_of (plan.width s.plan.now) word_bits

-- the rows of the shelf
abbrev pub rows : {P S : Type 0} → Reading S → PlannedShelf P S → List Row
rows reading s = reading.rows s.shelf.now
