use Rattle.std.proofs.Common.{◌+◌, ◌≤◌}
use Rattle.label.specs.Label.{word_bits}
use Rattle.label.specs.Listed.{listed}
use Rattle.label.proofs.Apart.{Taken}
use Rattle.label.proofs.taking_apart.subvalues.Given as goal

abbrev pub invariant-pieces : goal.invariant-pieces
invariant-pieces g l =
    (l.spelling.count + l.spelling.count + l.cursor.spot.left ≤ word_bits)
    × Taken (g.P.WidthPlan.width l.plan) word_bits l.word l.cursor.spot.left l.cursor.rest l.cursor.spot.level l.cursor.spot.position (listed l.spelling)

abbrev pub decreases-pieces : goal.decreases-pieces
decreases-pieces g l = l.cursor.spot.left
