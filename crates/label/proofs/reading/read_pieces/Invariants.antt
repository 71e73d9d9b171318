use Rattle.label.specs.Label.{word_bits}
use Rattle.label.proofs.Readings.{Gathered}
use Rattle.label.proofs.reading.read_pieces.Given as goal

abbrev pub invariant-pieces : goal.invariant-pieces
invariant-pieces g l =
    Gathered (g.P.WidthPlan.width l.plan) word_bits l.word l.cursor.spot.left l.cursor.rest l.cursor.spot.level l.cursor.spot.position l.parent

abbrev pub decreases-pieces : goal.decreases-pieces
decreases-pieces g l = l.cursor.spot.left
