use Rattle.std.proofs.Common.{◌-◌, ◌≤◌, length}
use Rattle.shelf.specs.Rows.{Rising}
use Rattle.shelf.proofs.Halves.{Between}
use Rattle.shelf.proofs.slice.seek_rows.Given as goal

abbrev pub invariant-loop-low : goal.invariant-loop-low
invariant-loop-low l = (l.low ≤ l.high) × (l.high ≤ length l.rows) × (Rising l.rows → Between l.rows l.label l.low l.high)

abbrev pub decreases-loop-low : goal.decreases-loop-low
decreases-loop-low l = l.high - l.low
