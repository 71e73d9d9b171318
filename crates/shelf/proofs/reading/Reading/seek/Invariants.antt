use Rattle.std.proofs.Common.{◌-◌}
use Rattle.shelf.proofs.Halves.{Between}
use Rattle.shelf.proofs.reading.Reading.seek.Given as goal

abbrev pub invariant-loop-low : goal.invariant-loop-low
invariant-loop-low g l = Between (g.Self.Reading.rows l.self) l.label l.low l.high

abbrev pub decreases-loop-low : goal.decreases-loop-low
decreases-loop-low g l = l.high - l.low
