use Rattle.shelf.proofs.Ranks.{present_row}
use Rattle.shelf.proofs.Halves.{between_end}
use Rattle.shelf.proofs.reading.Reading.seek.Goals as goal

pub returns-then-row-label : goal.returns-then-row-label
returns-then-row-label g c = present_row _ _ _ c.in-Some.row (g.met.Self.Reading.lawful _).rising c.in-Some.ensures c.if-row-label.true

pub returns : goal.returns
returns g c = between_end _ _ _ _ c.loop-low.invariant c.loop-low-test.false
