use Rattle.std.proofs.Common.{arith}
use Rattle.shelf.proofs.Ranks.{present_is}
use Rattle.shelf.proofs.Halves.{between_end}
use Rattle.shelf.proofs.slice.seek_rows.Goals as goal

pub returns-then-here-label-clause-sought : goal.returns-then-here-label-clause-sought
returns-then-here-label-clause-sought c = λ up. present_is _ _ _ up (omega arith) c.if-here-label.true

pub returns-clause-sought : goal.returns-clause-sought
returns-clause-sought c = λ up. between_end _ _ _ _ (c.loop-low.invariant.2 up) c.loop-low-test.false
