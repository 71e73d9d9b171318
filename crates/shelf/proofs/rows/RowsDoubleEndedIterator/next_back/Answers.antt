use Rattle.std.proofs.Common.{rules}
use Rattle.shelf.proofs.Stretches.{stretch_last}
use Rattle.shelf.proofs.rows.RowsDoubleEndedIterator.next_back.Goals as goal

pub returns-clause-steps : goal.returns-clause-steps
returns-clause-steps g c = search (rules, stretch_last)
