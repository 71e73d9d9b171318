use Rattle.chain.proofs.Walks.{Passed}
use Rattle.chain.proofs.chain.Chain.seat.Given as goal

abbrev pub invariant-loop-index : goal.invariant-loop-index
invariant-loop-index l = let c = l.self in Passed c.links.now c.head c.len l.label l.index l.at l.before
