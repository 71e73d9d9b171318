use Rattle.std.proofs.Common.{sym}
use Rattle.shelf.proofs.Ranks.{equal_same, less_below, greater_above}
use Rattle.chain.proofs.Walks.{passed_more, vacant_past, vacant_here, held_here}
use Rattle.chain.proofs.chain.Chain.seat.Goals as goal

pub returns-in-Equal : goal.returns-in-Equal
returns-in-Equal c =
    held_here _ _ _ _ _ _ _ c.loop-index.invariant c.args.self.now.rising c.loop-index-test.true (equal_same _ _ (sym c.in-Equal.ensures))

pub returns-in-Greater : goal.returns-in-Greater
returns-in-Greater c =
    vacant_here _ _ _ _ _ _ _ c.loop-index.invariant c.args.self.now.rising c.loop-index-test.true (greater_above _ _ (sym c.in-Greater.ensures))

pub loop-index-preserved : goal.loop-index-preserved
loop-index-preserved c =
    rw c.from-at-in-Less.ensures (passed_more _ _ _ _ _ _ _ c.loop-index.invariant c.loop-index-test.true (less_below _ _ (sym c.in-Less.ensures)))

pub returns : goal.returns
returns c =
    let chain = c.args.self.now in
    vacant_past chain.links.now chain.head chain.len c.args.label c.loop-index.index _ _ c.loop-index.invariant
    c.loop-index-test.false
