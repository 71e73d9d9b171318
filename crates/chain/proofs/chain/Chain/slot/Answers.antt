use Rattle.std.proofs.Common.{◌≡◌, ap, ◌∙◌, arith}
use Rattle.chain.specs.Links.{slot_at}
use Rattle.chain.proofs.Walks.{slot_more, row_walked}
use Rattle.chain.proofs.chain.Chain.slot.Goals as goal

pub loop-preserved : goal.loop-preserved
loop-preserved c =
    let chain = c.args.self.now in
    c.from-at-in-loop.ensures ∙ slot_more chain.links.now chain.head c.loop.counter c.loop.at c.loop.invariant

pub returns-clause-row : goal.returns-clause-row
returns-clause-row c =
    let chain = c.args.self.now in
    let all : c.loop.counter ≡ c.args.index = omega arith in
    row_walked chain.links.now chain.head chain.len c.args.index c.loop.at (c.loop.invariant ∙ ap (slot_at chain.links.now chain.head) all) c.requires
