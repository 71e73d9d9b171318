use Rattle.std.proofs.Common.{◌≡◌}
use Rattle.chain.specs.Links.{slot_at}
use Rattle.chain.proofs.chain.Chain.slot.Given as goal

abbrev pub invariant-loop : goal.invariant-loop
invariant-loop l = l.at ≡ slot_at l.self.links.now l.self.head l.counter
