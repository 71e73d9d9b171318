use Rattle.label.specs.Label.{word_bits}
use Rattle.label.proofs.Theorems.{relates}
use Rattle.label.proofs.relation.relate.Goals as goal

pub returns : goal.returns
returns g c =
    relates (g.P.WidthPlan.width c.args.plan.now) word_bits _ _ _ _ _ c.in_ok-first.ensures.reads
    c.in_ok-second.ensures.reads c.relation_to.ensures
