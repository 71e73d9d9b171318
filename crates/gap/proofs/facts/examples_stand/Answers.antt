use Rattle.gap.proofs.Examples.{examples_hold}
use Rattle.gap.proofs.facts.examples_stand.Goals as goal

pub returns : goal.returns
returns c = examples_hold
