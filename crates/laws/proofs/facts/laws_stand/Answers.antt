use Rattle.laws.proofs.ThreeLaws.{three_laws}
use Rattle.laws.proofs.facts.laws_stand.Goals as goal

pub returns : goal.returns
returns c = three_laws
