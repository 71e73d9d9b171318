use Rattle.laws.proofs.Example.{example_runs}
use Rattle.laws.proofs.facts.example_stands.Goals as goal

pub returns : goal.returns
returns c = example_runs
