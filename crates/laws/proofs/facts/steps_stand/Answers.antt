use Rattle.laws.proofs.Pins.{step_pins}
use Rattle.laws.proofs.Totals.{step_total}
use Rattle.laws.proofs.facts.steps_stand.Goals as goal

pub returns : goal.returns
returns c = record { total = step_total; pins = step_pins }
